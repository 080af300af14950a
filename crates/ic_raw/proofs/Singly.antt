-- These lemmas say what the calls of a singly linked list read from the words, and to which places the links lead.
use Rattle.std.proofs.Common.{◌≡◌, ◌≢◌, ◌↔◌, ◌≤◌, Option, Some, None, List, [], ◌∷◌, ◌++◌, length, true, refl, sym, ap, subst, ◌∙◌, arith}
use Rattle.ic_link_ops.specs.Prelude.{Place, index_of, Cut, join, first_or, first, last, IsAbsent, IsDistinct, IsAfter, Table, ChangesOnly, IsCovered, IsLinked, KeepsLinked, Unlinks, LinkStep, acquires, releases, Front, IsFollowed, list_from, successor_at}
use Rattle.ic_link_ops.specs.Chains.{IsChain}
use Rattle.ic_link_ops.specs.EntryLaws.{linked_in_range}
use Rattle.ic_link_ops.proofs.Prelude.{first_of_back, first_or-append, last_of_push, none_not, some_same, chain_glue, chain_one, before_gap}
use Rattle.ic_link_ops.proofs.SinglyLists.{followed_linked, followed_one}
use Rattle.ic_raw.specs.declared.words.RawOne.{RawOne}
use Rattle.ic_raw.specs.declared.words.RawFront.{RawFront}
use Rattle.ic_raw.specs.declared.table.RawTable.{RawTable}
use Rattle.ic_raw.specs.declared.gap.Gap.{Gap}
use Rattle.ic_raw.specs.Prelude.{gap_of, no_word, is_linked_one, IsFree, raw_entries}
use Rattle.ic_raw.specs.Touches.{IsNoneOf, Touches}
use Rattle.ic_raw.specs.Singly.{LeadsTo, Represents, RepresentsSome, TellsGap, TellsMember, table_of, lent_table, list_of, successor, next_from}
use Rattle.ic_raw.proofs.Views.{viewed, represented_back}
use Rattle.ic_raw.proofs.Lists.{kept}
use Rattle.ic_raw.proofs.Touches.{touches_insert, touches_remove, touches_replace}

-- a place that has a next place in a list, or is the last place of a list, is linked
pub law : (e : RawOne) (b a : Option Place) → IsFollowed successor e b a → is_linked_one e ≡ true
law = followed_linked {s = successor} {linked = is_linked_one} (λ e. refl)

-- a linked place belongs to the table
pub covered : (t : RawTable RawOne) (q : Place) → is_linked_one ((lent_table t).entry q) ≡ true → IsCovered (lent_table t) q
covered t q on = linked_in_range is_linked_one no_word refl (raw_entries t) (index_of q) on

-- the links lead from the place before a gap to the place after the gap
pub next_represented : {t : Table RawOne} {list : Front} (front back : List Place) → Represents t list (front ++ back) → (at : Option Place) → at ≡ last front → next_from t list at ≡ first back
next_represented front back shown None e = shown.head ∙ first_of_back front back e
next_represented front back shown (Some q) e = (before_gap front back shown e).next

-- a gap that a call finds in a view is the gap of the sequence that the words represent
pub gap_viewed : (t : RawTable RawOne) {words : List RawOne} {list shown : Front} {at named : Option Place} {found : Option Gap}
    → raw_entries t ≡ words → list ≡ shown → at ≡ named
    → ((cut : Cut) → Represents (lent_table t) list (join cut) → IsAfter cut at → found ≡ Some (gap_of cut))
    → (cut : Cut) → Represents (table_of words) shown (join cut) → IsAfter cut named → found ≡ Some (gap_of cut)
gap_viewed t view same is finds cut shows after = finds cut (rw same (viewed no_word kept t view shows)) (is ∙ after)

-- the place that a call finds after `at` in a view is the place after `at` in the words that the caller lent
pub after_told : (t : RawTable RawOne) {words : List RawOne} (list : RawFront) {shown : Front} {at named : Option Place} {gap : Gap} {q : Place}
    → raw_entries t ≡ words → shown ≡ list_of list → at ≡ named → gap ≡ record { before = at; after = next_from (lent_table t) shown at } → gap.after ≡ Some q
    → next_from (table_of words) (list_of list) named ≡ Some q
after_told t list {shown} {at} {named} {gap} {q} view same is found stands =
    let seen : next_from (lent_table t) shown at ≡ Some q = sym (ap (λ (g : Gap). g.after) found) ∙ stands in
    let there = subst (λ l. next_from (lent_table t) l at ≡ Some q) same seen in
    let back : next_from (table_of (raw_entries t)) (list_of list) named ≡ Some q = subst (λ a. next_from (lent_table t) (list_of list) a ≡ Some q) is there in
    subst (λ es. next_from (table_of es) (list_of list) named ≡ Some q) view back

-- A VIEW CONFIRMS a gap, a member, or a list with an end exactly if the words that the caller lent do
module _ (t : RawTable RawOne) {words : List RawOne} {list shown : Front} (view : raw_entries t ≡ words) (same : shown ≡ list) where
  pub gap_same : {at named : Option Place} → at ≡ named → TellsGap (lent_table t) shown at ↔ TellsGap (table_of words) list named
  gap_same {at} {named} is =
      let seen = TellsGap (lent_table t) shown at in
      let it : seen ↔ TellsGap (table_of (raw_entries t)) shown at = ((λ x. x), (λ x. x)) in
      subst (λ es. seen ↔ TellsGap (table_of es) list named) view
      (subst (λ l. seen ↔ TellsGap (table_of (raw_entries t)) l named) same (subst (λ a. seen ↔ TellsGap (table_of (raw_entries t)) shown a) is it))

  pub member_same : {at named : Option Place} → at ≡ named → TellsMember (lent_table t) shown at ↔ TellsMember (table_of words) list named
  member_same {at} {named} is =
      let seen = TellsMember (lent_table t) shown at in
      let it : seen ↔ TellsMember (table_of (raw_entries t)) shown at = ((λ x. x), (λ x. x)) in
      subst (λ es. seen ↔ TellsMember (table_of es) list named) view
      (subst (λ l. seen ↔ TellsMember (table_of (raw_entries t)) l named) same (subst (λ a. seen ↔ TellsMember (table_of (raw_entries t)) shown a) is it))

  pub some_represented : RepresentsSome (lent_table t) shown ↔ RepresentsSome (table_of words) list
  some_represented = (
    (λ x. (x.0, represented_back no_word kept t view (subst (λ l. Represents (lent_table t) l x.0) same x.1))),
    (λ x. (x.0, viewed no_word kept t view (subst (λ l. Represents (table_of words) l x.0) (sym same) x.1))),
  )

-- the words confirm the first member of a list if this member is linked
pub member_first : (t : Table RawOne) {list : Front} {p : Place} → list.head ≡ Some p → is_linked_one (t.entry p) ≡ true → TellsMember t list None
member_first t {p = p} is on = (
  ((λ q e. absurd (none_not q e)), (λ q e. subst (λ z. is_linked_one (t.entry z) ≡ true) (some_same (sym is ∙ e)) on)),
  (λ none. none_not p (sym none ∙ is)),
)

-- the words confirm the member after `at` if they confirm the gap after `at` and a place is after the gap
pub member_told : (t : Table RawOne) (list : Front) {at : Option Place} {gap : Gap} {p : Place} → TellsGap t list at → gap ≡ record { before = at; after = next_from t list at }
    → gap.after ≡ Some p → TellsMember t list at
member_told t list {p = p} links_back found is = (links_back, (λ none. none_not p (sym none ∙ sym (ap (λ (g : Gap). g.after) found) ∙ is)))

-- for a list without a first member, a table represents the empty sequence
pub represents_none : (t : Table RawOne) (list : Front) → list.head ≡ None → RepresentsSome t list
represents_none t list is = ([], record { distinct = tt; chain = tt; head = is; tail = refl })

-- A CHAIN THAT ENDS COMES TO NO PLACE TWICE. If it came to a place twice, it would go on in the same way after both visits, so that equally many
-- places would follow each visit. But fewer places follow the second visit than the first
module _ (t : Place → RawOne) where
  -- a chain stays a chain whatever the place before it is, because the entries of a singly linked list do not name previous places
  pub after_any : (b b' : Option Place) (w : List Place) (a : Option Place) → IsChain (IsFollowed successor) t b w a → IsChain (IsFollowed successor) t b' w a
  after_any b b' [] a c = tt
  after_any b b' (x ∷ w) a c = (record { linked = c.0.linked; next = c.0.next }, c.1)

  not_ahead : (b b' : Option Place) (x : Place) (w rest : List Place) → IsChain (IsFollowed successor) t b (x ∷ w) None → IsChain (IsFollowed successor) t b' rest None
      → length rest ≤ length w → IsAbsent x rest
  not_ahead b b' x w [] c k few = tt
  not_ahead b b' x w (y ∷ rest) c k few = (
    (λ e.
        let same : x ∷ w ≡ y ∷ rest = chain_one (IsFollowed successor) followed_one t b (x ∷ w) (y ∷ rest) (ap Some e) c (after_any b' b (y ∷ rest) None k) in
        omega (arith, ap length same, few)),
    not_ahead b (Some y) x w rest c k.1 (omega (arith, few)),
  )

  pub ended_distinct : (b : Option Place) (w : List Place) → IsChain (IsFollowed successor) t b w None → IsDistinct w
  ended_distinct b [] c = tt
  ended_distinct b (x ∷ w) c = (not_ahead b (Some x) x w w c c.1 (omega arith), ended_distinct (Some x) w c.1)

module _ {t : Table RawOne} {front at : Place} (leads : LeadsTo t front at) (linked : is_linked_one (t.entry at) ≡ true) where
  -- the places that a walk has passed and the place `at` are a chain, which leads to the place after `at`
  chain_on : (next : Option Place) → (successor_at successor t at).next ≡ next → IsChain (IsFollowed successor) t.entry None (leads.walked ++ at ∷ []) next
  chain_on next after =
      chain_glue (IsFollowed successor) t.entry None leads.walked (at ∷ []) next leads.chain (record { linked = linked; next = after }, tt)

  starts_on : (next : Option Place) → Some front ≡ first_or (leads.walked ++ at ∷ []) next
  starts_on next = leads.starts ∙ sym (first_or-append leads.walked (at ∷ []) next)

  -- if the links lead to `at`, they lead on to the place after `at`
  pub leads_on : {next : Place} → (successor_at successor t at).next ≡ Some next → LeadsTo t front next
  leads_on {next} after = record { walked = leads.walked ++ at ∷ []; chain = chain_on (Some next) after; starts = starts_on (Some next) }

  -- if no place is after `at`, the places of the walk are a list, whose last member is `at`
  pub ends_there : (successor_at successor t at).next ≡ None → (s : List Place) × Represents t (list_from (Some front)) s × (Some at ≡ last s)
  ends_there after =
      let chain = chain_on None after in (
        leads.walked ++ at ∷ [],
        record { distinct = ended_distinct t.entry None (leads.walked ++ at ∷ []) chain; chain = chain; head = starts_on None; tail = refl },
        sym (last_of_push leads.walked at),
      )

-- a place that differs from each place of a list of options still does if the option none is added to the list
apart_none : (places : List (Option Place)) (q : Place) → IsNoneOf places q → IsNoneOf (places ++ None ∷ []) q
apart_none [] q out = (none_not q, tt)
apart_none (end ∷ places) q out = (out.0, apart_none places q out.1)

pub touches_places : {old new : Table RawOne} {steps : List LinkStep} (places : List (Option Place)) → Touches is_linked_one old new steps (places ++ None ∷ [])
    → Touches is_linked_one old new steps places
touches_places places k = record { steps_are = k.steps_are; others = λ q out. k.others q (apart_none places q out) }

-- AN EDIT OF A SINGLY LINKED LIST TOUCHES NO PLACE AFTER ITS GAP, because the entries of a singly linked list do not name previous places
module _ {old mid new : Table RawOne} {before after : Option Place} {p : Place} where
  pub touches_put : IsFree is_linked_one old p → IsLinked is_linked_one mid p → ChangesOnly old mid p → KeepsLinked is_linked_one mid new
      → ((q : Place) → before ≢ Some q → q ≢ p → (⊥ → after ≢ Some q) → new.entry q ≡ mid.entry q)
      → Touches is_linked_one old new (acquires p ∷ []) (Some p ∷ before ∷ [])
  touches_put free is only keeps others =
      touches_places (Some p ∷ before ∷ []) (touches_insert {Names = ⊥} {following = None} free is only keeps (λ q away other none. others q away other (λ no. absurd no)))

  pub touches_off : KeepsLinked is_linked_one old mid → ((q : Place) → before ≢ Some q → (⊥ → after ≢ Some q) → mid.entry q ≡ old.entry q)
      → Unlinks is_linked_one mid new p → ChangesOnly mid new p → Touches is_linked_one old new (releases p ∷ []) (Some p ∷ before ∷ [])
  touches_off keeps others off only =
      touches_places (Some p ∷ before ∷ []) (touches_remove {Names = ⊥} {following = None} keeps (λ q away none. others q away (λ no. absurd no)) off only)

pub touches_exchanged : {old mid turned new : Table RawOne} {before after : Option Place} {p gone : Place} → IsFree is_linked_one old p → IsLinked is_linked_one mid p
    → ChangesOnly old mid p → KeepsLinked is_linked_one mid turned
    → ((q : Place) → before ≢ Some q → q ≢ p → (⊥ → after ≢ Some q) → turned.entry q ≡ mid.entry q)
    → Unlinks is_linked_one turned new gone → ChangesOnly turned new gone
    → Touches is_linked_one old new (acquires p ∷ releases gone ∷ []) (Some p ∷ Some gone ∷ before ∷ [])
touches_exchanged {before} {p} {gone} free is only keeps others off gone_only =
    touches_places (Some p ∷ Some gone ∷ before ∷ [])
    (touches_replace {Names = ⊥} {following = None} free is only keeps (λ q away other none. others q away other (λ no. absurd no)) off gone_only)
