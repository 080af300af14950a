-- Lemmas about a hash table that has every object: it still has every object after each kind of call, and what a search finds.
use Rattle.std.proofs.Common.{◌≡◌, ◌≢◌, ℕ, suc, ◌+◌, ◌≤◌, ◌<◌, Bool, true, false, Option, None, Some, IsSome, is_some, List, [], ◌∷◌, ◌++◌, cond, count_by, eq-eqb, eqb-true, filter, nat_eq, length, refl, sym, ap, ◌∙◌, subst, arith, true≢false}
use Rattle.std.proofs.lemmas.Bool.{false_from_ne_true}
use Rattle.std.proofs.lemmas.List.Sums.{sum_by-cons}
use Rattle.std.specs.Bool.{⊤, OnTrue}
use Rattle.std.specs.List.{AllByRecursion, cons_option}
use Rattle.ic_link_ops.specs.Prelude.{Place, index_of, Objects, Places, Frees, object_at, is_placed, IsAbsent, IsDistinct, IsMember, Table, IsCovered, IsLinked, IsUnlinked, LinksAlso, Unlinks, values_at, link_of, entries, linked_by, table, Successor, Width, nameable}
use Rattle.ic_link_ops.proofs.Prelude.{gone_there, others_left, others_placed, placed_there, all_beside, vacant_absent, absent_left, absent_right, absent_with, absent_without, distinct_left, distinct_middle, distinct_right, member_split, none_not, split_member}
use Rattle.ic_link_ops.specs.declared.table.PlainTable.{PlainTable}
use Rattle.ic_link_ops.specs.EntryLaws.{linked_in_range}
use Rattle.ic_link_ops.proofs.LinkedSets.{everywhere}
use Rattle.ic_hash_table.specs.declared.slots.Slots.{Slots}
use Rattle.ic_hash_table.specs.declared.table.HashTable.{HashTable}
use Rattle.ic_hash_table.specs.Prelude.{AreChained, RepresentsFrom, matches, passes, Finds, StopsAt, slot_of}
use Rattle.ic_hash_table.specs.HashTable.{front_at, BelongsIn, Holds, HoldsWith, IsNew}
use Rattle.ic_hash_table.proofs.Callers.{new_held}
use Rattle.ic_hash_table.proofs.Chains.{chains_free}
use Rattle.ic_hash_table.proofs.ChainParts.{of_members}
use Rattle.ic_hash_table.proofs.FoundMembers.{chain_of, finds, none_elsewhere}
use Rattle.ic_hash_table.proofs.SlotLemmas.{slot_used}
use Rattle.ic_container.specs.Trees.{IsFound}
use Rattle.ic_container.proofs.ValueLemmas.{member_placed, no_more, there_is}
use Rattle.ic_indexed.specs.Indexed.{IsOrderOf}
use Rattle.ic_hash_index.specs.HashIndex.{HoldsAll}

-- only places that a plain table covers are linked, for words of every width. `singly_off` says that no place is linked if the table covers none
module _ {W A : Type 0} (width : Width) (unlinked : W) (is_linked : W → Bool) (starts : is_linked unlinked ≡ false) (links : PlainTable W A ⊤) where
  pub singly_covered : (p : Place) → IsLinked (linked_by is_linked) (table width unlinked links) p → IsCovered (table width unlinked links) p
  singly_covered p is = linked_in_range (linked_by is_linked) (link_of unlinked) starts (nameable width (entries links)) (index_of p) is

  pub singly_off : (table width unlinked links).extent.places ≡ 0 → (p : Place) → IsUnlinked (linked_by is_linked) (table width unlinked links) p
  singly_off none p = false_from_ne_true _ (λ is. let within = singly_covered p is in absurd (omega (arith, within, none)))

-- if X holds in the case that `answer` is true, and `answer` is true, then X holds
pub on_true : {X : Type 0} (answer : Bool) → OnTrue answer X → answer ≡ true → X
on_true true h e = h
on_true false h e = absurd (true≢false (sym e))

-- a fact about each member of a list of places holds for each place that is a member of the list
at_member : (P : Place → Type 0) (s : List Place) → AllByRecursion P s → (q : Place) → IsMember q s → P q
at_member P s all q member = let m = member_split q s member in at m.0 m.1 (subst (AllByRecursion P) m.2 all) where
  at : (front back : List Place) → AllByRecursion P (front ++ q ∷ back) → P q
  at [] back all = all.0
  at (x ∷ front) back all = at front back all.1

-- if a place q passes the test, and q is not among the places of s that pass the test, then q is not in s
absent_filtered : (test : Place → Bool) (q : Place) → test q ≡ true → (s : List Place) → IsAbsent q (filter test s) → IsAbsent q s
absent_filtered test q passed [] out = tt
absent_filtered test q passed (x ∷ s) out = by (test x) refl (absent_filtered test q passed s) out where
  by : (b : Bool) → test x ≡ b → (IsAbsent q (filter test s) → IsAbsent q s) → IsAbsent q (cond b (x ∷ filter test s) (filter test s)) → IsAbsent q (x ∷ s)
  by true e rest out = (out.0, rest out.1)
  by false e rest out = ((λ same. true≢false (sym passed ∙ ap test same ∙ e)), rest out)

member_filtered : (test : Place → Bool) (q : Place) → test q ≡ true → (s : List Place) → IsMember q s → IsMember q (filter test s)
member_filtered test q passed s member = λ out. member (absent_filtered test q passed s out)

-- if no place of s passes the test, the list of places that pass is empty
filter_none : (test : Place → Bool) (s : List Place) → AllByRecursion (λ q. test q ≡ false) s → length (filter test s) ≡ 0
filter_none test [] none = refl
filter_none test (x ∷ s) none = rw none.0 (filter_none test s none.1)

-- the number of places whose object passes the test is the number of values that pass the test
values_counted : {T : Type 0} (test : T → Bool) (objects : Objects T) (s : List Place) → length (filter (matches test objects) s) ≡ count_by test (values_at objects s)
values_counted test objects [] = refl
values_counted {T} test objects (x ∷ s) = by (object_at objects x) (values_counted test objects s) where
  on : (b : Bool) (f : List Place) (n : ℕ) → length f ≡ n → length (cond b (x ∷ f) f) ≡ cond b 1 0 + n
  on true f n e = omega (arith, e)
  on false f n e = omega (arith, e)

  by : (o : Option T) → length (filter (matches test objects) s) ≡ count_by test (values_at objects s)
      → length (cond (passes test o) (x ∷ filter (matches test objects) s) (filter (matches test objects) s)) ≡ count_by test (cons_option o (values_at objects s))
  by None rest = rest
  by (Some v) rest = on (test v) (filter (matches test objects) s) (count_by test (values_at objects s)) rest ∙ sym (sum_by-cons (λ w. cond (test w) 1 0) v (values_at objects s))

-- ANOTHER OBJECT AT p: if only the object at p changes, and p is not a member of s, then the members of s still belong in their chains
belongs_beside : {T : Type 0} (slots : Slots) (hash : T → ℕ) (objects new : Objects T) (p : Place) → ((q : Place) → q ≢ p → object_at new q ≡ object_at objects q) → (i : ℕ) (s : List Place) → IsAbsent p s
    → AllByRecursion (BelongsIn slots hash objects i) s → AllByRecursion (BelongsIn slots hash new i) s
belongs_beside slots hash objects new p same i [] out own = tt
belongs_beside slots hash objects new p same i (x ∷ s) out own = (λ v there. own.0 v (sym (same x (λ e. out.0 (sym e))) ∙ there), belongs_beside slots hash objects new p same i s out.1 own.1)

chains_beside : {E T : Type 0} (succ : E → Successor) (slots : Slots) (hash : T → ℕ) (objects new : Objects T) (p : Place) → ((q : Place) → q ≢ p → object_at new q ≡ object_at objects q) → (t : Table E) (i : ℕ) (row : List (Option Place))
    (s : List Place) → IsAbsent p s → AreChained succ (BelongsIn slots hash objects) t i row s → AreChained succ (BelongsIn slots hash new) t i row s
chains_beside succ slots hash objects new p same t i [] s out h = h
chains_beside succ slots hash objects new p same t i (f ∷ fs) s out (chain, rest, is, shown, own, more) =
    let o = subst (IsAbsent p) is out in (
      chain,
      rest,
      is,
      shown,
      belongs_beside slots hash objects new p same i chain (absent_left p chain rest o) own,
      chains_beside succ slots hash objects new p same t (suc i) fs rest (absent_right p chain rest o) more,
    )

held_beside : {E A B T : Type 0} {succ : E → Successor} {hash : A → T → ℕ} {fronts : B → List (Option Place)} {t : Table E} {table : HashTable A B} {objects new : Objects T} (p : Place)
    → ((q : Place) → q ≢ p → object_at new q ≡ object_at objects q) → (s : List Place) → IsAbsent p s → Holds succ hash fronts t table objects s → Holds succ hash fronts t table new s
held_beside {succ = succ} {hash} {fronts} {t} {table} {objects} {new} p same s out held = record {
  distinct = held.distinct;
  chained = chains_beside succ table.slots (hash table.adapter) objects new p same t 0 (fronts table.buckets) s out held.chained;
  placed = all_beside objects new p same IsSome s out held.placed;
  counted = held.counted;
  well_formed = held.well_formed;
  enough = held.enough;
}

-- A NEW HASH TABLE has every object, if there are no objects and no place is linked
pub hash_first : {E A B T : Type 0} (succ : E → Successor) (linked : E → Bool) (hash : A → T → ℕ) (fronts : B → List (Option Place)) (t : Table E) (table : HashTable A B) (objects : Objects T)
    → IsNew fronts table → ((p : Place) → object_at objects p ≡ None) → ((p : Place) → IsUnlinked linked t p) → HoldsAll succ linked hash fronts t table objects
hash_first succ linked hash fronts t table objects new vacant off =
    let n = new_held succ hash fronts t table objects new in
    record { members = n.0; held = n.1; all = λ p is. absurd (true≢false (sym is ∙ ap is_some (vacant p))); only = λ p none. off p }

module _ {E A B T : Type 0} {succ : E → Successor} {linked : E → Bool} (alike : (e : E) → (succ e).linked ≡ linked e) {hash : A → T → ℕ} {fronts : B → List (Option Place)} where
  module _ {t : Table E} {table : HashTable A B} {objects : Objects T} (a : HoldsAll succ linked hash fronts t table objects) where
    -- a place without an object is not a member of the hash table
    pub hash_absent : (p : Place) → object_at objects p ≡ None → IsAbsent p a.members
    hash_absent p none = chains_free succ (BelongsIn table.slots (hash table.adapter) objects) alike t 0 (fronts table.buckets) a.members p a.held.chained (a.only p none)

    -- A NEW OBJECT IS PLACED: the hash table still has the same members, because the place of the new object was vacant
    module _ {more : Objects T} {p : Place} {v : T} (places : Places objects more p v) where
      pub hash_ready : Holds succ hash fronts t table more a.members
      hash_ready = held_beside p (others_placed places) a.members (hash_absent p places.vacant) a.held

      -- after the new object is inserted and linked, the hash table has every object
      pub hash_new : {new : Table E} {after : HashTable A B} → HoldsWith succ hash fronts new after more a.members p → LinksAlso linked t new p → HoldsAll succ linked hash fronts new after more
      hash_new {new} with also =
          let front = with.0.front in
          let back = with.0.back in
          record {
            members = front ++ p ∷ back;
            held = with.2;
            all = λ q. everywhere (λ q. is_placed more q ≡ true → IsMember q (front ++ p ∷ back)) p q (λ is. split_member front p back)
                (λ n is out. a.all q (sym (ap is_some (others_placed places q n)) ∙ is) (subst (IsAbsent q) with.1 (absent_without front back p q out)));
            only = λ q. everywhere (λ q. object_at more q ≡ None → IsUnlinked linked new q) p q (λ none. absurd (none_not v (sym none ∙ placed_there places)))
                (λ n none. also.others q n ∙ a.only q (sym (others_placed places q n) ∙ none));
          }

    -- chain k has at most as many members as there are values that belong in it
    hash_few : (k : ℕ) (used : k < table.slots.used) (order : List Place) → IsOrderOf objects order
        → length (chain_of a.held k used).chain ≤ count_by (λ v. nat_eq (slot_of table.slots (hash table.adapter v)) k) (values_at objects order)
    hash_few k used order whole =
        let c = chain_of a.held k used in
        let test : T → Bool = λ v. nat_eq (slot_of table.slots (hash table.adapter v)) k in
        let parts = subst IsDistinct c.parts a.held.distinct in
        let distinct = distinct_left c.chain c.after (distinct_right c.ahead (c.chain ++ c.after) parts) in
        let few = no_more c.chain (filter (matches test objects) order) distinct (λ q member.
        let in_members : IsMember q a.members = λ out. member (absent_left q c.chain c.after (absent_right q c.ahead (c.chain ++ c.after) (subst (IsAbsent q) c.parts out))) in
        let is = member_placed objects a.members a.held.placed q in_members in
        let there = there_is objects q is in
        let passed : matches test objects q ≡ true = ap (passes test) there.1 ∙ eq-eqb _ _ (at_member (BelongsIn table.slots (hash table.adapter) objects k) c.chain c.own q member there.0 there.1) in
        member_filtered (matches test objects) q passed order (whole.all q is)) in
        omega (arith, few, values_counted test objects order)

    -- at a place that is not a member of the hash table there is no object
    vacant_beside : (q : Place) → IsAbsent q a.members → object_at objects q ≡ None
    vacant_beside q out = by (object_at objects q) refl where
      by : (o : Option T) → object_at objects q ≡ o → object_at objects q ≡ None
      by None e = e
      by (Some v) e = absurd (a.all q (ap is_some e) out)

    -- chain k has a member if at least one value belongs in it
    hash_some : (k : ℕ) (used : k < table.slots.used) (order : List Place) → IsOrderOf objects order
        → 1 ≤ count_by (λ v. nat_eq (slot_of table.slots (hash table.adapter v)) k) (values_at objects order) → 1 ≤ length (chain_of a.held k used).chain
    hash_some k used order whole one = by (chain_of a.held k used).chain refl where
      test : T → Bool
      test v = nat_eq (slot_of table.slots (hash table.adapter v)) k

      by : (chain : List Place) → (chain_of a.held k used).chain ≡ chain → 1 ≤ length (chain_of a.held k used).chain
      by (x ∷ rest) is = rw is (omega arith)
      by [] is =
          let c = chain_of a.held k used in
          let stop : StopsAt (matches test objects) c.chain None None = record { gap = record { front = []; back = [] }; whole = sym is; after = refl; here = refl; passed = tt; stops = tt } in
          let none = finds {is = matches test objects} c (none_elsewhere table.slots (hash table.adapter) objects {equal = test} (λ v same. eqb-true _ _ same)) None stop in
          let beside = of_members (λ q. matches test objects q ≡ false) a.members order (λ q out. vacant_absent objects q (vacant_beside q out) order whole.placed) none in
          absurd (omega (arith, one, values_counted test objects order, filter_none (matches test objects) order beside))

    -- for each hash there is a chain in which it belongs. The chain has at most as many members as values belong in it, and at least one if a value
    -- belongs in it
    pub hash_chain : (h : ℕ) → (chain : List Place) × RepresentsFrom succ t (front_at fronts table (slot_of table.slots h)) chain
        × ((order : List Place) → IsOrderOf objects order → length chain ≤ count_by (λ v. nat_eq (slot_of table.slots (hash table.adapter v)) (slot_of table.slots h)) (values_at objects order))
        × ((order : List Place) → IsOrderOf objects order → 1 ≤ count_by (λ v. nat_eq (slot_of table.slots (hash table.adapter v)) (slot_of table.slots h)) (values_at objects order) → 1 ≤ length chain)
    hash_chain h =
        let used = slot_used table.slots.used table.slots.mask (omega (arith, a.held.well_formed.half)) h in
        let c = chain_of a.held (slot_of table.slots h) used in
        (c.chain, c.shown, hash_few (slot_of table.slots h) used, hash_some (slot_of table.slots h) used)

    -- AN OBJECT IS A MEMBER of the hash table, at some position between its other members
    module _ (p : Place) (is : is_placed objects p ≡ true) where
      pub hash_cut : (front : List Place) × (back : List Place) × (a.members ≡ front ++ p ∷ back)
      hash_cut = member_split p a.members (a.all p is)

      -- after an object is removed, unlinked and freed, the hash table still has every object
      pub hash_freed : {new : Table E} {after : HashTable A B} {less : Objects T}
          → ((front back : List Place) → Holds succ hash fronts t table objects (front ++ p ∷ back) → Holds succ hash fronts new after objects (front ++ back))
          → Unlinks linked t new p → Frees objects less p → HoldsAll succ linked hash fronts new after less
      hash_freed {new} {after} {less} removed off frees =
          let c = hash_cut in
          let out = distinct_middle c.0 c.1 p (subst IsDistinct c.2 a.held.distinct) in
          record {
            members = c.0 ++ c.1;
            held = held_beside p (others_left frees) (c.0 ++ c.1) out (removed c.0 c.1 (subst (Holds succ hash fronts t table objects) c.2 a.held));
            all = λ q. everywhere (λ q. is_placed less q ≡ true → IsMember q (c.0 ++ c.1)) p q (λ is. absurd (true≢false (sym is ∙ ap is_some (gone_there frees))))
                (λ n is out. a.all q (sym (ap is_some (others_left frees q n)) ∙ is) (subst (IsAbsent q) (sym c.2) (absent_with c.0 c.1 p q n out)));
            only = λ q. everywhere (λ q. object_at less q ≡ None → IsUnlinked linked new q) p q (λ none. off.is) (λ n none. off.others q n ∙ a.only q (sym (others_left frees q n) ∙ none));
          }

-- WHAT A SEARCH FINDS is an object with the key k, or no object if no object has this key. The test `equal` says whether the key of a value is k
module _ {T : Type 0} (key : T → ℕ) (objects : Objects T) (k : ℕ) (equal : T → Bool) (tells : (v : T) → equal v ≡ true → key v ≡ k) (passed : (v : T) → key v ≡ k → equal v ≡ true) where
  pub hash_found : (s : List Place) (position : Option Place) → ((p : Place) → is_placed objects p ≡ true → IsMember p s) → Finds (matches equal objects) s position → IsFound key objects k position
  hash_found s None all none = λ p v there same. true≢false (sym (ap (passes equal) there ∙ passed v same) ∙ at_member (λ q. matches equal objects q ≡ false) s none p (all p (ap is_some there)))
  hash_found s (Some p) all found = by (object_at objects p) refl found.4 where
    by : (o : Option T) → object_at objects p ≡ o → passes equal o ≡ true → (v : T) × (object_at objects p ≡ Some v) × (key v ≡ k)
    by None e h = absurd (true≢false (sym h))
    by (Some v) e h = (v, e, tells v h)
