-- These lemmas say how an edit changes the ends of a list.
use Rattle.std.proofs.Common.{◌≡◌, ◌≢◌, ◌↔◌, Option, Some, None, List, refl, sym, ap, subst, ◌∙◌}
use Rattle.ic_link_ops.specs.Prelude.{Place, Table, Ends, TurnsEnds, end_of, Front}
use Rattle.ic_link_ops.proofs.SequenceLemmas.{none_not, some_same}
use Rattle.ic_raw.specs.declared.gap.Gap.{Gap}
use Rattle.ic_raw.specs.declared.table.RawTable.{RawTable}
use Rattle.ic_raw.specs.declared.words.RawFront.{RawFront}
use Rattle.ic_raw.specs.declared.words.RawOne.{RawOne}
use Rattle.ic_raw.specs.Prelude.{PutIn, TakenOut, gap_between, raw_entries}
use Rattle.ic_raw.specs.Singly.{LosesFront, front_of, lent_table, list_of, next_from, table_of}

-- two gaps are equal if their sides are equal
pub sides_are : {a b c d : Option Place} → a ≡ c → b ≡ d → gap_between a b ≡ gap_between c d
sides_are e f = λ k. record { before = e k; after = f k }

-- if `at` is a member beside a gap, an edit at the gap keeps the end of the list on the side of `at`
pub end_stays : {at end : Option Place} (fresh : Option Place) {q : Place} → at ≡ Some q → end_of at fresh end ≡ end
end_stays {end} fresh is = ap (λ a. end_of a fresh end) is

-- these lemmas are about the two ends of a list before and after an edit. The gap `gap` is equal to the gap `found` that the call found
module _ {old new : Ends} {found gap : Gap} (same : found ≡ gap) where
  pub put_in : {place : Option Place} {p : Place} → place ≡ Some p → TurnsEnds (λ last. last) old new found.before found.after (Some p) (Some p) → PutIn gap place old new
  put_in is turns = rw (← same, is) (record { head = turns.head; tail = turns.tail _ refl })

  pub taken_out : TurnsEnds (λ last. last) old new found.before found.after found.after found.before → TakenOut gap old new
  taken_out turns = rw (← same) (record { head = turns.head; tail = turns.tail _ refl })

-- only the first member of a chain has no place before it. A walk along the chain therefore knows whether it has passed the first member
pub record IsPast (front current before : Option Place) (member : Place) : Type 0 where
  pub first : before ≡ None → current ≡ front
  pub apart : (q : Place) → before ≡ Some q → front ≢ Some member

pub past_none : (front : Option Place) (member : Place) → IsPast front front None member
past_none front member = record { first = λ none. refl; apart = λ q none. absurd (none_not q none) }

module _ {front current : Option Place} {place member : Place} (is : current ≡ Some place) where
  pub goes_past : (before : Option Place) → IsPast front current before member → place ≢ member → (next : Option Place) → IsPast front next (Some place) member
  goes_past before past other next = record { first = λ some. absurd (none_not place (sym some)); apart = λ q some. away before past } where
    away : (b : Option Place) → IsPast front current b member → front ≢ Some member
    away None k e = other (some_same (sym is ∙ k.first refl ∙ e))
    away (Some r) k e = k.apart r refl e

  pub is_first : (before : Option Place) → IsPast front current before member → place ≡ member → (before ≡ None) ↔ (front ≡ Some member)
  is_first None past same = ((λ none. sym (past.first refl) ∙ is ∙ ap (λ p. Some p) same), (λ e. refl))
  is_first (Some r) past same = ((λ some. absurd (none_not r (sym some))), (λ e. absurd (past.apart r refl e)))

-- the member has left its list, and b is the place before it. If b is none, the list begins with the place that was after the member. Otherwise its
-- first place stays
pub loses_front : {t : Table RawOne} {member : Place} {old new : Front} (b : Option Place) → (b ≡ None) ↔ (old.head ≡ Some member)
    → new.head ≡ end_of b (next_from t old (Some member)) old.head → LosesFront t (Some member) old new
loses_front None first is = record { first = λ e. is; other = λ away. absurd (away (first.0 refl)) }
loses_front (Some q) first is = record { first = λ e. absurd (none_not q (sym (first.1 e))); other = λ away. is }

-- these lemmas say which first place the words of a singly linked list name, if the first place of the list in a view is known
module _ (t : RawTable RawOne) (list list' : RawFront) {es : List RawOne} {edited new : Front} (view : raw_entries t ≡ es) (read : edited ≡ list_of list)
    (written : front_of list' ≡ new.head) where
  -- after a member is removed, the first place stays, or it is the place that was after the removed member
  pub front_left : {before at : Option Place} {member : Place} → before ≡ at → next_from (table_of es) (list_of list) at ≡ Some member
      → new.head ≡ end_of before (next_from (lent_table t) edited (Some member)) edited.head
      → front_of list' ≡ end_of at (next_from (table_of es) (list_of list) (next_from (table_of es) (list_of list) at)) (front_of list)
  front_left {member} named there own =
      let seen : next_from (lent_table t) edited (Some member) ≡ next_from (table_of es) (list_of list) (Some member) =
      ap (λ es. next_from (table_of es) (list_of list) (Some member)) view in
      let after = seen ∙ ap (λ at. next_from (table_of es) (list_of list) at) (sym there) in
      written ∙ own ∙ (λ k. end_of (named k) (after k) (read k).head)

  -- after a place is inserted, the first place stays, or it is the inserted place
  pub front_put : {before at place named : Option Place} → before ≡ at → named ≡ place → new.head ≡ end_of before named edited.head
      → front_of list' ≡ end_of at place (front_of list)
  front_put after is own = written ∙ own ∙ (λ k. end_of (after k) (is k) (read k).head)

  -- if the removed member was the first, the first place is then the place that was after it. Otherwise the first place stays
  pub front_lost : {member : Place} {first : Option Place} (before : Option Place) → first ≡ edited.head → (before ≡ None) ↔ (first ≡ Some member)
      → new.head ≡ end_of before (next_from (lent_table t) edited (Some member)) edited.head → LosesFront (table_of es) (Some member) (list_of list) (list_of list')
  front_lost {member} before is tells own =
      let seen : next_from (lent_table t) edited (Some member) ≡ next_from (table_of es) (list_of list) (Some member) =
      ap (λ es. next_from (table_of es) (list_of list) (Some member)) view in
      let front = is ∙ ap (λ (l : Front). l.head) read in
      loses_front {old = list_of list} {new = list_of list'} before (subst (λ f. (before ≡ None) ↔ (f ≡ Some member)) front tells)
      (written ∙ own ∙ (λ k. end_of before (seen k) (read k).head))
