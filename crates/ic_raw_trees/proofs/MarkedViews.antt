-- If a statement holds of a view of a tree's words, it holds of the words that the caller lent.
use Rattle.std.proofs.Common.{◌≡◌, true, false, cond, is_some, nat_lt, List, [], ◌∷◌, ◌++◌, Option, Some, None, refl, sym, ap, ◌∙◌}
use Rattle.ic_link_ops.specs.Prelude.{Place, index_of, Cut, ChangesOnlyIn, HasMember, LinkStep, TraceIs, Inserts, Splits, entry_at}
use Rattle.ic_link_ops.specs.StepLaws.{trace_within}
use Rattle.ic_link_ops.proofs.Prelude.{some_same, split_member, holds_linked}
use Rattle.ic_rbtree.specs.Join.{Appends, RepresentsParts}
use Rattle.ic_raw.specs.declared.marked_tree.MarkedTree.{MarkedTree}
use Rattle.ic_raw.specs.declared.table.RawTable.{RawTable}
use Rattle.ic_raw.specs.declared.words.RawThree.{RawThree}
use Rattle.ic_raw.specs.Prelude.{marked_entries, marked_table, member_fault, place_fault, raw_entries, is_linked_three, no_tree_words}
use Rattle.ic_raw.specs.Tree.{FreeIn, Represents, fault_at, fault_of, lent_table, table_of}
use Rattle.ic_raw.proofs.Runs.{free_of}
use Rattle.ic_raw.proofs.Trees.{kept}

-- a view of the words represents a sequence exactly if the words represent it
module _ (a : MarkedTree) {es : List RawThree} (e : marked_entries a ≡ es) where
  pub viewed : {root : Option Place} {s : List Place} → Represents (table_of es) root s → Represents (marked_table a) root s
  viewed shown = kept _ _ _ _ shown (λ q. ap (λ words. entry_at no_tree_words words q) e)

  pub represented_back : {root : Option Place} {s : List Place} → Represents (marked_table a) root s → Represents (table_of es) root s
  represented_back shown = kept _ _ _ _ shown (λ q. ap (λ words. entry_at no_tree_words words q) (sym e))

  pub parts_viewed : {left right : Option Place} {gap : Cut} → RepresentsParts Represents (table_of es) left right gap → RepresentsParts Represents (marked_table a) left right gap
  parts_viewed parts = record { front = viewed parts.front; back = viewed parts.back; distinct = parts.distinct }

  pub parts_back : {left right : Option Place} {gap : Cut} → RepresentsParts Represents (marked_table a) left right gap → RepresentsParts Represents (table_of es) left right gap
  parts_back parts = record { front = represented_back parts.front; back = represented_back parts.back; distinct = parts.distinct }

  pub member_viewed : {root : Option Place} {p : Place} → HasMember (Represents (table_of es) root) p → HasMember (Represents (marked_table a) root) p
  member_viewed has = record { front = has.front; back = has.back; shown = viewed has.shown }

  pub member_back : {root : Option Place} {p : Place} → HasMember (Represents (marked_table a) root) p → HasMember (Represents (table_of es) root) p
  member_back has = record { front = has.front; back = has.back; shown = represented_back has.shown }

-- an edit of a view is an edit of the words that the caller lent
module _ (a b : MarkedTree) {es fs : List RawThree} (e : marked_entries a ≡ es) (f : fs ≡ marked_entries b) where
  frame_back : {s : List Place} → ChangesOnlyIn (marked_table a) (marked_table b) s → ChangesOnlyIn (table_of es) (table_of fs) s
  frame_back {s} keeps =
      let back : ChangesOnlyIn (table_of (marked_entries a)) (table_of (marked_entries b)) s =
      record { extent = ap (λ x. record { places = x.places; identity = [] }) keeps.extent; others = keeps.others } in
      rw (← e, f) back

  pub appends_back : {root root' : Option Place} {gap : Cut} → root' ≡ root → Appends Represents (marked_table a) (marked_table b) root gap
      → Appends Represents (table_of es) (table_of fs) root' gap
  appends_back same made = rw same (record { shows = represented_back b (sym f) made.shows; frame = frame_back made.frame })

  pub inserts_back : {root root' : Option Place} {gap : Cut} {p : Place} → root' ≡ root → Inserts Represents (marked_table a) (marked_table b) root gap p
      → Inserts Represents (table_of es) (table_of fs) root' gap p
  inserts_back same made = rw same (record { shows = represented_back b (sym f) made.shows; frame = frame_back made.frame })

  pub splits_back : {root root' rest rest' : Option Place} {s t : List Place} → root' ≡ root → rest' ≡ rest
      → Splits Represents (marked_table a) (marked_table b) root rest s t → Splits Represents (table_of es) (table_of fs) root' rest' s t
  splits_back same handed made =
      rw (same, handed) (record { keeps = represented_back b (sym f) made.keeps; hands_out = represented_back b (sym f) made.hands_out; frame = frame_back made.frame })

  pub steps_back : (steps : List LinkStep) → TraceIs is_linked_three (marked_table a) (marked_table b) steps → TraceIs is_linked_three (table_of es) (table_of fs) steps
  steps_back steps makes =
      let back : TraceIs is_linked_three (table_of (marked_entries a)) (table_of (marked_entries b)) steps = trace_within is_linked_three _ _ steps _ _ makes in
      rw (← e, f) back

-- the fault of a place in a view of the table is its fault in the words that the caller lent
module _ (t : RawTable RawThree) {es : List RawThree} (e : raw_entries t ≡ es) where
  pub fault_of_back : (place : Option Place) → place_fault is_linked_three (lent_table t) place ≡ fault_of es place
  fault_of_back None = refl
  fault_of_back (Some p) = rw (← e) refl

  pub fault_at_back : (at : Option Place) → member_fault is_linked_three (lent_table t) at ≡ fault_at es at
  fault_at_back None = refl
  fault_at_back (Some p) = rw (← e) refl

-- a place without a fault belongs to the table and is not linked, and it is not linked in a view of the words
pub free_in : (es : List RawThree) (p : Place) → fault_of es (Some p) ≡ 0 → FreeIn es p
free_in es p none = let found = free_of is_linked_three (table_of es) (Some p) none in rw (some_same found.1) found.2

pub unlinked_viewed : (a : MarkedTree) {es : List RawThree} (p : Place) → marked_entries a ≡ es → FreeIn es p → is_linked_three ((marked_table a).entry p) ≡ false
unlinked_viewed a p same free = ap (λ words. is_linked_three (entry_at no_tree_words words p)) same ∙ free.unlinked

-- a member of a tree has no fault
pub member_faultless : (es : List RawThree) {root : Option Place} (front : List Place) (p : Place) (back : List Place) → Represents (table_of es) root (front ++ p ∷ back)
    → fault_at es (Some p) ≡ 0
member_faultless es front p back shown =
    let linked : is_linked_three ((table_of es).entry p) ≡ true = holds_linked shown.held (split_member front p back) in
    ap (λ is. cond is 0 (cond (nat_lt (index_of p) (table_of es).extent.places) 3 1)) linked

-- an option that has no value is none
pub none_of : {A : Type 0} (o : Option A) → is_some o ≡ false → o ≡ None
none_of None e = refl
none_of (Some x) e = cc
