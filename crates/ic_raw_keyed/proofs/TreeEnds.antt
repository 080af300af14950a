-- Lemmas on the first and the last member of a tree in which a member is inserted, removed, or replaced.
use Rattle.std.proofs.Common.{◌≡◌, ◌≢◌, ℕ, true, Option, Some, None, List, [], ◌∷◌, ◌++◌, refl, sym, ap, ◌∙◌, subst, append_assoc}
use Rattle.ic_link_ops.specs.Prelude.{Place, index_of, Cut, join, insert, first, last, IsDistinct, Table, IsLinked}
use Rattle.ic_link_ops.specs.declared.side.Side.{Side}
use Rattle.ic_link_ops.specs.declared.side.Side.TheVariants.{Left, Right}
use Rattle.ic_link_ops.specs.Frames.{across}
use Rattle.ic_link_ops.proofs.SequenceLemmas.{absent_left, distinct_middle, distinct_right, first_not, last_not, last_of_push, last_or-append, none_not, nothing_first, nothing_last, some_same}
use Rattle.ic_rbtree.specs.Prelude.{end_on, IsBeside, AreIn, IsIn, StepsTo}
use Rattle.ic_rbtree.specs.Kept.{end_with, end_for, IsBelow}
use Rattle.ic_rbtree.proofs.EndsKept.{comes_first, comes_last, first_replaced, last_replaced}
use Rattle.ic_raw.specs.declared.words.RawThree.{RawThree}
use Rattle.ic_link_ops.specs.EntryLaws.{linked_in_range}
use Rattle.ic_raw.specs.declared.table.RawTable.{RawTable}
use Rattle.ic_raw.specs.Prelude.{IsNoneOrLinked, has_place, seen, seen_node, StepEndsIn, raw_entries, is_linked_three, no_tree_words}
use Rattle.ic_raw.specs.SearchCalls.{PutCall}
use Rattle.ic_raw.specs.declared.words.RawRoot.{RawRoot}
use Rattle.ic_raw.specs.Tree.{IsInsertPos, IsNoneOrLinkedIn, lent_table, root_in, table_of}
use Rattle.ic_raw.proofs.Trees.{end_in}
use Rattle.ic_raw_keyed.specs.Ends.{IsNextEnd}

-- the gap beside the end p on its inner side: after p if p is the left end, and before p if p is the right end
abbrev pub gap_inwards : Side → (front : List Place) → Place → (back : List Place) → Cut
gap_inwards Left front p back = record { front = front ++ p ∷ []; back = back }
gap_inwards Right front p back = record { front = front; back = p ∷ back }

pub inwards_joins : (d : Side) (front : List Place) (p : Place) (back : List Place) → join (gap_inwards d front p back) ≡ front ++ p ∷ back
inwards_joins Left front p back = append_assoc front (p ∷ []) back
inwards_joins Right front p back = refl

pub inwards_beside : (d : Side) (front : List Place) (p : Place) (back : List Place) → IsBeside (across d) (gap_inwards d front p back) (Some p)
inwards_beside Left front p back = sym (last_of_push front p)
inwards_beside Right front p back = refl

-- the place beside the end p on its inner side is not p itself
pub inwards_other : (d : Side) (front : List Place) (p : Place) (back : List Place) {next : Option Place} → IsDistinct (front ++ p ∷ back)
    → IsBeside (across (across d)) (gap_inwards d front p back) next → next ≢ Some p
inwards_other Left front p back distinct is same = first_not back None p (none_not p) (distinct_right front (p ∷ back) distinct).0 (sym is ∙ same)
inwards_other Right front p back distinct is same =
    last_not None front p (none_not p) (absent_left p front back (distinct_middle front back p distinct)) (sym is ∙ same)

-- the insert position at which `at` has no child on the side `side` is below `at` on this side
pub insert_pos_below : (t : Table RawThree) (side : Side) (at : Option Place) (cut : Cut) → IsInsertPos side t at cut → IsBelow at side cut
insert_pos_below t side None cut insert_pos = insert_pos
insert_pos_below t side (Some q) cut insert_pos = insert_pos.1

-- if the place p is inserted as a child of `at`, the new end of the sequence follows from the old end
pub end_comes : (d : Side) (at : Option Place) (side : Side) (cut : Cut) (p : Place) {end : Option Place} → IsBelow at side cut → IsDistinct (join cut)
    → end ≡ end_on d (join cut) → end_with d at side p end ≡ end_on d (insert cut p)
end_comes Left at side cut p below distinct is = comes_first at side cut p below distinct is
end_comes Right at side cut p below distinct is = comes_last at side cut p below distinct is

-- if the place p replaces the member `out`, the new end of the sequence follows from the old end
pub end_replaced : (d : Side) (front back : List Place) (out p : Place) {end : Option Place} → IsDistinct (front ++ out ∷ back)
    → end ≡ end_on d (front ++ out ∷ back) → end_for out p end ≡ end_on d (front ++ p ∷ back)
end_replaced Left front back out p distinct is = first_replaced front back out p distinct is
end_replaced Right front back out p distinct is = last_replaced front back out p distinct is

-- the gap beside the inserted place p on the side d
abbrev pub gap_outwards : Side → (front : List Place) → Place → (back : List Place) → Cut
gap_outwards Left front p back = record { front = front; back = p ∷ back }
gap_outwards Right front p back = record { front = front ++ p ∷ []; back = back }

pub outwards_joins : (d : Side) (front : List Place) (p : Place) (back : List Place) → join (gap_outwards d front p back) ≡ front ++ p ∷ back
outwards_joins Left front p back = refl
outwards_joins Right front p back = append_assoc front (p ∷ []) back

pub outwards_beside : (d : Side) (front : List Place) (p : Place) (back : List Place) → IsBeside d (gap_outwards d front p back) (Some p)
outwards_beside Left front p back = refl
outwards_beside Right front p back = sym (last_of_push front p)

-- if no member is beside the inserted place p on the side d, p is the end on this side
pub end_new : (d : Side) (front : List Place) (p : Place) (back : List Place) → IsBeside (across d) (gap_outwards d front p back) None
    → Some p ≡ end_on d (front ++ p ∷ back)
end_new Left front p back none = ap (λ f. first (f ++ p ∷ back)) (sym (nothing_last front none))
end_new Right front p back none = sym (last_of_push front p) ∙ ap (λ b. last (front ++ p ∷ b)) (sym (nothing_first back none))

-- if a member q is beside the inserted place p on the side d, the end on this side is as before the insertion
pub end_old : (d : Side) (front : List Place) (p : Place) (back : List Place) (q : Place) → IsBeside (across d) (gap_outwards d front p back) (Some q)
    → end_on d (front ++ back) ≡ end_on d (front ++ p ∷ back)
end_old Left [] p back q is = absurd (none_not q (sym is))
end_old Left (x ∷ front) p back q is = refl
end_old Right front p [] q is = absurd (none_not q (sym is))
end_old Right front p (y ∷ back) q is = last_or-append None front (y ∷ back) ∙ sym (last_or-append None front (p ∷ y ∷ back))

-- a step in a view of the words leads to the same place as in the words
pub steps_back : (t : RawTable RawThree) {es : List RawThree} (root at : Option Place) (side : Side) (q : Place) → raw_entries t ≡ es
    → StepsTo seen_node (seen (lent_table t)) root side at q → StepsTo seen_node (seen (table_of es)) root side at q
steps_back t root None side q view steps = let back : StepsTo seen_node (seen (table_of (raw_entries t))) root side None q = steps in rw (← view) back
steps_back t root (Some p) side q view steps = let back : StepsTo seen_node (seen (table_of (raw_entries t))) root side (Some p) q = steps in rw (← view) back

-- a step inwards from the end `out` leads to no place, or to another place, which is linked
pub is_next : (t : Table RawThree) (root : Option Place) (side : Side) (out : Place) (next : Option Place)
    → ((q : Place) → next ≡ Some q → StepsTo seen_node (seen t) root (across side) (Some out) q) → (next ≡ None → StepEndsIn t root (across side) (Some out))
    → IsNoneOrLinked is_linked_three t next → next ≢ Some out → IsNextEnd t root side out next
is_next t root side out None steps ends stands other = ends refl
is_next t root side out (Some q) steps ends stands other = (steps q refl, stands q refl, λ same. other (ap Some same))

-- a place that is linked in the words is a place of the table
pub stands_in : (es : List RawThree) (at : Option Place) → IsNoneOrLinkedIn es at → IsIn (has_place (table_of es)) at
stands_in es at stands = end_in (table_of es) (λ q on. linked_in_range is_linked_three no_tree_words refl es (index_of q) on) at stands

-- a place of the table is a place of a view of the table
pub has_viewed : (t : RawTable RawThree) {es : List RawThree} (at : Option Place) → raw_entries t ≡ es → IsIn (has_place (table_of es)) at → IsIn (has_place (lent_table t)) at
has_viewed t None view within = tt
has_viewed t (Some p) view within = let back : has_place (table_of (raw_entries t)) p ≡ true = rw view within in back

-- after a place was inserted by its key, this place and the root of the tree are places of the table
pub put_in : {keys : List ℕ} {old new : List RawThree} {status : ℕ} {tree tree' : RawRoot} {place : Option Place} → PutCall keys old new status tree tree' place
    → (p : Place) → place ≡ Some p → status ≡ 0 → AreIn (has_place (table_of new)) (Some p ∷ root_in tree' ∷ [])
put_in {new = new} put p is made =
    (stands_in new (Some p) (λ q e. subst (IsLinked is_linked_three (table_of new)) (some_same e) (put.linked p is made).is), ((put.in_closed_set made).starts, tt))
