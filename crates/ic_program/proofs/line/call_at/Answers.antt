-- Each call of the program is found by its name, its arguments and its slot.
use Rattle.std.proofs.Common.{codes, refl, rules}
use Rattle.ic_world.specs.declared.call.Command.TheVariants as call
use Rattle.ic_world.specs.declared.calls.collection_call.Call.TheVariants.{Seek, BulkEdit, Search, Insertion, Enter}
use Rattle.ic_world.specs.declared.calls.collection_call.Neighbor.TheVariants.{Next, Prev}
use Rattle.ic_world.specs.declared.calls.seek.Seek.TheVariants.{On, With}
use Rattle.ic_world.specs.declared.calls.bulk_edit.BulkEdit.TheVariants.{Clear, Reverse}
use Rattle.ic_world.specs.declared.calls.search.Search.TheVariants.{Find, LowerBound, UpperBound}
use Rattle.ic_world.specs.declared.calls.insertion.Insertion.TheVariants.{Insert, CursorInsert}
use Rattle.ic_program.specs.Grammar.{calls, number_in, place_in, kind_in, bound_in, neighbor_in, one, two, three, on, on_with, on_with_two}
use Rattle.ic_program.specs.Slots.{slots}
use Rattle.ic_program.proofs.CallLemmas.{is_call, no_call, neither_call, no_other}
use Rattle.ic_program.proofs.line.call_at.Goals as goal

pub returns-in_ok-value-in-34-clause-said : goal.returns-in_ok-value-in-34-clause-said
unfolding calls
returns-in_ok-value-in-34-clause-said c = is_call (codes "place ") (one number_in call.Place) c.args.text.now _ _ (c.in_ok-value-in-34.ensures.said call.Place) refl

pub returns-in_err-value-in-34-clause-none : goal.returns-in_err-value-in-34-clause-none
unfolding calls slots
returns-in_err-value-in-34-clause-none c = no_call _ _ 34 c.in-34.is (codes "place ") (one number_in call.Place) c.args.text.now refl (c.in_err-value-in-34.ensures.none call.Place)

pub returns-in_ok-object-in-56-clause-said : goal.returns-in_ok-object-in-56-clause-said
unfolding calls
returns-in_ok-object-in-56-clause-said c = is_call (codes "remove_object ") (one place_in call.RemoveObject) c.args.text.now _ _ (c.in_ok-object-in-56.ensures.said call.RemoveObject) refl

pub returns-in_err-object-in-56-clause-none : goal.returns-in_err-object-in-56-clause-none
unfolding calls slots
returns-in_err-object-in-56-clause-none c = no_call _ _ 56 c.in-56.is (codes "remove_object ") (one place_in call.RemoveObject) c.args.text.now refl (c.in_err-object-in-56.ensures.none call.RemoveObject)

pub returns-in_ok-object-in-46-clause-said : goal.returns-in_ok-object-in-46-clause-said
unfolding calls
returns-in_ok-object-in-46-clause-said c = is_call (codes "set_value ") (two place_in number_in call.SetValue) c.args.text.now _ _ (c.in_ok-object-in-46.ensures.said call.SetValue) refl

pub returns-in_err-object-in-46-clause-none : goal.returns-in_err-object-in-46-clause-none
unfolding calls slots
returns-in_err-object-in-46-clause-none c = no_call _ _ 46 c.in-46.is (codes "set_value ") (two place_in number_in call.SetValue) c.args.text.now refl (c.in_err-object-in-46.ensures.none call.SetValue)

pub returns-in_ok-kind-in-29-clause-said : goal.returns-in_ok-kind-in-29-clause-said
unfolding calls
returns-in_ok-kind-in-29-clause-said c = is_call (codes "field ") (one kind_in call.AddField) c.args.text.now _ _ (c.in_ok-kind-in-29.ensures.said call.AddField) refl

pub returns-in_err-kind-in-29-clause-none : goal.returns-in_err-kind-in-29-clause-none
unfolding calls slots
returns-in_err-kind-in-29-clause-none c = no_call _ _ 29 c.in-29.is (codes "field ") (one kind_in call.AddField) c.args.text.now refl (c.in_err-kind-in-29.ensures.none call.AddField)

pub returns-in_ok-field-in-54-clause-said : goal.returns-in_ok-field-in-54-clause-said
unfolding calls
returns-in_ok-field-in-54-clause-said c = is_call (codes "open ") (two number_in kind_in call.Open) c.args.text.now _ _ (c.in_ok-field-in-54.ensures.said call.Open) refl

pub returns-in_err-field-in-54-clause-none : goal.returns-in_err-field-in-54-clause-none
unfolding calls slots
returns-in_err-field-in-54-clause-none c = no_call _ _ 54 c.in-54.is (codes "open ") (two number_in kind_in call.Open) c.args.text.now refl (c.in_err-field-in-54.ensures.none call.Open)

pub returns-in_ok-collection-in-15-clause-said : goal.returns-in_ok-collection-in-15-clause-said
unfolding calls
returns-in_ok-collection-in-15-clause-said c = is_call (codes "dispose ") (one number_in call.Dispose) c.args.text.now _ _ (c.in_ok-collection-in-15.ensures.said call.Dispose) refl

pub returns-in_err-collection-in-15-clause-none : goal.returns-in_err-collection-in-15-clause-none
unfolding calls slots
returns-in_err-collection-in-15-clause-none c = no_call _ _ 15 c.in-15.is (codes "dispose ") (one number_in call.Dispose) c.args.text.now refl (c.in_err-collection-in-15.ensures.none call.Dispose)

pub returns-in_ok-collection-in-0-clause-said : goal.returns-in_ok-collection-in-0-clause-said
unfolding calls
returns-in_ok-collection-in-0-clause-said c = is_call (codes "clear ") (one number_in (on (BulkEdit Clear))) c.args.text.now _ _ (c.in_ok-collection-in-0.ensures.said (on (BulkEdit Clear))) refl

pub returns-in_err-collection-in-0-clause-none : goal.returns-in_err-collection-in-0-clause-none
unfolding calls slots
returns-in_err-collection-in-0-clause-none c = no_call _ _ 0 c.in-0.is (codes "clear ") (one number_in (on (BulkEdit Clear))) c.args.text.now refl (c.in_err-collection-in-0.ensures.none (on (BulkEdit Clear)))

pub returns-in_ok-collection-in-36-clause-said : goal.returns-in_ok-collection-in-36-clause-said
unfolding calls
returns-in_ok-collection-in-36-clause-said c = is_call (codes "fast_clear ") (one number_in call.FastClear) c.args.text.now _ _ (c.in_ok-collection-in-36.ensures.said call.FastClear) refl

pub returns-in_err-collection-in-36-clause-none : goal.returns-in_err-collection-in-36-clause-none
unfolding calls slots
returns-in_err-collection-in-36-clause-none c = no_call _ _ 36 c.in-36.is (codes "fast_clear ") (one number_in call.FastClear) c.args.text.now refl (c.in_err-collection-in-36.ensures.none call.FastClear)

pub returns-in_ok-collection-in-24-clause-said : goal.returns-in_ok-collection-in-24-clause-said
unfolding calls
returns-in_ok-collection-in-24-clause-said c = is_call (codes "take ") (one number_in call.Take) c.args.text.now _ _ (c.in_ok-collection-in-24.ensures.said call.Take) refl

pub returns-in_err-collection-in-24-clause-none : goal.returns-in_err-collection-in-24-clause-none
unfolding calls slots
returns-in_err-collection-in-24-clause-none c = no_call _ _ 24 c.in-24.is (codes "take ") (one number_in call.Take) c.args.text.now refl (c.in_err-collection-in-24.ensures.none call.Take)

pub returns-in_ok-collection-in-44-clause-said : goal.returns-in_ok-collection-in-44-clause-said
unfolding calls
returns-in_ok-collection-in-44-clause-said c = is_call (codes "show ") (one number_in call.Show) c.args.text.now _ _ (c.in_ok-collection-in-44.ensures.said call.Show) refl

pub returns-in_err-collection-in-44-clause-none : goal.returns-in_err-collection-in-44-clause-none
unfolding calls slots
returns-in_err-collection-in-44-clause-none c = no_call _ _ 44 c.in-44.is (codes "show ") (one number_in call.Show) c.args.text.now refl (c.in_err-collection-in-44.ensures.none call.Show)

pub returns-in_ok-collection-in-28-clause-said : goal.returns-in_ok-collection-in-28-clause-said
unfolding calls
returns-in_ok-collection-in-28-clause-said c = is_call (codes "show_back ") (one number_in call.ShowBack) c.args.text.now _ _ (c.in_ok-collection-in-28.ensures.said call.ShowBack) refl

pub returns-in_err-collection-in-28-clause-none : goal.returns-in_err-collection-in-28-clause-none
unfolding calls slots
returns-in_err-collection-in-28-clause-none c = no_call _ _ 28 c.in-28.is (codes "show_back ") (one number_in call.ShowBack) c.args.text.now refl (c.in_err-collection-in-28.ensures.none call.ShowBack)

pub returns-in_ok-collection-in-9-clause-said : goal.returns-in_ok-collection-in-9-clause-said
unfolding calls
returns-in_ok-collection-in-9-clause-said c = is_call (codes "seek ") (two number_in place_in (on_with (λ p. Seek (On p)))) c.args.text.now _ _ (c.in_ok-collection-in-9.ensures.said (on_with (λ p. Seek (On p)))) refl

pub returns-in_err-collection-in-9-clause-none : goal.returns-in_err-collection-in-9-clause-none
unfolding calls slots
returns-in_err-collection-in-9-clause-none c = no_call _ _ 9 c.in-9.is (codes "seek ") (two number_in place_in (on_with (λ p. Seek (On p)))) c.args.text.now refl (c.in_err-collection-in-9.ensures.none (on_with (λ p. Seek (On p))))

pub returns-in-Some-clause-said : goal.returns-in-Some-clause-said
unfolding calls
returns-in-Some-clause-said c = is_call (codes "seek_with_prev ") (three number_in place_in neighbor_in (on_with_two (λ p beside. Seek (With Prev p beside)))) c.args.text.now _ _ (c.in-Some.ensures.said (on_with_two (λ p beside. Seek (With Prev p beside)))) refl

pub returns-in_ok-collection-in-None-clause-said : goal.returns-in_ok-collection-in-None-clause-said
unfolding calls
returns-in_ok-collection-in-None-clause-said c = is_call (codes "seek_with_next ") (three number_in place_in neighbor_in (on_with_two (λ p beside. Seek (With Next p beside)))) c.args.text.now _ _ (c.in_ok-collection-in-None.ensures.said (on_with_two (λ p beside. Seek (With Next p beside)))) refl

pub returns-in_err-collection-in-None-clause-none : goal.returns-in_err-collection-in-None-clause-none
unfolding calls slots
returns-in_err-collection-in-None-clause-none c =
    neither_call _ _ 27 c.in-27.is (codes "seek_with_prev ") (codes "seek_with_next ") (three number_in place_in neighbor_in (on_with_two (λ p beside. Seek (With Prev p beside)))) (three number_in place_in neighbor_in (on_with_two (λ p beside. Seek (With Next p beside)))) c.args.text.now refl (c.in-None.ensures.none (on_with_two (λ p beside. Seek (With Prev p beside)))) (c.in_err-collection-in-None.ensures.none (on_with_two (λ p beside. Seek (With Next p beside))))

pub returns-in_ok-collection-in-26-clause-said : goal.returns-in_ok-collection-in-26-clause-said
unfolding calls
returns-in_ok-collection-in-26-clause-said c = is_call (codes "splice_after ") (two number_in number_in call.SpliceAfter) c.args.text.now _ _ (c.in_ok-collection-in-26.ensures.said call.SpliceAfter) refl

pub returns-in_err-collection-in-26-clause-none : goal.returns-in_err-collection-in-26-clause-none
unfolding calls slots
returns-in_err-collection-in-26-clause-none c = no_call _ _ 26 c.in-26.is (codes "splice_after ") (two number_in number_in call.SpliceAfter) c.args.text.now refl (c.in_err-collection-in-26.ensures.none call.SpliceAfter)

pub returns-in_ok-collection-in-22-clause-said : goal.returns-in_ok-collection-in-22-clause-said
unfolding calls
returns-in_ok-collection-in-22-clause-said c = is_call (codes "splice_before ") (two number_in number_in call.SpliceBefore) c.args.text.now _ _ (c.in_ok-collection-in-22.ensures.said call.SpliceBefore) refl

pub returns-in_err-collection-in-22-clause-none : goal.returns-in_err-collection-in-22-clause-none
unfolding calls slots
returns-in_err-collection-in-22-clause-none c = no_call _ _ 22 c.in-22.is (codes "splice_before ") (two number_in number_in call.SpliceBefore) c.args.text.now refl (c.in_err-collection-in-22.ensures.none call.SpliceBefore)

pub returns-in_ok-collection-in-63-clause-said : goal.returns-in_ok-collection-in-63-clause-said
unfolding calls
returns-in_ok-collection-in-63-clause-said c = is_call (codes "split_after ") (one number_in call.SplitAfter) c.args.text.now _ _ (c.in_ok-collection-in-63.ensures.said call.SplitAfter) refl

pub returns-in_err-collection-in-63-clause-none : goal.returns-in_err-collection-in-63-clause-none
unfolding calls slots
returns-in_err-collection-in-63-clause-none c = no_call _ _ 63 c.in-63.is (codes "split_after ") (one number_in call.SplitAfter) c.args.text.now refl (c.in_err-collection-in-63.ensures.none call.SplitAfter)

pub returns-in_ok-collection-in-50-clause-said : goal.returns-in_ok-collection-in-50-clause-said
unfolding calls
returns-in_ok-collection-in-50-clause-said c = is_call (codes "split_before ") (one number_in call.SplitBefore) c.args.text.now _ _ (c.in_ok-collection-in-50.ensures.said call.SplitBefore) refl

pub returns-in_err-collection-in-50-clause-none : goal.returns-in_err-collection-in-50-clause-none
unfolding calls slots
returns-in_err-collection-in-50-clause-none c = no_call _ _ 50 c.in-50.is (codes "split_before ") (one number_in call.SplitBefore) c.args.text.now refl (c.in_err-collection-in-50.ensures.none call.SplitBefore)

pub returns-in_ok-collection-in-62-clause-said : goal.returns-in_ok-collection-in-62-clause-said
unfolding calls
returns-in_ok-collection-in-62-clause-said c = is_call (codes "reverse ") (one number_in (on (BulkEdit Reverse))) c.args.text.now _ _ (c.in_ok-collection-in-62.ensures.said (on (BulkEdit Reverse))) refl

pub returns-in_err-collection-in-62-clause-none : goal.returns-in_err-collection-in-62-clause-none
unfolding calls slots
returns-in_err-collection-in-62-clause-none c = no_call _ _ 62 c.in-62.is (codes "reverse ") (one number_in (on (BulkEdit Reverse))) c.args.text.now refl (c.in_err-collection-in-62.ensures.none (on (BulkEdit Reverse)))

pub returns-in_ok-collection-in-35-clause-said : goal.returns-in_ok-collection-in-35-clause-said
unfolding calls
returns-in_ok-collection-in-35-clause-said c = is_call (codes "find ") (two number_in number_in (on_with (λ key. Search (Find key)))) c.args.text.now _ _ (c.in_ok-collection-in-35.ensures.said (on_with (λ key. Search (Find key)))) refl

pub returns-in_err-collection-in-35-clause-none : goal.returns-in_err-collection-in-35-clause-none
unfolding calls slots
returns-in_err-collection-in-35-clause-none c = no_call _ _ 35 c.in-35.is (codes "find ") (two number_in number_in (on_with (λ key. Search (Find key)))) c.args.text.now refl (c.in_err-collection-in-35.ensures.none (on_with (λ key. Search (Find key))))

pub returns-in_ok-collection-in-43-clause-said : goal.returns-in_ok-collection-in-43-clause-said
unfolding calls
returns-in_ok-collection-in-43-clause-said c = is_call (codes "lower_bound ") (two number_in bound_in (on_with (λ bound. Search (LowerBound bound)))) c.args.text.now _ _ (c.in_ok-collection-in-43.ensures.said (on_with (λ bound. Search (LowerBound bound)))) refl

pub returns-in_err-collection-in-43-clause-none : goal.returns-in_err-collection-in-43-clause-none
unfolding calls slots
returns-in_err-collection-in-43-clause-none c = no_call _ _ 43 c.in-43.is (codes "lower_bound ") (two number_in bound_in (on_with (λ bound. Search (LowerBound bound)))) c.args.text.now refl (c.in_err-collection-in-43.ensures.none (on_with (λ bound. Search (LowerBound bound))))

pub returns-in_ok-collection-in-58-clause-said : goal.returns-in_ok-collection-in-58-clause-said
unfolding calls
returns-in_ok-collection-in-58-clause-said c = is_call (codes "upper_bound ") (two number_in bound_in (on_with (λ bound. Search (UpperBound bound)))) c.args.text.now _ _ (c.in_ok-collection-in-58.ensures.said (on_with (λ bound. Search (UpperBound bound)))) refl

pub returns-in_err-collection-in-58-clause-none : goal.returns-in_err-collection-in-58-clause-none
unfolding calls slots
returns-in_err-collection-in-58-clause-none c = no_call _ _ 58 c.in-58.is (codes "upper_bound ") (two number_in bound_in (on_with (λ bound. Search (UpperBound bound)))) c.args.text.now refl (c.in_err-collection-in-58.ensures.none (on_with (λ bound. Search (UpperBound bound))))

pub returns-in_ok-collection-in-52-clause-said : goal.returns-in_ok-collection-in-52-clause-said
unfolding calls
returns-in_ok-collection-in-52-clause-said c = is_call (codes "range ") (three number_in bound_in bound_in call.Range) c.args.text.now _ _ (c.in_ok-collection-in-52.ensures.said call.Range) refl

pub returns-in_err-collection-in-52-clause-none : goal.returns-in_err-collection-in-52-clause-none
unfolding calls slots
returns-in_err-collection-in-52-clause-none c = no_call _ _ 52 c.in-52.is (codes "range ") (three number_in bound_in bound_in call.Range) c.args.text.now refl (c.in_err-collection-in-52.ensures.none call.Range)

pub returns-in_ok-collection-in-42-clause-said : goal.returns-in_ok-collection-in-42-clause-said
unfolding calls
returns-in_ok-collection-in-42-clause-said c = is_call (codes "insert ") (two number_in place_in (on_with (λ p. Insertion (Insert p)))) c.args.text.now _ _ (c.in_ok-collection-in-42.ensures.said (on_with (λ p. Insertion (Insert p)))) refl

pub returns-in_err-collection-in-42-clause-none : goal.returns-in_err-collection-in-42-clause-none
unfolding calls slots
returns-in_err-collection-in-42-clause-none c = no_call _ _ 42 c.in-42.is (codes "insert ") (two number_in place_in (on_with (λ p. Insertion (Insert p)))) c.args.text.now refl (c.in_err-collection-in-42.ensures.none (on_with (λ p. Insertion (Insert p))))

pub returns-in_ok-collection-in-7-clause-said : goal.returns-in_ok-collection-in-7-clause-said
unfolding calls
returns-in_ok-collection-in-7-clause-said c = is_call (codes "cursor_insert ") (two number_in place_in (on_with (λ p. Insertion (CursorInsert p)))) c.args.text.now _ _ (c.in_ok-collection-in-7.ensures.said (on_with (λ p. Insertion (CursorInsert p)))) refl

pub returns-in_err-collection-in-7-clause-none : goal.returns-in_err-collection-in-7-clause-none
unfolding calls slots
returns-in_err-collection-in-7-clause-none c = no_call _ _ 7 c.in-7.is (codes "cursor_insert ") (two number_in place_in (on_with (λ p. Insertion (CursorInsert p)))) c.args.text.now refl (c.in_err-collection-in-7.ensures.none (on_with (λ p. Insertion (CursorInsert p))))

pub returns-in_ok-collection-in-3-clause-said : goal.returns-in_ok-collection-in-3-clause-said
unfolding calls
returns-in_ok-collection-in-3-clause-said c = is_call (codes "entry ") (three number_in number_in place_in (on_with_two Enter)) c.args.text.now _ _ (c.in_ok-collection-in-3.ensures.said (on_with_two Enter)) refl

pub returns-in_err-collection-in-3-clause-none : goal.returns-in_err-collection-in-3-clause-none
unfolding calls slots
returns-in_err-collection-in-3-clause-none c = no_call _ _ 3 c.in-3.is (codes "entry ") (three number_in number_in place_in (on_with_two Enter)) c.args.text.now refl (c.in_err-collection-in-3.ensures.none (on_with_two Enter))

pub returns-in_ok-field-in-32-clause-said : goal.returns-in_ok-field-in-32-clause-said
unfolding calls
returns-in_ok-field-in-32-clause-said c = is_call (codes "is_linked ") (two number_in place_in call.IsLinked) c.args.text.now _ _ (c.in_ok-field-in-32.ensures.said call.IsLinked) refl

pub returns-in_err-field-in-32-clause-none : goal.returns-in_err-field-in-32-clause-none
unfolding calls slots
returns-in_err-field-in-32-clause-none c = no_call _ _ 32 c.in-32.is (codes "is_linked ") (two number_in place_in call.IsLinked) c.args.text.now refl (c.in_err-field-in-32.ensures.none call.IsLinked)

pub returns-in_ok-field-in-40-clause-said : goal.returns-in_ok-field-in-40-clause-said
unfolding calls
returns-in_ok-field-in-40-clause-said c = is_call (codes "force_unlink ") (two number_in place_in call.ForceUnlink) c.args.text.now _ _ (c.in_ok-field-in-40.ensures.said call.ForceUnlink) refl

pub returns-in_err-field-in-40-clause-none : goal.returns-in_err-field-in-40-clause-none
unfolding calls slots
returns-in_err-field-in-40-clause-none c = no_call _ _ 40 c.in-40.is (codes "force_unlink ") (two number_in place_in call.ForceUnlink) c.args.text.now refl (c.in_err-field-in-40.ensures.none call.ForceUnlink)

pub returns-in_default-clause-none : goal.returns-in_default-clause-none
unfolding slots
returns-in_default-clause-none c = no_other _ c.args.slot c.args.text.now c.fast_call_at.ensures.none (λ fast. search (rules, fast))
