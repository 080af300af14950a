-- Each call of the table is found by its name, its arguments and its slot.
use Rattle.std.proofs.Common.{codes, refl, rules}
use Rattle.ic_world.specs.declared.call.Command.TheVariants as call
use Rattle.ic_any_collection.specs.declared.gap.Gap.TheVariants.{Front, Back, Before, After}
use Rattle.ic_world.specs.declared.calls.collection_call.Call.TheVariants.{Put, Take, Swap, Move, Seek}
use Rattle.ic_world.specs.declared.calls.collection_call.Neighbor.TheVariants.{Next, Prev}
use Rattle.ic_world.specs.declared.calls.seek.Seek.TheVariants.{Null}
use Rattle.ic_program.specs.Grammar.{calls, number_in, place_in, one, two, on, on_with}
use Rattle.ic_program.specs.Slots.{slots}
use Rattle.ic_program.proofs.CallLemmas.{is_call, no_fast_call, neither_fast_call, not_fast}
use Rattle.ic_program.proofs.fast_path.fast_call_at.Goals as goal

pub returns-in_ok-collection-in-13-clause-said : goal.returns-in_ok-collection-in-13-clause-said
unfolding calls
returns-in_ok-collection-in-13-clause-said c = is_call (codes "push_front ") (two number_in place_in (on_with (Put Front))) c.args.text.now _ _ (c.in_ok-collection-in-13.ensures.said (on_with (Put Front))) refl

pub returns-in_err-collection-in-13-clause-none : goal.returns-in_err-collection-in-13-clause-none
unfolding calls slots
returns-in_err-collection-in-13-clause-none c = no_fast_call _ _ 13 c.in-13.is (codes "push_front ") (two number_in place_in (on_with (Put Front))) c.args.text.now refl (c.in_err-collection-in-13.ensures.none (on_with (Put Front)))

pub returns-in_ok-collection-in-47-clause-said : goal.returns-in_ok-collection-in-47-clause-said
unfolding calls
returns-in_ok-collection-in-47-clause-said c = is_call (codes "push_back ") (two number_in place_in (on_with (Put Back))) c.args.text.now _ _ (c.in_ok-collection-in-47.ensures.said (on_with (Put Back))) refl

pub returns-in_err-collection-in-47-clause-none : goal.returns-in_err-collection-in-47-clause-none
unfolding calls slots
returns-in_err-collection-in-47-clause-none c = no_fast_call _ _ 47 c.in-47.is (codes "push_back ") (two number_in place_in (on_with (Put Back))) c.args.text.now refl (c.in_err-collection-in-47.ensures.none (on_with (Put Back)))

pub returns-in_ok-collection-in-6-clause-said : goal.returns-in_ok-collection-in-6-clause-said
unfolding calls
returns-in_ok-collection-in-6-clause-said c = is_call (codes "pop_front ") (one number_in (on (Take Front))) c.args.text.now _ _ (c.in_ok-collection-in-6.ensures.said (on (Take Front))) refl

pub returns-in_err-collection-in-6-clause-none : goal.returns-in_err-collection-in-6-clause-none
unfolding calls slots
returns-in_err-collection-in-6-clause-none c = no_fast_call _ _ 6 c.in-6.is (codes "pop_front ") (one number_in (on (Take Front))) c.args.text.now refl (c.in_err-collection-in-6.ensures.none (on (Take Front)))

pub returns-in_ok-collection-in-11-clause-said : goal.returns-in_ok-collection-in-11-clause-said
unfolding calls
returns-in_ok-collection-in-11-clause-said c = is_call (codes "pop_back ") (one number_in (on (Take Back))) c.args.text.now _ _ (c.in_ok-collection-in-11.ensures.said (on (Take Back))) refl

pub returns-in_err-collection-in-11-clause-none : goal.returns-in_err-collection-in-11-clause-none
unfolding calls slots
returns-in_err-collection-in-11-clause-none c = no_fast_call _ _ 11 c.in-11.is (codes "pop_back ") (one number_in (on (Take Back))) c.args.text.now refl (c.in_err-collection-in-11.ensures.none (on (Take Back)))

pub returns-in_ok-collection-in-39-clause-said : goal.returns-in_ok-collection-in-39-clause-said
unfolding calls
returns-in_ok-collection-in-39-clause-said c = is_call (codes "move_next ") (one number_in (on (Move Next))) c.args.text.now _ _ (c.in_ok-collection-in-39.ensures.said (on (Move Next))) refl

pub returns-in_err-collection-in-39-clause-none : goal.returns-in_err-collection-in-39-clause-none
unfolding calls slots
returns-in_err-collection-in-39-clause-none c = no_fast_call _ _ 39 c.in-39.is (codes "move_next ") (one number_in (on (Move Next))) c.args.text.now refl (c.in_err-collection-in-39.ensures.none (on (Move Next)))

pub returns-in_ok-collection-in-53-clause-said : goal.returns-in_ok-collection-in-53-clause-said
unfolding calls
returns-in_ok-collection-in-53-clause-said c = is_call (codes "move_prev ") (one number_in (on (Move Prev))) c.args.text.now _ _ (c.in_ok-collection-in-53.ensures.said (on (Move Prev))) refl

pub returns-in_err-collection-in-53-clause-none : goal.returns-in_err-collection-in-53-clause-none
unfolding calls slots
returns-in_err-collection-in-53-clause-none c = no_fast_call _ _ 53 c.in-53.is (codes "move_prev ") (one number_in (on (Move Prev))) c.args.text.now refl (c.in_err-collection-in-53.ensures.none (on (Move Prev)))

pub returns-in_ok-collection-in-49-clause-said : goal.returns-in_ok-collection-in-49-clause-said
unfolding calls
returns-in_ok-collection-in-49-clause-said c = is_call (codes "go_null ") (one number_in (on (Seek Null))) c.args.text.now _ _ (c.in_ok-collection-in-49.ensures.said (on (Seek Null))) refl

pub returns-in_err-collection-in-49-clause-none : goal.returns-in_err-collection-in-49-clause-none
unfolding calls slots
returns-in_err-collection-in-49-clause-none c = no_fast_call _ _ 49 c.in-49.is (codes "go_null ") (one number_in (on (Seek Null))) c.args.text.now refl (c.in_err-collection-in-49.ensures.none (on (Seek Null)))

pub returns-in_ok-collection-in-20-clause-said : goal.returns-in_ok-collection-in-20-clause-said
unfolding calls
returns-in_ok-collection-in-20-clause-said c = is_call (codes "current ") (one number_in call.Current) c.args.text.now _ _ (c.in_ok-collection-in-20.ensures.said call.Current) refl

pub returns-in_err-collection-in-20-clause-none : goal.returns-in_err-collection-in-20-clause-none
unfolding calls slots
returns-in_err-collection-in-20-clause-none c = no_fast_call _ _ 20 c.in-20.is (codes "current ") (one number_in call.Current) c.args.text.now refl (c.in_err-collection-in-20.ensures.none call.Current)

pub returns-in_ok-collection-in-45-clause-said : goal.returns-in_ok-collection-in-45-clause-said
unfolding calls
returns-in_ok-collection-in-45-clause-said c = is_call (codes "insert_after ") (two number_in place_in (on_with (Put After))) c.args.text.now _ _ (c.in_ok-collection-in-45.ensures.said (on_with (Put After))) refl

pub returns-in_err-collection-in-45-clause-none : goal.returns-in_err-collection-in-45-clause-none
unfolding calls slots
returns-in_err-collection-in-45-clause-none c = no_fast_call _ _ 45 c.in-45.is (codes "insert_after ") (two number_in place_in (on_with (Put After))) c.args.text.now refl (c.in_err-collection-in-45.ensures.none (on_with (Put After)))

pub returns-in_ok-collection-in-41-clause-said : goal.returns-in_ok-collection-in-41-clause-said
unfolding calls
returns-in_ok-collection-in-41-clause-said c = is_call (codes "insert_before ") (two number_in place_in (on_with (Put Before))) c.args.text.now _ _ (c.in_ok-collection-in-41.ensures.said (on_with (Put Before))) refl

pub returns-in_err-collection-in-41-clause-none : goal.returns-in_err-collection-in-41-clause-none
unfolding calls slots
returns-in_err-collection-in-41-clause-none c = no_fast_call _ _ 41 c.in-41.is (codes "insert_before ") (two number_in place_in (on_with (Put Before))) c.args.text.now refl (c.in_err-collection-in-41.ensures.none (on_with (Put Before)))

pub returns-in_ok-collection-in-48-clause-said : goal.returns-in_ok-collection-in-48-clause-said
unfolding calls
returns-in_ok-collection-in-48-clause-said c = is_call (codes "remove ") (one number_in (on (Take Before))) c.args.text.now _ _ (c.in_ok-collection-in-48.ensures.said (on (Take Before))) refl

pub returns-in_err-collection-in-48-clause-none : goal.returns-in_err-collection-in-48-clause-none
unfolding calls slots
returns-in_err-collection-in-48-clause-none c = no_fast_call _ _ 48 c.in-48.is (codes "remove ") (one number_in (on (Take Before))) c.args.text.now refl (c.in_err-collection-in-48.ensures.none (on (Take Before)))

pub returns-in_ok-collection-in-61-clause-said : goal.returns-in_ok-collection-in-61-clause-said
unfolding calls
returns-in_ok-collection-in-61-clause-said c = is_call (codes "remove_next ") (one number_in (on (Take After))) c.args.text.now _ _ (c.in_ok-collection-in-61.ensures.said (on (Take After))) refl

pub returns-in_err-collection-in-61-clause-none : goal.returns-in_err-collection-in-61-clause-none
unfolding calls slots
returns-in_err-collection-in-61-clause-none c = no_fast_call _ _ 61 c.in-61.is (codes "remove_next ") (one number_in (on (Take After))) c.args.text.now refl (c.in_err-collection-in-61.ensures.none (on (Take After)))

pub returns-in-Some-clause-said : goal.returns-in-Some-clause-said
unfolding calls
returns-in-Some-clause-said c = is_call (codes "replace_with ") (two number_in place_in (on_with (Swap Before))) c.args.text.now _ _ (c.in-Some.ensures.said (on_with (Swap Before))) refl

pub returns-in_ok-collection-in-None-clause-said : goal.returns-in_ok-collection-in-None-clause-said
unfolding calls
returns-in_ok-collection-in-None-clause-said c = is_call (codes "replace_next_with ") (two number_in place_in (on_with (Swap After))) c.args.text.now _ _ (c.in_ok-collection-in-None.ensures.said (on_with (Swap After))) refl

pub returns-in_err-collection-in-None-clause-none : goal.returns-in_err-collection-in-None-clause-none
unfolding calls slots
returns-in_err-collection-in-None-clause-none c =
    neither_fast_call _ _ 38 c.in-38.is (codes "replace_with ") (codes "replace_next_with ") (two number_in place_in (on_with (Swap Before))) (two number_in place_in (on_with (Swap After))) c.args.text.now refl (c.in-None.ensures.none (on_with (Swap Before))) (c.in_err-collection-in-None.ensures.none (on_with (Swap After)))

pub returns-in_default-clause-none : goal.returns-in_default-clause-none
returns-in_default-clause-none c = λ word fast. not_fast c.args.slot c.args.text.now (search rules) word fast
