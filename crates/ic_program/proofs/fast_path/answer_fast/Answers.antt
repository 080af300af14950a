-- Each call of the table is the call that the line means, and is a step from a sound family.
use Rattle.std.proofs.Common.{codes, refl}
use Rattle.ic_world.specs.declared.call.Command.TheVariants as call
use Rattle.ic_any_collection.specs.declared.gap.Gap.TheVariants.{Front, Back, Before, After}
use Rattle.ic_world.specs.declared.calls.collection_call.Call.TheVariants.{Put, Take, Swap, Move, Seek}
use Rattle.ic_world.specs.declared.calls.collection_call.Neighbor.TheVariants.{Next, Prev}
use Rattle.ic_world.specs.declared.calls.seek.Seek.TheVariants.{Null}
use Rattle.ic_program.specs.Grammar.{calls, number_in, place_in, one, two, on, on_with}
use Rattle.ic_program.proofs.AnsweredLemmas.{fast_answered}
use Rattle.ic_program.proofs.CallLemmas.{is_call}
use Rattle.ic_program.proofs.fast_path.answer_fast.Goals as goal

pub returns-in_ok-collection-in-0-clause-answered : goal.returns-in_ok-collection-in-0-clause-answered
unfolding calls
returns-in_ok-collection-in-0-clause-answered g c =
    fast_answered c.args.text.now _ _ _ (on_with (Put Front) c.in_ok-collection-in-0.collection c.in_ok-collection-in-0.object) _ _ (is_call (codes "push_front ") (two number_in place_in (on_with (Put Front))) c.args.text.now _ _ (c.in_ok-collection-in-0.ensures.said (on_with (Put Front))) refl) c.family_is_sound.ensures c.push_front.ensures c.done.ensures

pub returns-in_ok-collection-in-6-clause-answered : goal.returns-in_ok-collection-in-6-clause-answered
unfolding calls
returns-in_ok-collection-in-6-clause-answered g c =
    fast_answered c.args.text.now _ _ _ (on_with (Put Back) c.in_ok-collection-in-6.collection c.in_ok-collection-in-6.object) _ _ (is_call (codes "push_back ") (two number_in place_in (on_with (Put Back))) c.args.text.now _ _ (c.in_ok-collection-in-6.ensures.said (on_with (Put Back))) refl) c.family_is_sound.ensures c.push_back.ensures c.done-in-6.ensures

pub returns-in_ok-collection-in-15-clause-answered : goal.returns-in_ok-collection-in-15-clause-answered
unfolding calls
returns-in_ok-collection-in-15-clause-answered g c =
    fast_answered c.args.text.now _ _ _ (on (Take Front) c.in_ok-collection-in-15.collection) _ _ (is_call (codes "pop_front ") (one number_in (on (Take Front))) c.args.text.now _ _ (c.in_ok-collection-in-15.ensures.said (on (Take Front))) refl) c.family_is_sound.ensures c.pop_front.ensures c.found.ensures

pub returns-in_ok-collection-in-14-clause-answered : goal.returns-in_ok-collection-in-14-clause-answered
unfolding calls
returns-in_ok-collection-in-14-clause-answered g c =
    fast_answered c.args.text.now _ _ _ (on (Take Back) c.in_ok-collection-in-14.collection) _ _ (is_call (codes "pop_back ") (one number_in (on (Take Back))) c.args.text.now _ _ (c.in_ok-collection-in-14.ensures.said (on (Take Back))) refl) c.family_is_sound.ensures c.pop_back.ensures c.found-in-14.ensures

pub returns-in_ok-collection-in-7-clause-answered : goal.returns-in_ok-collection-in-7-clause-answered
unfolding calls
returns-in_ok-collection-in-7-clause-answered g c =
    fast_answered c.args.text.now _ _ _ (on (Move Next) c.in_ok-collection-in-7.collection) _ _ (is_call (codes "move_next ") (one number_in (on (Move Next))) c.args.text.now _ _ (c.in_ok-collection-in-7.ensures.said (on (Move Next))) refl) c.family_is_sound.ensures c.move_next.ensures c.found-in-7.ensures

pub returns-in_ok-collection-in-1-clause-answered : goal.returns-in_ok-collection-in-1-clause-answered
unfolding calls
returns-in_ok-collection-in-1-clause-answered g c =
    fast_answered c.args.text.now _ _ _ (on (Move Prev) c.in_ok-collection-in-1.collection) _ _ (is_call (codes "move_prev ") (one number_in (on (Move Prev))) c.args.text.now _ _ (c.in_ok-collection-in-1.ensures.said (on (Move Prev))) refl) c.family_is_sound.ensures c.move_prev.ensures c.found-in-1.ensures

pub returns-in_ok-collection-in-9-clause-answered : goal.returns-in_ok-collection-in-9-clause-answered
unfolding calls
returns-in_ok-collection-in-9-clause-answered g c =
    fast_answered c.args.text.now _ _ _ (on (Seek Null) c.in_ok-collection-in-9.collection) _ _ (is_call (codes "go_null ") (one number_in (on (Seek Null))) c.args.text.now _ _ (c.in_ok-collection-in-9.ensures.said (on (Seek Null))) refl) c.family_is_sound.ensures c.go_null.ensures c.done-in-9.ensures

pub returns-in_ok-collection-in-2-clause-answered : goal.returns-in_ok-collection-in-2-clause-answered
unfolding calls
returns-in_ok-collection-in-2-clause-answered g c =
    fast_answered c.args.text.now _ _ _ (call.Current c.in_ok-collection-in-2.collection) _ _ (is_call (codes "current ") (one number_in call.Current) c.args.text.now _ _ (c.in_ok-collection-in-2.ensures.said call.Current) refl) c.family_is_sound.ensures c.current.ensures c.found-in-2.ensures

pub returns-in_ok-collection-in-13-clause-answered : goal.returns-in_ok-collection-in-13-clause-answered
unfolding calls
returns-in_ok-collection-in-13-clause-answered g c =
    fast_answered c.args.text.now _ _ _ (on_with (Put After) c.in_ok-collection-in-13.collection c.in_ok-collection-in-13.object) _ _ (is_call (codes "insert_after ") (two number_in place_in (on_with (Put After))) c.args.text.now _ _ (c.in_ok-collection-in-13.ensures.said (on_with (Put After))) refl) c.family_is_sound.ensures c.insert_after.ensures c.done-in-13.ensures

pub returns-in_ok-collection-in-5-clause-answered : goal.returns-in_ok-collection-in-5-clause-answered
unfolding calls
returns-in_ok-collection-in-5-clause-answered g c =
    fast_answered c.args.text.now _ _ _ (on_with (Put Before) c.in_ok-collection-in-5.collection c.in_ok-collection-in-5.object) _ _ (is_call (codes "insert_before ") (two number_in place_in (on_with (Put Before))) c.args.text.now _ _ (c.in_ok-collection-in-5.ensures.said (on_with (Put Before))) refl) c.family_is_sound.ensures c.insert_before.ensures c.done-in-5.ensures

pub returns-in_ok-collection-in-3-clause-answered : goal.returns-in_ok-collection-in-3-clause-answered
unfolding calls
returns-in_ok-collection-in-3-clause-answered g c =
    fast_answered c.args.text.now _ _ _ (on (Take Before) c.in_ok-collection-in-3.collection) _ _ (is_call (codes "remove ") (one number_in (on (Take Before))) c.args.text.now _ _ (c.in_ok-collection-in-3.ensures.said (on (Take Before))) refl) c.family_is_sound.ensures c.remove.ensures c.found-in-3.ensures

pub returns-in_ok-collection-in-4-clause-answered : goal.returns-in_ok-collection-in-4-clause-answered
unfolding calls
returns-in_ok-collection-in-4-clause-answered g c =
    fast_answered c.args.text.now _ _ _ (on (Take After) c.in_ok-collection-in-4.collection) _ _ (is_call (codes "remove_next ") (one number_in (on (Take After))) c.args.text.now _ _ (c.in_ok-collection-in-4.ensures.said (on (Take After))) refl) c.family_is_sound.ensures c.remove_next.ensures c.found-in-4.ensures

pub returns-in-Some-clause-answered : goal.returns-in-Some-clause-answered
unfolding calls
returns-in-Some-clause-answered g c =
    fast_answered c.args.text.now _ _ _ (on_with (Swap Before) c.in-Some.collection c.in-Some.object) _ _ (is_call (codes "replace_with ") (two number_in place_in (on_with (Swap Before))) c.args.text.now _ _ (c.in-Some.ensures.said (on_with (Swap Before))) refl) c.family_is_sound.ensures c.replace_with.ensures c.replaced.ensures

pub returns-in_ok-collection-in-None-clause-answered : goal.returns-in_ok-collection-in-None-clause-answered
unfolding calls
returns-in_ok-collection-in-None-clause-answered g c =
    fast_answered c.args.text.now _ _ _ (on_with (Swap After) c.in_ok-collection-in-None.collection c.in_ok-collection-in-None.object) _ _ (is_call (codes "replace_next_with ") (two number_in place_in (on_with (Swap After))) c.args.text.now _ _ (c.in_ok-collection-in-None.ensures.said (on_with (Swap After))) refl) c.family_is_sound.ensures c.replace_next_with.ensures c.replaced-in-None.ensures
