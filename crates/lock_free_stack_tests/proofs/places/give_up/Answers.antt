use Rattle.std.proofs.Common.{◌≡◌, ◌≤◌, ◌+◌, List, drop, ap, arith}
use Rattle.ic_unsafe_ref.specs.declared.place.Place.{Place}
use Rattle.ic_lock_free_stack.specs.Holders.{spent_by}
use Rattle.ic_lock_free_stack.proofs.HolderLemmas.{apart_in}
use Rattle.ic_lock_free_stack.proofs.LeftLemmas.{left_fewer}
use Rattle.lock_free_stack_tests.proofs.places.give_up.Goals as goal

pub loop-place-preserved : goal.loop-place-preserved
loop-place-preserved c =
    let was = c.loop-place.invariant in
    let rest : List Place = drop 1 was.shown.0 in
    let found = c.in-Some.ensures.found was.shown.0 was.shown.1 in
    let left = c.next.ensures.rest was.shown.0 was.shown.1 in
    let same = ap spent_by c.next.ensures.same in
    record {
      made = c.release.ensures.made;
      shown = (rest, c.release.ensures.chains c.next.new.chain rest left (λ q m. apart_in rest c.in-Some.place q found.2 m));
      spent = omega (arith, was.spent, c.release.ensures.step.spends, same);
    }

pub loop-place-smaller : goal.loop-place-smaller
unfolding loop-place-preserved
loop-place-smaller c =
    let was = c.loop-place.invariant in
    let s : List Place = was.shown.0 in
    left_fewer c.args.stacks.now c.loop-place.holder c.release.new.holder c.loop-place.chain c.next.new.chain s c.in-Some.place was.shown.1 (c.in-Some.ensures.answer s was.shown.1)
    (loop-place-preserved c).shown.1
