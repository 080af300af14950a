use Rattle.std.proofs.Common.{List, drop}
use Rattle.ic_unsafe_ref.specs.declared.place.Place.{Place}
use Rattle.ic_lock_free_stack.proofs.HolderLemmas.{apart_in}
use Rattle.lock_free_stack_tests.proofs.frees.free_both_ways.Goals as goal

pub free_all-requires-clause-shown : goal.free_all-requires-clause-shown
free_all-requires-clause-shown c =
    let s : List Place = c.requires.shown.0 in
    let rest : List Place = drop 1 s in
    let found = c.in-Some.ensures.found s c.requires.shown.1 in
    let left = c.next.ensures.rest s c.requires.shown.1 in
    (rest, c.free.ensures.chains c.next.new.chain rest left (λ q m. apart_in rest c.in-Some.first q found.2 m))
