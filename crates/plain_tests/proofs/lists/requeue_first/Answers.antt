use Rattle.std.proofs.Common.{List, [], ◌∷◌, ◌++◌, drop, subst}
use Rattle.ic_link_ops.specs.Prelude.{Place}
use Rattle.ic_link_ops.specs.DoublyEntries.{PlainRepresents}
use Rattle.ic_link_ops.proofs.SequenceLemmas.{first_is}
use Rattle.plain_tests.proofs.lists.requeue_first.Goals as goal

pub requeue-requires : goal.requeue-requires
requeue-requires c =
    let s : List Place = c.requires.shown.0 in
    let is = c.in-Some.ensures.first s c.requires.shown.1 in
    let cut = subst (PlainRepresents c.args.links.now c.args.list.now) (first_is s is) c.requires.shown.1 in
    record { member = record { front = []; back = drop 1 s; shown = rw c.new.ensures cut } }

pub returns-in-Some : goal.returns-in-Some
returns-in-Some c =
    let s : List Place = c.requires.shown.0 in
    let is = c.in-Some.ensures.first s c.requires.shown.1 in
    let cut = subst (PlainRepresents c.args.links.now c.args.list.now) (first_is s is) c.requires.shown.1 in
    record { shown = (drop 1 s ++ c.new.result ∷ [], c.requeue.ensures.moved [] (drop 1 s) (rw c.new.ensures cut)) }
