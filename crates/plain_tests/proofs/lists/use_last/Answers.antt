use Rattle.std.proofs.Common.{List, [], ◌∷◌, ◌++◌, sym, subst}
use Rattle.ic_link_ops.specs.Prelude.{Place, but_last}
use Rattle.ic_link_ops.specs.DoublyEntries.{PlainRepresents}
use Rattle.ic_link_ops.proofs.SequenceLemmas.{split_last}
use Rattle.plain_tests.proofs.lists.use_last.Goals as goal

pub reuse-requires : goal.reuse-requires
reuse-requires c =
    let s : List Place = c.requires.shown.0 in
    let is = c.in-Some.ensures.last s c.requires.shown.1 in
    let cut = subst (PlainRepresents c.args.links.now c.args.list.now) (split_last s (sym is)) c.requires.shown.1 in
    record { member = record { front = but_last s; back = []; shown = rw c.new.ensures cut } }

pub returns-in-Some : goal.returns-in-Some
returns-in-Some c =
    let s : List Place = c.requires.shown.0 in
    let is = c.in-Some.ensures.last s c.requires.shown.1 in
    let cut = subst (PlainRepresents c.args.links.now c.args.list.now) (split_last s (sym is)) c.requires.shown.1 in
    record { shown = (c.new.result ∷ (but_last s ++ []), c.reuse.ensures.moved (but_last s) [] (rw c.new.ensures cut)) }
