use Rattle.std.proofs.Common.{refl}
use Rattle.ic_link_ops.proofs.Covering.{still_covered}
use Rattle.ic_hash_table.proofs.Callers.{held_represented}
use Rattle.ic_hash_index.proofs.HashLemmas.{hash_freed, on_true, singly_covered}
use Rattle.ic_hash_index.proofs.hash_index.HashIndexIndex.remove_place.Goals as goal

pub remove-requires-clause-placed : goal.remove-requires-clause-placed
remove-requires-clause-placed g c = rw c.new.ensures c.requires.placed

pub remove-requires-clause-held : goal.remove-requires-clause-held
remove-requires-clause-held g c = (c.requires.all.members, c.requires.all.held)

pub returns-clause-removed : goal.returns-clause-removed
returns-clause-removed g c less frees =
    let a = c.requires.all in
    let e = rw c.new.ensures at c.remove.ensures in
    hash_freed (λ e. refl) a c.args.place c.requires.placed e.removed (on_true c.remove.result e.released ((e.answer a.members a.held).1 (a.all c.args.place c.requires.placed))) frees

pub returns-clause-free : goal.returns-clause-free
returns-clause-free g c =
    let a = c.requires.all in
    let e = rw c.new.ensures at c.remove.ensures in
    let off = on_true c.remove.result e.released ((e.answer a.members a.held).1 (a.all c.args.place c.requires.placed)) in
    off.is

pub returns-clause-covered : goal.returns-clause-covered
returns-clause-covered g c =
    let a = c.requires.all in
    let e = rw c.new.ensures at c.remove.ensures in
    let off = on_true c.remove.result e.released ((e.answer a.members a.held).1 (a.all c.args.place c.requires.placed)) in
    still_covered c.args.place (e.kept.chains.frame a.members (held_represented a.held)) (singly_covered g.W.Words.width g.W.Words.unlinked g.W.Words.is_linked g.met.W.Words.starts_unlinked c.args.links.now c.args.place off.was)
