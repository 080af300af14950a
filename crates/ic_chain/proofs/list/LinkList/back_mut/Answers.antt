use Rattle.std.proofs.Common.{◌∙◌, refl, append-nil}
use Rattle.ic_link_ops.specs.Sequences.{at_back}
use Rattle.ic_chain.proofs.Standing.{stands_here, last_kept}
use Rattle.ic_chain.proofs.list.LinkList.back_mut.Goals as goal

pub returns-clause-position : goal.returns-clause-position
returns-clause-position g c s shown = rw c.new.ensures.position (c.of-at.ensures.on ∙ c.last.ensures ∙ last_kept g.K.ListKind.kept g.K.ListKind.kept_last g.met.K.DoubleEnded.keeps_both g.met.K.ListKind.tells_last shown.tail)

pub returns-clause-kept : goal.returns-clause-kept
returns-clause-kept g c shown =
    rw (c.new.ensures.borrows.2, c.new.ensures.borrows.3, c.new.ensures.position)
    (stands_here (at_back shown.0) (rw (append-nil shown.0) shown.1) (c.of-at.ensures.on ∙ c.last.ensures ∙ last_kept g.K.ListKind.kept g.K.ListKind.kept_last g.met.K.DoubleEnded.keeps_both g.met.K.ListKind.tells_last shown.1.tail) c.of-at.ensures.caches refl)
