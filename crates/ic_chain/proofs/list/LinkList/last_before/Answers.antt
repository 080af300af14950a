use Rattle.std.proofs.Common.{inl, sym, ◌∙◌}
use Rattle.ic_chain.proofs.Standing.{last_kept}
use Rattle.ic_chain.proofs.list.LinkList.last_before.Goals as goal

pub returns-then-keeps_last : goal.returns-then-keeps_last
returns-then-keeps_last g c s shown =
    inl (c.kept_last.ensures ∙ last_kept g.K.ListKind.kept g.K.ListKind.kept_last (sym c.if-keeps_last.ensures) g.met.K.ListKind.tells_last shown.tail)
