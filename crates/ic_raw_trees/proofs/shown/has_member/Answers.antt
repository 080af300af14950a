use Rattle.std.proofs.Common.{sym, ◌∙◌}
use Rattle.ic_link_ops.proofs.Prelude.{split_member, holds_linked}
use Rattle.ic_raw_trees.proofs.shown.has_member.Goals as goal

pub returns-then-not-tells_linked : goal.returns-then-not-tells_linked
returns-then-not-tells_linked c = (
  λ never. absurd (cc),
  λ has.
      let linked = holds_linked has.shown.held (split_member has.front c.args.place has.back) in
      sym c.if-not-tells_linked.true ∙ (c.tells_linked.ensures ∙ linked),
)
