use Rattle.std.proofs.Common.{sym, ◌∙◌, inl, inr, arith}
use Rattle.ic_link_ops.proofs.Walks.{is_end_yes, is_end_no}
use Rattle.ic_rbtree.proofs.Climbed.{is_end_there}
use Rattle.ic_rbtree.proofs.contains.has_child.Goals as goal

pub returns-then-is_at : goal.returns-then-is_at
returns-then-is_at g c = (
  λ yes. record {
    covered = omega (arith, c.if-index-covers.false, c.index.ensures.value, c.covers.ensures);
    linked = g.met.W.NodeWords.node_linked _ ∙ sym c.if-not-is_linked.ensures;
    child = inl (sym c.left.ensures ∙ is_end_yes c.left.result c.args.place (sym c.if-is_at.ensures));
  },
  λ has. c.if-is_at.true,
)

pub returns-else-is_at : goal.returns-else-is_at
returns-else-is_at g c = (
  λ yes. record {
    covered = omega (arith, c.if-index-covers.false, c.index.ensures.value, c.covers.ensures);
    linked = g.met.W.NodeWords.node_linked _ ∙ sym c.if-not-is_linked.ensures;
    child = inr (sym c.right.ensures ∙ is_end_yes c.right.result c.args.place (sym c.is_at-else-is_at.ensures ∙ yes));
  },
  λ has. elim has.child [
    | inl e ↦ absurd (is_end_no c.left.result c.args.place (sym c.if-is_at.ensures) (c.left.ensures ∙ e))
    | inr e ↦ c.is_at-else-is_at.ensures ∙ is_end_there (c.right.ensures ∙ e)
  ],
)
