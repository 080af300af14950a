use Rattle.std.proofs.Common.{refl, sym, ◌∙◌, arith}
use Rattle.ic_link_ops.specs.Prelude.{index_of, entries, linked_by, nameable}
use Rattle.ic_link_ops.specs.Links.{link_with}
use Rattle.ic_link_ops.specs.EntryLaws.{linked_in_range}
use Rattle.ic_link_ops.proofs.Prelude.{holds_linked, root_member, is_end_yes}
use Rattle.ic_rbtree.specs.PlainTrees.{node_by}
use Rattle.ic_rbtree.proofs.Climbed.{is_end_there, starts, climbs, has_child, child_member, at_root}
use Rattle.ic_rbtree.proofs.tree.RBTree.contains.Goals as goal

pub returns-then-not-is_linked : goal.returns-then-not-is_linked
returns-then-not-is_linked g c s shown = (
  λ never. absurd (cc),
  λ member. c.if-not-is_linked.ensures ∙ (sym (g.met.W.NodeWords.node_linked _) ∙ holds_linked shown.held member),
)

pub loop-steps-init : goal.loop-steps-init
loop-steps-init g c = record {
  linked = sym c.if-not-is_linked.ensures;
  climbs = λ s shown member. starts (node_by g.W.NodeWords.node) shown member;
  back = λ s shown member. member;
  few = omega arith;
}

pub returns-in_default : goal.returns-in_default
returns-in_default g c s shown =
    let i = c.loop-steps.invariant in (
      λ yes. i.back s shown (root_member shown (sym c.root.ensures ∙ is_end_yes c.root.result c.loop-steps.place (sym c.is_at.ensures ∙ yes))),
      λ member. c.is_at.ensures ∙ is_end_there (c.root.ensures ∙ at_root (node_by g.W.NodeWords.node) shown (i.climbs s shown member) (sym c.parent.ensures ∙ c.in_default.is)),
    )

pub returns-then-not-has_child : goal.returns-then-not-has_child
returns-then-not-has_child g c s shown = (
  λ never. absurd (cc),
  λ member.
      c.if-not-has_child.ensures.1
      (has_child (node_by g.W.NodeWords.node) shown (λ x e. linked_in_range (linked_by g.W.Words.is_linked) (link_with g.W.Words.unlinked g.V.LinkValue.initial) g.met.W.Words.starts_unlinked
      (nameable g.W.Words.width (entries c.args.links.now)) (index_of x) (sym (g.met.W.NodeWords.node_linked _) ∙ e))
      (c.loop-steps.invariant.climbs s shown member) (sym c.in-Some.ensures)),
)

pub loop-steps-preserved : goal.loop-steps-preserved
loop-steps-preserved g c =
    let i = c.loop-steps.invariant in
    let has = c.if-not-has_child.ensures.0 refl in
    record {
      linked = sym (g.met.W.NodeWords.node_linked _) ∙ has.linked;
      climbs = λ s shown member. climbs (node_by g.W.NodeWords.node) shown (i.climbs s shown member) (sym c.in-Some.ensures);
      back = λ s shown member. i.back s shown (child_member (node_by g.W.NodeWords.node) shown has member);
      few = omega (arith, c.loop-steps-test.true);
    }
