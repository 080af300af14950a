use Rattle.std.proofs.Common.{refl, sym, ◌∙◌, arith}
use Rattle.ic_unsafe_ref.specs.Places.{index_of}
use Rattle.ic_link_ops.specs.EntryLaws.{linked_in_range}
use Rattle.ic_link_ops.proofs.Prelude.{split_member, root_member, is_end_yes}
use Rattle.ic_rbtree.proofs.Climbed.{at_root, child_member, climbs, has_child, is_end_there, starts}
use Rattle.ic_raw.specs.Prelude.{marked_entries, node, is_linked_three, no_tree_words}
use Rattle.ic_raw_trees.proofs.Checks.{member_of}
use Rattle.ic_raw_trees.proofs.shown.climbs_to_root.Goals as goal

pub loop-steps-init : goal.loop-steps-init
loop-steps-init c = record {
  linked = c.requires.linked;
  climbs = λ s shown member. starts node shown member;
  back = λ s shown member. member;
  few = omega arith;
}

pub returns-in_default : goal.returns-in_default
returns-in_default c =
    let i = c.loop-steps.invariant in
    let s = c.requires.shown in (
      λ yes. member_of c.args.place s.1 (i.back s.0 s.1 (root_member s.1 (sym c.root.ensures ∙ is_end_yes c.root.result c.loop-steps.place (sym c.is_at.ensures ∙ yes)))),
      λ has.
          let climb = i.climbs _ has.shown (split_member has.front c.args.place has.back) in
          c.is_at.ensures ∙ is_end_there (c.root.ensures ∙ at_root node has.shown climb (sym c.parent.ensures ∙ c.in_default.is)),
    )

pub returns-then-not-has_child : goal.returns-then-not-has_child
returns-then-not-has_child c = (
  λ never. absurd (cc),
  λ has.
      let climb = c.loop-steps.invariant.climbs _ has.shown (split_member has.front c.args.place has.back) in
      c.if-not-has_child.ensures.1
      (has_child node has.shown (λ x e. linked_in_range is_linked_three no_tree_words refl (marked_entries c.args.links.now) (index_of x) e) climb (sym c.in-Some.ensures)),
)

pub loop-steps-preserved : goal.loop-steps-preserved
loop-steps-preserved c =
    let i = c.loop-steps.invariant in
    let has = c.if-not-has_child.ensures.0 refl in
    record {
      linked = has.linked;
      climbs = λ s shown member. climbs node shown (i.climbs s shown member) (sym c.in-Some.ensures);
      back = λ s shown member. i.back s shown (child_member node shown has member);
      few = omega (arith, c.loop-steps-test.true);
    }

pub returns : goal.returns
returns c = (
  λ never. absurd (cc),
  λ has.
      let climb = c.loop-steps.invariant.climbs _ has.shown (split_member has.front c.args.place has.back) in
      absurd (omega (arith, climb.few, c.loop-steps-test.false)),
)
