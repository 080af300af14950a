use Rattle.std.proofs.Common.{refl, sym, ◌∙◌, inl, inr}
use Rattle.ic_unsafe_ref.specs.Places.{index_of}
use Rattle.ic_link_ops.specs.EntryLaws.{linked_in_range}
use Rattle.ic_link_ops.proofs.Walks.{is_end_yes, is_end_no}
use Rattle.ic_rbtree.proofs.Climbed.{is_end_there}
use Rattle.ic_raw.specs.Prelude.{marked_entries, is_linked_three, no_tree_words}
use Rattle.ic_raw_trees.proofs.shown.has_child.Goals as goal

pub returns-then-is_at : goal.returns-then-is_at
returns-then-is_at c =
    let linked = sym c.tells_linked.ensures ∙ c.if-not-tells_linked.false in (
      λ yes. record {
        covered = linked_in_range is_linked_three no_tree_words refl (marked_entries c.args.links.now) (index_of c.args.parent) linked;
        linked = linked;
        child = inl (sym c.left.ensures ∙ is_end_yes c.left.result c.args.place (sym c.is_at.ensures ∙ yes));
      },
      λ has. c.if-is_at.true,
    )

pub returns-else-is_at : goal.returns-else-is_at
returns-else-is_at c =
    let linked = sym c.tells_linked.ensures ∙ c.if-not-tells_linked.false in (
      λ yes. record {
        covered = linked_in_range is_linked_three no_tree_words refl (marked_entries c.args.links.now) (index_of c.args.parent) linked;
        linked = linked;
        child = inr (sym c.right.ensures ∙ is_end_yes c.right.result c.args.place (sym c.is_at-else-is_at.ensures ∙ yes));
      },
      λ has. elim has.child [
        | inl e ↦ absurd (is_end_no c.left.result c.args.place (sym c.is_at.ensures ∙ c.if-is_at.false) (c.left.ensures ∙ e))
        | inr e ↦ c.is_at-else-is_at.ensures ∙ is_end_there (c.right.ensures ∙ e)
      ],
    )
