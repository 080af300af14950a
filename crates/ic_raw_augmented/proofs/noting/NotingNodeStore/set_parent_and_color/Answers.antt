use Rattle.std.proofs.Common.{refl, ap}
use Rattle.ic_link_ops.specs.RedBlackTree.{Node}
use Rattle.ic_raw_augmented.proofs.Notes.{write_beside}
use Rattle.ic_raw_augmented.proofs.noting.NotingNodeStore.set_parent_and_color.Goals as goal

pub returns-clause-keeps_links : goal.returns-clause-keeps_links
returns-clause-keeps_links c = record {
  links_name = refl;
  written_name = refl;
  keeps_links = c.set_parent_and_color.ensures.keeps_links;
  notes = write_beside _ _ _ c.args.place
      (record { left = ap (λ (x : Node). x.left) c.set_parent_and_color.ensures.set; right = ap (λ (x : Node). x.right) c.set_parent_and_color.ensures.set }) c.set_parent_and_color.ensures.frame;
}
