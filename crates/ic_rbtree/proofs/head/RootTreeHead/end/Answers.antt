use Rattle.std.proofs.Common.{◌≡◌, List, refl, ◌∙◌}
use Rattle.ic_unsafe_ref.specs.declared.place.Place.{Place}
use Rattle.ic_link_ops.specs.declared.side.Side.{Side}
use Rattle.ic_link_ops.specs.declared.side.Side.TheVariants.{Left, Right}
use Rattle.ic_link_ops.specs.Frames.{across}
use Rattle.ic_rbtree.specs.Prelude.{end_on, nearest}
use Rattle.ic_rbtree.proofs.head.RootTreeHead.end.Goals as goal

-- the outermost member of a sequence on side d is the end of the sequence on side d
same_end : (d : Side) (s : List Place) → nearest (across d) s ≡ end_on d s
same_end Left s = refl
same_end Right s = refl

pub returns : goal.returns
returns g c s h = c.end_on.ensures.end s (rw (c.get.ensures, c.self.view_is) h) ∙ same_end c.args.side s
