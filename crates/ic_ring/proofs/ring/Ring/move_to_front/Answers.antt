use Rattle.std.proofs.Common.{List, ◌∷◌, refl, subst, rules}
use Rattle.ic_link_ops.specs.Prelude.{Place, IsAbsent}
use Rattle.ic_ring.specs.Rings.{Represents, RepresentsBeside}
use Rattle.ic_ring.proofs.ring.Ring.move_to_front.Goals as goal

pub move_after-requires : goal.move_after-requires
move_after-requires g c = record { ring = rw c.head.ensures c.requires.shown; member = c.requires.member; other = rw c.head.ensures c.requires.other }

pub returns : goal.returns
returns g c = record {
  moved = rw c.head.ensures at c.move_after.ensures.at_head;
  left =
      let n = g.L.LinkedListOps.neighbors in
      let old = g.L.LinkOps.table c.args.links.now in
      let new = g.L.LinkOps.table c.move_after.new.links in
      subst (λ at. (head : Place) (s : List Place) → RepresentsBeside n old c.args.object.now head s → IsAbsent at (head ∷ s) → Represents n new head s) c.head.ensures
      c.move_after.ensures.left;
  trace_stays = search rules;
  others = rw c.head.ensures at c.move_after.ensures.others;
  frame = λ s r shown ring. c.move_after.ensures.frame (c.args.self.now ∷ s) r (rw c.head.ensures (shown, λ out. out.0 refl)) ring;
}
