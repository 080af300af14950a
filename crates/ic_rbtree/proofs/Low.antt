-- The height of a tree of places is less than the number of turns that a repair may make.
use Rattle.std.proofs.Common.{◌+◌, ◌<◌, ◌≤◌, Option, List, ◌∷◌, length, arith}
use Rattle.ic_link_ops.specs.Prelude.{Place, Table, Tree, in_order, blacks, IsEven, IsRight, Node}
use Rattle.ic_link_ops.specs.Frames.{Frame, plug}
use Rattle.ic_link_ops.proofs.Prelude.{times_order, times_distinct, few_places}
use Rattle.ic_rbtree.specs.Prelude.{height, turns, Piece, below, Held, ClimbState}
use Rattle.ic_rbtree.proofs.Heights.{blacks_few, height_few, length_frames_height, exponent_small, exponent_smaller}
use Rattle.ic_rbtree.proofs.Zipper.{go_top}

module _ {E : Type 0} (n : E → Node) {base v : Table E} {root : Option Place} {fs : List Frame} {t : Tree} {ps : List Piece} (h : ClimbState n base v root fs t ps) (right : IsRight (plug fs t)) where
  pub represented_low : height (plug fs t) < turns
  represented_low =
      let s : List Place = in_order (plug fs t) in
      let all = go_top n h in
      let small : length s ≤ 8589934591 = few_places s (times_distinct s (λ q. omega (arith, all.once q, times_order q (plug fs t)))) in
      omega (arith, exponent_small (height (plug fs t)) (length s + 1) (omega (arith, small)) (height_few (plug fs t) right))

  pub frames_low : length fs < turns
  frames_low = omega (arith, represented_low, length_frames_height fs t)

-- the number of black members on a path down a tree in the table is less than `turns`
pub blacks_low : {E : Type 0} (n : E → Node) {base v : Table E} {up : Option Place} (t : Tree) {ps : List Piece} → Held n base v (below up t ∷ ps) → IsEven t → blacks t < turns
blacks_low n t h even =
    let s : List Place = in_order t in
    let small : length s ≤ 8589934591 = few_places s (times_distinct s (λ q. omega (arith, h.once q, times_order q t))) in
    omega (arith, exponent_smaller (blacks t) (length s + 1) (omega (arith, small)) (blacks_few t even))
