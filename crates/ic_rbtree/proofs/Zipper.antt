-- The subtree in focus changes by one step up or down a tree, or across to a sibling. Two more lemmas are about a member that gets another color.
use Rattle.std.proofs.Common.{◌≡◌, Option, Some, List, [], ◌∷◌, refl, sym, subst, arith}
use Rattle.ic_link_ops.specs.Prelude.{Place, Table, ChangesOnly, Tree, top, Node}
use Rattle.ic_link_ops.specs.declared.color.Color.{Color}
use Rattle.ic_link_ops.specs.declared.side.Side.{Side}
use Rattle.ic_link_ops.specs.Frames.{Frame, frame, branch, plug, above, across}
use Rattle.ic_rbtree.specs.Pieces.{Piece, cell, below, around, ClimbState}
use Rattle.ic_rbtree.proofs.Branches.{branch_across}
use Rattle.ic_rbtree.proofs.Pieces.{regroup, set_tint}
use Rattle.ic_rbtree.proofs.Rotations.{open_at, close_at}

module _ {E : Type 0} (n : E → Node) where
  -- ONE STEP UP: the lowest frame and the subtree below it become one subtree
  pub go_up : {base v : Table E} {root : Option Place} {d : Side} {c : Color} {p : Place} {b : Tree} {fs : List Frame} {t : Tree} {ps : List Piece}
      → ClimbState n base v root (frame d c p b ∷ fs) t ps → ClimbState n base v root fs (branch d c t p b) ps
  go_up {base} {v} {root} {d} {c} {p} {b} {fs} {t} {ps} h =
      let h1 = regroup n (cell d p c (top t) (top b) (above fs) ∷ below (Some p) t ∷ below (Some p) b ∷ around root fs (Some p) ∷ ps) h
      (λ q. omega arith) (h.are.0.0.0, (h.are.1.0, (h.are.0.0.1, ((h.are.0.0.2, h.are.0.1), h.are.1.1)))) in
      close_at n root (top t) (top b) fs d c t p b ps refl refl h1

  pub go_down : {base v : Table E} {root : Option Place} {fs : List Frame} {ps : List Piece} (d : Side) (c : Color) (p : Place) (b t : Tree)
      → ClimbState n base v root fs (branch d c t p b) ps → ClimbState n base v root (frame d c p b ∷ fs) t ps
  go_down {base} {v} {root} {fs} {ps} d c p b t h =
      let h1 = open_at n root fs d c t p b ps h in
      regroup n (around root (frame d c p b ∷ fs) (top t) ∷ below (Some p) t ∷ ps) h1
      (λ q. omega arith) (((h1.are.0, h1.are.1.1.0, h1.are.1.1.1.0.0), h1.are.1.1.1.0.1), (h1.are.1.0, h1.are.1.1.1.1))

  -- ONE STEP TO THE SIBLING: the sibling becomes the subtree in focus, and the old subtree becomes part of the lowest frame
  pub go_across : {base v : Table E} {root : Option Place} {d : Side} {c : Color} {p : Place} {b : Tree} {fs : List Frame} {t : Tree} {ps : List Piece}
      → ClimbState n base v root (frame d c p b ∷ fs) t ps → ClimbState n base v root (frame (across d) c p t ∷ fs) b ps
  go_across {base} {v} {root} {d} {c} {p} {b} {fs} {t} {ps} h =
      go_down (across d) c p t b (subst (λ (x : Tree). ClimbState n base v root fs x ps) (sym (branch_across d c t p b)) (go_up h))

  -- ALL STEPS UP: all frames and the subtree become the whole tree
  pub go_top : {base v : Table E} {root : Option Place} {fs : List Frame} {t : Tree} {ps : List Piece} → ClimbState n base v root fs t ps → ClimbState n base v root [] (plug fs t) ps
  go_top {base} {v} {root} {fs} {t} {ps} h = climb fs t h where
    climb : (fs : List Frame) (t : Tree) → ClimbState n base v root fs t ps → ClimbState n base v root [] (plug fs t) ps
    climb [] t h = h
    climb (frame d c p b ∷ fs) t h = climb fs (branch d c t p b) (go_up h)

  -- THE ROOT OF A SUBTREE gets another color, and nothing else in the table changes
  pub painted_top : {base v w : Table E} {root : Option Place} {fs : List Frame} {ps : List Piece} {x y : Color} {q : Place} (d : Side) (c : Color) (a : Tree) (p : Place) (b : Tree)
      → q ≡ p → y ≡ x → n (w.entry q) ≡ record (n (v.entry q)) { color = y } → ChangesOnly v w q
      → ClimbState n base v root fs (branch d c a p b) ps → ClimbState n base w root fs (branch d x a p b) ps
  painted_top {base} {v} {w} {root} {fs} {ps} {x} {y} {q} d c a p b eq ey set only h =
      close_at n root (top a) (top b) fs d x a p b ps refl refl
      (set_tint n d p c (top a) (top b) (above fs) (below (Some p) a ∷ below (Some p) b ∷ around root fs (Some p) ∷ ps) (open_at n root fs d c a p b ps h) q y x eq ey set only)

  -- the member right above the subtree gets another color, and nothing else in the table changes
  pub painted_above : {base v w : Table E} {root : Option Place} {d : Side} {c x y : Color} {p q : Place} {b : Tree} {fs : List Frame} {t : Tree} {ps : List Piece}
      → q ≡ p → y ≡ x → n (w.entry q) ≡ record (n (v.entry q)) { color = y } → ChangesOnly v w q
      → ClimbState n base v root (frame d c p b ∷ fs) t ps → ClimbState n base w root (frame d x p b ∷ fs) t ps
  painted_above {d = d} {c} {x} {y} {p} {q} {b} {fs} {t} eq ey set only h = go_down d x p b t (painted_top d c t p b eq ey set only (go_up h))
