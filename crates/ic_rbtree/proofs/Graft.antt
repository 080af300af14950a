-- A place is inserted into a tree together with a second tree, which becomes a subtree of the place. The lemmas follow the order of the writes.
use Rattle.std.proofs.Common.{◌≡◌, ◌+◌, Bool, true, Option, Some, None, List, [], ◌∷◌, ◌++◌, refl, sym, ap, ◌∙◌, subst, arith}
use Rattle.ic_link_ops.specs.Prelude.{Place, Table, ChangesOnly, Tree, top, in_order, blacks, IsRight, Node}
use Rattle.ic_link_ops.specs.declared.color.Color.{Color}
use Rattle.ic_link_ops.specs.declared.color.Color.TheVariants.{Red, Black}
use Rattle.ic_link_ops.specs.declared.side.Side.{Side}
use Rattle.ic_link_ops.specs.declared.side.Side.TheVariants.{Left, Right}
use Rattle.ic_link_ops.specs.Frames.{Frame, frame, with_child, branch, plug, above, before, after, across, child_on}
use Rattle.ic_link_ops.proofs.SequenceLemmas.{none_not, some_same}
use Rattle.ic_link_ops.proofs.Trees.{top_parent}
use Rattle.ic_rbtree.specs.Prelude.{IsNode, IsNamed, IsSafe, RedAt, Piece, cell, loose, below, around, Held, ClimbState, Represented, IsOn, EvenAround, Adopts}
use Rattle.ic_rbtree.specs.Join.{Graft, IsGraft}
use Rattle.ic_rbtree.proofs.Branches.{top_branch, side_loose}
use Rattle.ic_rbtree.proofs.Closed.{read_in}
use Rattle.ic_rbtree.proofs.Pieces.{regroup, set_near, set_far, set_up, set_tint}
use Rattle.ic_rbtree.proofs.Removing.{order_around}
use Rattle.ic_rbtree.proofs.InsertionShapes.{top_color_branch, blacks_branch, even_branch, pairs_branch, red_not_black, through, blacks_plug}
use Rattle.ic_rbtree.proofs.RemovalShapes.{shape_open}
use Rattle.ic_rbtree.proofs.RepresentedClosed.{among, among_there, stands_closed}
use Rattle.ic_rbtree.proofs.Rotations.{below_linked, around_linked, close_below, changes_child_side}
use Rattle.ic_rbtree.proofs.Zipper.{go_top}

-- the color of a root does not change the order of the members
order_painted : (d : Side) (c : Color) (a : Tree) (p : Place) (b : Tree) → in_order (branch d Black a p b) ≡ in_order (branch d Red a p b)
order_painted Left c a p b = refl
order_painted Right c a p b = refl

module _ {E : Type 0} (n : E → Node) where
  module _ {v : Table E} {root parent : Option Place} {d : Side} {near : Option Place} {p : Place} {far : Option Place} {k : Graft E} (x : IsGraft n v root parent d near p far k) where
    pub place_node : IsNode n v p
    place_node = x.held.are.0

    pub place_named : IsNamed n v (Some p)
    place_named q e = subst (λ z. IsNode n v z) (some_same e) place_node

    pub near_named : IsNamed n v near
    near_named q e = below_linked n v.entry (above k.frames) k.near q x.held.are.1.1.0 (sym x.near_is ∙ e)

    pub far_named : IsNamed n v far
    far_named q e = below_linked n v.entry None k.far q x.held.are.1.1.1.0 (sym x.far_is ∙ e)

    pub parent_named : IsNamed n v parent
    parent_named q e = around_linked n v.entry k.frames (top k.near) q x.held.are.1.0.0 (sym x.parent_is ∙ e)

    pub graft_stands : ClimbState n k.base v root k.frames k.near (loose p ∷ below None k.far ∷ k.pieces)
    graft_stands =
        regroup n (around root k.frames (top k.near) ∷ below (above k.frames) k.near ∷ loose p ∷ below None k.far ∷ k.pieces) x.held (λ q. omega arith)
        (x.held.are.1.0, (x.held.are.1.1.0, (x.held.are.0, x.held.are.1.1.1)))

    -- if the inserted place is red, each path down has as many black members as before
    pub graft_blacks : blacks (plug k.frames (branch d Red k.far p k.near)) ≡ blacks (plug k.frames k.near)
    graft_blacks =
        let t : Tree = branch d Red k.far p k.near in
        let same : blacks k.near ≡ blacks t = omega (arith, blacks_branch d Red k.far p k.near (sym x.same), x.same) in
        let even : EvenAround k.frames (blacks k.near) = (shape_open k.frames k.near x.right).3 in
        blacks_plug k.frames t (subst (λ m. EvenAround k.frames m) same even) ∙ ap (through k.frames) (sym same) ∙ sym (blacks_plug k.frames k.near even)

    loose_cell : (d : Side) {ps : List Piece} {base : Table E} → Held n base v (loose p ∷ ps)
        → Held n base v (cell d p (n (v.entry p)).color (child_on d (n (v.entry p))) (child_on (across d) (n (v.entry p))) (n (v.entry p)).parent ∷ ps)
    loose_cell Left {ps} h = regroup n (cell Left p (n (v.entry p)).color (n (v.entry p)).left (n (v.entry p)).right (n (v.entry p)).parent ∷ ps) h (λ q. refl) (side_loose n v.entry p h.are.0, h.are.1)
    loose_cell Right {ps} h = regroup n (cell Right p (n (v.entry p)).color (n (v.entry p)).right (n (v.entry p)).left (n (v.entry p)).parent ∷ ps) h (λ q. refl) (side_loose n v.entry p h.are.0, h.are.1)

    module _ {v1 v2 v3 v4 v5 v6 : Table E} (other : Side) (c : Color) (other_is : other ≡ across d)
        (set1 : n (v1.entry p) ≡ with_child d (n (v.entry p)) far) (only1 : ChangesOnly v v1 p) (set2 : n (v2.entry p) ≡ with_child other (n (v1.entry p)) near) (only2 : ChangesOnly v1 v2 p)
        (set3 : n (v3.entry p) ≡ record (n (v2.entry p)) { parent = parent }) (only3 : ChangesOnly v2 v3 p) (f4 : Adopts n v3 v4 near (Some p)) (f5 : Adopts n v4 v5 far (Some p))
        (set6 : n (v6.entry p) ≡ record (n (v5.entry p)) { color = c }) (only6 : ChangesOnly v5 v6 p) where
      -- after the writes, the table has the subtree with the inserted place p as its root, and the surroundings that the subtree `near` had before
      graft_written : Held n k.base v6 (below (above k.frames) (branch d c k.far p k.near) ∷ around root k.frames (top k.near) ∷ k.pieces)
      graft_written =
          let up : Option Place = above k.frames in
          let e : Node = n (v.entry p) in
          let R : Piece = around root k.frames (top k.near) in
          let A : Piece = below up k.near in
          let B : Piece = below None k.far in
          let h0 = loose_cell d x.held in
          let h1 = set_near n d p e.color (child_on d e) (child_on (across d) e) e.parent (R ∷ A ∷ B ∷ k.pieces) h0 p d far (top k.far) refl refl x.far_is set1 only1 in
          let h2 = set_far n d p e.color (top k.far) (child_on (across d) e) e.parent (R ∷ A ∷ B ∷ k.pieces) h1 p other near (top k.near) refl other_is x.near_is set2 only2 in
          let h3 = set_up n d p e.color (top k.far) (top k.near) e.parent (R ∷ A ∷ B ∷ k.pieces) h2 p parent up refl x.parent_is set3 only3 in
          let P : Piece = cell d p e.color (top k.far) (top k.near) up in
          let g4 = regroup n (A ∷ P ∷ R ∷ B ∷ k.pieces) h3 (λ q. omega arith) (h3.are.1.1.0, (h3.are.0, (h3.are.1.0, h3.are.1.1.1))) in
          let h4 = f4 k.base up (Some p) k.near (P ∷ R ∷ B ∷ k.pieces) x.near_is refl g4 in
          let A4 : Piece = below (Some p) k.near in
          let g5 = regroup n (B ∷ P ∷ A4 ∷ R ∷ k.pieces) h4 (λ q. omega arith) (h4.are.1.1.1.0, (h4.are.1.0, (h4.are.0, (h4.are.1.1.0, h4.are.1.1.1.1)))) in
          let h5 = f5 k.base None (Some p) k.far (P ∷ A4 ∷ R ∷ k.pieces) x.far_is refl g5 in
          let B5 : Piece = below (Some p) k.far in
          let g6 = regroup n (P ∷ B5 ∷ A4 ∷ R ∷ k.pieces) h5 (λ q. omega arith) (h5.are.1.0, (h5.are.0, h5.are.1.1)) in
          let h6 = set_tint n d p e.color (top k.far) (top k.near) up (B5 ∷ A4 ∷ R ∷ k.pieces) g6 p c c refl refl set6 only6 in
          close_below n up (top k.far) (top k.near) d c k.far p k.near (R ∷ k.pieces) refl refl h6

      -- if there is no parent, the inserted place p is the black root, the tree is right, and each path down has one black member more
      pub graft_top : c ≡ Black → parent ≡ None
          → (h : Represented n k.base v6 (Some p) (in_order (plug k.frames (branch d Red k.far p k.near))) k.pieces) × (blacks h.tree ≡ blacks (plug k.frames k.near) + 1)
      graft_top black none = by k.frames (sym x.parent_is ∙ none) x.right (subst (λ z. Held n k.base v6 (below (above k.frames) (branch d z k.far p k.near) ∷ around root k.frames (top k.near) ∷ k.pieces)) black graft_written) where
        by : (fs : List Frame) → above fs ≡ None → IsRight (plug fs k.near) → Held n k.base v6 (below (above fs) (branch d Black k.far p k.near) ∷ around root fs (top k.near) ∷ k.pieces)
            → (h : Represented n k.base v6 (Some p) (in_order (plug fs (branch d Red k.far p k.near))) k.pieces) × (blacks h.tree ≡ blacks (plug fs k.near) + 1)
        by (frame i y q b ∷ fs) e r h = absurd (none_not q (sym e))
        by [] e r h = (
          record {
            tree = branch d Black k.far p k.near;
            stands = regroup n (around (Some p) [] (top (branch d Black k.far p k.near)) ∷ below None (branch d Black k.far p k.near) ∷ k.pieces) h (λ q. omega arith)
                ((tt, sym (top_branch d Black k.far p k.near)), (h.are.0, h.are.1.1));
            order = order_painted d Black k.far p k.near;
            shape = record {
              black_root = top_color_branch d Black k.far p k.near;
              no_red_pair = pairs_branch d Black k.far p k.near red_not_black red_not_black x.far_right.no_red_pair r.no_red_pair;
              even = even_branch d Black k.far p k.near (sym x.same) x.far_right.even r.even;
            };
          },
          omega (arith, blacks_branch d Black k.far p k.near (sym x.same), x.same),
        )

      -- below a parent q, the inserted place p is red, and the repair starts at p
      pub graft_red : {v7 : Table E} (q : Place) → c ≡ Red → parent ≡ Some q → n (v7.entry q) ≡ with_child d (n (v6.entry q)) (Some p) → ChangesOnly v6 v7 q
          → RedAt n v7 root p (record { base = k.base; sequence = in_order (plug k.frames (branch d Red k.far p k.near)); frames = k.frames; subtree = branch d Red k.far p k.near; pieces = k.pieces })
      graft_red {v7} q red is set7 only7 = by k.frames (sym x.parent_is ∙ is) x.side_is x.right (subst (λ z. Held n k.base v6 (below (above k.frames) (branch d z k.far p k.near) ∷ around root k.frames (top k.near) ∷ k.pieces)) red graft_written) where
        t : Tree
        t = branch d Red k.far p k.near

        by : (fs : List Frame) → above fs ≡ Some q → IsOn d fs → IsRight (plug fs k.near) → Held n k.base v6 (below (above fs) t ∷ around root fs (top k.near) ∷ k.pieces)
            → RedAt n v7 root p (record { base = k.base; sequence = in_order (plug fs t); frames = fs; subtree = t; pieces = k.pieces })
        by [] e on r h = absurd (none_not q e)
        by (frame i y z b ∷ fs) e on r h =
            let gs : List Frame = frame i y z b ∷ fs in
            let o = shape_open gs k.near r in
            let g0 = regroup n (around root gs (top k.near) ∷ below (Some z) t ∷ k.pieces) h (λ q. omega arith) (h.are.1.0, (h.are.0, h.are.1.1)) in
            let set' : n (v7.entry q) ≡ with_child i (n (v6.entry q)) (Some p) = subst (λ j. n (v7.entry q) ≡ with_child j (n (v6.entry q)) (Some p)) on set7 in
            let h7 = changes_child_side n root q (top k.near) (Some p) (Some p) i y z b fs (below (Some z) t ∷ k.pieces) (sym (some_same e)) refl set' only7 g0 in
            let all : blacks t ≡ 0 + blacks k.far = blacks_branch d Red k.far p k.near (sym x.same) in
            let same : blacks k.near ≡ blacks t = omega (arith, all, x.same) in
            record {
              stands = subst (λ (r : Option Place). Held n k.base v7 (around root gs r ∷ below (Some z) t ∷ k.pieces)) (sym (top_branch d Red k.far p k.near)) h7;
              top_is = top_branch d Red k.far p k.near;
              nearly = record {
                painted = top_color_branch d Red k.far p k.near;
                pairs = pairs_branch d Red k.far p k.near (λ r. x.far_right.black_root) (λ r. x.black) x.far_right.no_red_pair o.0;
                even = even_branch d Red k.far p k.near (sym x.same) x.far_right.even o.1;
                pairs_around = o.2;
                even_around = subst (λ m. EvenAround gs m) same o.3;
              };
              order = refl;
            }

  -- A RED MEMBER p and its parent are in a closed set, a set out of which no link leads
  pub red_safe : {v : Table E} {root parent : Option Place} {base : Table E} {s : List Place} {ps : List Piece} (fs : List Frame) (d : Side) (a : Tree) (p : Place) (b : Tree)
      → RedAt n v root p (record { base = base; sequence = s; frames = fs; subtree = branch d Red a p b; pieces = ps }) → parent ≡ above fs → IsSafe n v root (Some p ∷ parent ∷ [])
  red_safe {v} {root} {parent} {base} {s} {ps} fs d a p b h is =
      let order = by d in
      let S : Place → Bool = λ q. among q (order.0 ++ p ∷ order.1) in
      let whole = stands_closed n (plug fs (branch d Red a p b)) order.2 (go_top n h.stands) in
      let here : S p ≡ true = among_there p order.0 order.1 in
      let up : (n (v.entry p)).parent ≡ above fs = top_parent n v.entry (above fs) (branch d Red a p b) p h.stands.are.1.0 h.top_is in
      (S, whole, (here, (read_in S (whole.parent p here (λ e. none_not p e)) (is ∙ sym up), tt)))
    where
      by : (d : Side) → (front : List Place) × (back : List Place) × (in_order (plug fs (branch d Red a p b)) ≡ front ++ p ∷ back)
      by Left = (before fs ++ in_order a, in_order b ++ after fs, order_around fs Red a p b (before fs ++ in_order a) (in_order b ++ after fs) refl refl)
      by Right = (before fs ++ in_order b, in_order a ++ after fs, order_around fs Red b p a (before fs ++ in_order b) (in_order a ++ after fs) refl refl)
