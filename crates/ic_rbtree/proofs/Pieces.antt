-- A table that consists of pieces is divided into other pieces, or one of its entries is written.
use Rattle.std.proofs.Common.{◌≡◌, ◌≢◌, true, Option, List, [], ◌∷◌, refl, sym, ap, ◌∙◌, subst, arith, inl, inr}
use Rattle.ic_link_ops.specs.Prelude.{Place, Table, ChangesOnly, Node, one_at}
use Rattle.ic_link_ops.proofs.Prelude.{same_or_not, one_at_self, apart}
use Rattle.ic_link_ops.specs.declared.color.Color.{Color}
use Rattle.ic_link_ops.specs.declared.side.Side.{Side}
use Rattle.ic_link_ops.specs.declared.side.Side.TheVariants.{Left}
use Rattle.ic_link_ops.specs.Frames.{with_child, IsAtSide, across}
use Rattle.ic_link_ops.proofs.Frames.{side_same, side_set, tree_apart, around_apart}
use Rattle.ic_rbtree.specs.Pieces.{Piece, cell, loose, below, around, times_piece, times_all, IsPiece, ArePieces, Held}
use Rattle.ic_rbtree.proofs.Branches.{side_across, side_of_across, side_parent, side_color, side_upper, side_linked}

module _ {E : Type 0} (n : E → Node) where
  -- a piece x stays as it is if only the entry at a place p is changed, and p is not in x
  piece_apart : (old new : Place → E) (p : Place) (x : Piece) → times_piece p x ≡ 0 → ((q : Place) → q ≢ p → new q ≡ old q)
      → IsPiece n old x → IsPiece n new x
  piece_apart old new p (cell d q c near far up) none same h =
      side_same n old new d q c near far up (same q (λ e. apart p q none (sym e))) h
  piece_apart old new p (loose q) none same h = ap (λ (x : E). (n x).linked) (same q (λ e. apart p q none (sym e))) ∙ h
  piece_apart old new p (below up t) none same h = tree_apart n old new p up t none same h
  piece_apart old new p (around root fs o) none same h = (around_apart n old new p fs o none same h.0, h.1)

  pieces_apart : (old new : Place → E) (p : Place) (ps : List Piece) → times_all p ps ≡ 0 → ((q : Place) → q ≢ p → new q ≡ old q)
      → ArePieces n old ps → ArePieces n new ps
  pieces_apart old new p [] none same h = tt
  pieces_apart old new p (x ∷ ps) none same h =
      (piece_apart old new p x (omega arith) same h.0, pieces_apart old new p ps (omega arith) same h.1)

  module _ {base v : Table E} where
    -- a table that consists of the pieces ps also consists of the pieces ps', if each place occurs in ps' as often as in ps, and the entries are as ps'
    -- describes them
    pub regroup : {ps : List Piece} (ps' : List Piece) → Held n base v ps → ((q : Place) → times_all q ps' ≡ times_all q ps)
        → ArePieces n v.entry ps' → Held n base v ps'
    regroup {ps} ps' h count are = record {
      are = are;
      once = λ q. omega (arith, h.once q, count q);
      beside = λ q none. h.beside q (sym (count q) ∙ none);
      linked = h.linked;
      extent = h.extent;
    }

    module _ {w : Table E} where
      -- ONE PLACE p IS WRITTEN and stays linked: the piece x, which is p alone, becomes the piece y
      pub written : (p : Place) (x y : Piece) (ps : List Piece) → ((q : Place) → times_piece q x ≡ one_at q p) → ((q : Place) → times_piece q y ≡ one_at q p)
          → Held n base v (x ∷ ps) → ChangesOnly v w p → (n (v.entry p)).linked ≡ true → (n (w.entry p)).linked ≡ true → IsPiece n w.entry y → Held n base w (y ∷ ps)
      written p x y ps ex ey h only was is at =
          let none : times_all p ps ≡ 0 = omega (arith, h.once p, ex p, one_at_self p) in
          record {
            are = (at, pieces_apart v.entry w.entry p ps none only.others h.are.1);
            once = λ q. omega (arith, h.once q, ex q, ey q);
            beside = λ q out. only.others q (other q (omega (arith, ey q, out))) ∙ h.beside q (omega (arith, ex q, ey q, out));
            linked = λ q. same_linked q;
            extent = only.extent ∙ h.extent;
          }
        where
          other : (q : Place) → one_at q p ≡ 0 → q ≢ p
          other q e = apart q p e

          same_linked : (q : Place) → (n (w.entry q)).linked ≡ (n (base.entry q)).linked
          same_linked q = elim (same_or_not q p) [
            | inl e ↦ subst (λ (z : Place). (n (w.entry z)).linked ≡ (n (base.entry z)).linked) (sym e) (is ∙ (sym was ∙ h.linked p))
            | inr k ↦ ap (λ (x : E). (n x).linked) (only.others q k) ∙ h.linked q
          ]

      -- A PLACE THAT IS A PIECE OF ITS OWN gets two children, a parent and a color, and is then the root of two subtrees
      pub node_set : {p : Place} {a b up : Option Place} {c : Color} {ps : List Piece} → n (w.entry p) ≡ record (n (v.entry p)) { left = a; right = b; parent = up; color = c }
          → ChangesOnly v w p → Held n base v (loose p ∷ ps) → Held n base w (cell Left p c a b up ∷ ps)
      node_set {p} {a} {b} {up} {c} {ps} set only h =
          let is : (n (w.entry p)).linked ≡ true = ap (λ (x : Node). x.linked) set ∙ h.are.0 in
          written p (loose p) (cell Left p c a b up) ps (λ q. refl) (λ q. refl) h only h.are.0 is (record {
            linked = is;
            left = ap (λ (x : Node). x.left) set;
            right = ap (λ (x : Node). x.right) set;
            parent = ap (λ (x : Node). x.parent) set;
            color = ap (λ (x : Node). x.color) set;
          })

      module _ (d : Side) (p : Place) (c : Color) (near far up : Option Place) (ps : List Piece) (h : Held n base v (cell d p c near far up ∷ ps)) where
        cell_written : (c' : Color) (near' far' up' : Option Place) → ChangesOnly v w p → IsAtSide n w.entry d p c' near' far' up'
            → Held n base w (cell d p c' near' far' up' ∷ ps)
        cell_written c' near' far' up' only at =
            written p (cell d p c near far up) (cell d p c' near' far' up') ps (λ q. refl) (λ q. refl) h only
            (side_linked n v.entry d p c near far up h.are.0) (side_linked n w.entry d p c' near' far' up' at) at

        -- ONE PART OF THE ENTRY of p is written, where p alone is a piece. Equations state which arguments the writing function has
        pub set_near : (q : Place) (k : Side) (y x : Option Place) → q ≡ p → k ≡ d → y ≡ x
            → n (w.entry q) ≡ with_child k (n (v.entry q)) y → ChangesOnly v w q → Held n base w (cell d p c x far up ∷ ps)
        set_near q k y x eq ek ey set only =
            let set' : n (w.entry p) ≡ with_child d (n (v.entry p)) x =
            subst (λ (z : Option Place). n (w.entry p) ≡ with_child d (n (v.entry p)) z) ey
            (subst (λ (z : Side). n (w.entry p) ≡ with_child z (n (v.entry p)) y) ek
            (subst (λ (z : Place). n (w.entry z) ≡ with_child k (n (v.entry z)) y) eq set)) in
            cell_written c x far up (subst (λ (z : Place). ChangesOnly v w z) eq only) (side_set n v.entry w.entry d p c near far up x set' h.are.0)

        pub set_far : (q : Place) (k : Side) (y x : Option Place) → q ≡ p → k ≡ across d → y ≡ x
            → n (w.entry q) ≡ with_child k (n (v.entry q)) y → ChangesOnly v w q → Held n base w (cell d p c near x up ∷ ps)
        set_far q k y x eq ek ey set only =
            let set' : n (w.entry p) ≡ with_child (across d) (n (v.entry p)) x =
            subst (λ (z : Option Place). n (w.entry p) ≡ with_child (across d) (n (v.entry p)) z) ey
            (subst (λ (z : Side). n (w.entry p) ≡ with_child z (n (v.entry p)) y) ek
            (subst (λ (z : Place). n (w.entry z) ≡ with_child k (n (v.entry z)) y) eq set)) in
            cell_written c near x up (subst (λ (z : Place). ChangesOnly v w z) eq only)
            (side_of_across n w.entry d p c near x up
            (side_set n v.entry w.entry (across d) p c far near up x set' (side_across n v.entry d p c near far up h.are.0)))

        pub set_up : (q : Place) (y x : Option Place) → q ≡ p → y ≡ x
            → n (w.entry q) ≡ record (n (v.entry q)) { parent = y } → ChangesOnly v w q → Held n base w (cell d p c near far x ∷ ps)
        set_up q y x eq ey set only =
            let set' : n (w.entry p) ≡ record (n (v.entry p)) { parent = x } =
            subst (λ (z : Option Place). n (w.entry p) ≡ record (n (v.entry p)) { parent = z }) ey
            (subst (λ (z : Place). n (w.entry z) ≡ record (n (v.entry z)) { parent = y }) eq set) in
            cell_written c near far x (subst (λ (z : Place). ChangesOnly v w z) eq only) (side_parent n v.entry w.entry d p c near far up x set' h.are.0)

        pub set_parent_and_color : (q : Place) (y x : Option Place) (k : Color) → q ≡ p → y ≡ x
            → n (w.entry q) ≡ record (n (v.entry q)) { parent = y; color = k } → ChangesOnly v w q → Held n base w (cell d p k near far x ∷ ps)
        set_parent_and_color q y x k eq ey set only =
            let set' : n (w.entry p) ≡ record (n (v.entry p)) { parent = x; color = k } =
            subst (λ (z : Option Place). n (w.entry p) ≡ record (n (v.entry p)) { parent = z; color = k }) ey
            (subst (λ (z : Place). n (w.entry z) ≡ record (n (v.entry z)) { parent = y; color = k }) eq set) in
            cell_written k near far x (subst (λ (z : Place). ChangesOnly v w z) eq only) (side_upper n v.entry w.entry d p c near far up x k set' h.are.0)

        pub set_tint : (q : Place) (y x : Color) → q ≡ p → y ≡ x
            → n (w.entry q) ≡ record (n (v.entry q)) { color = y } → ChangesOnly v w q → Held n base w (cell d p x near far up ∷ ps)
        set_tint q y x eq ey set only =
            let set' : n (w.entry p) ≡ record (n (v.entry p)) { color = x } =
            subst (λ (z : Color). n (w.entry p) ≡ record (n (v.entry p)) { color = z }) ey
            (subst (λ (z : Place). n (w.entry z) ≡ record (n (v.entry z)) { color = y }) eq set) in
            cell_written x near far up (subst (λ (z : Place). ChangesOnly v w z) eq only) (side_color n v.entry w.entry d p c near far up x set' h.are.0)
