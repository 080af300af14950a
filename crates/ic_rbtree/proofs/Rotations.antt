-- A branch is divided into pieces and put together again. The lemmas state what `adopt`, `change_child` and `rotate` do to the pieces.
use Rattle.std.proofs.Common.{◌≡◌, ◌≤◌, Option, Some, None, List, [], ◌∷◌, true, false, Bool, refl, sym, ap, ◌∙◌, subst, arith, eq-eqb, eqb-true}
use Rattle.ic_link_ops.specs.Prelude.{Place, index_of, Table, ChangesOnly, is_end, Tree, leaf, fork, top, Node, IsTree, one_at, times, times_around}
use Rattle.ic_link_ops.proofs.Prelude.{same_index, none_not, some_same}
use Rattle.ic_link_ops.specs.declared.color.Color.{Color}
use Rattle.ic_link_ops.specs.declared.side.Side.{Side}
use Rattle.ic_link_ops.specs.declared.side.Side.TheVariants.{Left, Right}
use Rattle.ic_link_ops.specs.Frames.{Frame, frame, with_child, branch, above, IsAround, across, child_on, topmost}
use Rattle.ic_link_ops.proofs.Times.{one_at_self, times_branch}
use Rattle.ic_rbtree.specs.Pieces.{Piece, cell, below, around, Held, ClimbState}
use Rattle.ic_rbtree.specs.Steps.{Turn, Adopts, ChangesChild, Rotates, IsSideOf}
use Rattle.ic_rbtree.proofs.Branches.{top_branch, branch_open, branch_close, side_near, side_far, side_up, side_linked}
use Rattle.ic_rbtree.proofs.Pieces.{regroup, set_near, set_far, set_up, set_parent_and_color}

-- the record `Turn`, which describes a rotation, made of its fields
abbrev pub turn : Color → Tree → Color → Tree → Place → Tree → Turn
turn c a k b y e = record { color = c; near = a; upper_color = k; inner = b; upper = y; outer = e }

pub times_top : (p : Place) (t : Tree) → top t ≡ Some p → 1 ≤ times p t
times_top p leaf e = absurd (none_not p e)
times_top p (fork c a q b) e = let h : one_at p q ≡ 1 = rw (some_same e) (one_at_self p) in omega arith

-- if the comparison of an optional place with p is true, the optional place is p
pub end_is : (o : Option Place) (p : Place) (b : Bool) → b ≡ is_end o p → b ≡ true → o ≡ Some p
end_is None p b e t = let k : false ≡ true = sym e ∙ t in cc
end_is (Some q) p b e t = ap Some (same_index q p (eqb-true (index_of q) (index_of p) (sym e ∙ t)))

pub end_not : (o : Option Place) (p : Place) (b : Bool) → b ≡ is_end o p → b ≡ false → o ≡ Some p → ⊥
end_not None p b e f k = none_not p k
end_not (Some q) p b e f k =
    let o : is_end (Some q) p ≡ true = eq-eqb (index_of q) (index_of p) (ap index_of (some_same k)) in
    let l : true ≡ false = sym o ∙ (sym e ∙ f) in cc

module _ {E : Type 0} (n : E → Node) where
  pub below_linked : (entry : Place → E) (up : Option Place) (t : Tree) (q : Place) → IsTree n entry up t → top t ≡ Some q → (n (entry q)).linked ≡ true
  below_linked entry up leaf q h e = absurd (none_not q e)
  below_linked entry up (fork c a p b) q h e = subst (λ (z : Place). (n (entry z)).linked ≡ true) (some_same e) h.0.linked

  pub around_linked : (entry : Place → E) (fs : List Frame) (o : Option Place) (q : Place) → IsAround n entry fs o → above fs ≡ Some q → (n (entry q)).linked ≡ true
  around_linked entry [] o q h e = absurd (none_not q e)
  around_linked entry (frame d c p b ∷ fs) o q h e =
      subst (λ (z : Place). (n (entry z)).linked ≡ true) (some_same e) (side_linked n entry d p c o (top b) (above fs) h.0)

  module _ {base v : Table E} where
    pub open_below : (up : Option Place) (d : Side) (c : Color) (a : Tree) (p : Place) (b : Tree) (ps : List Piece)
        → Held n base v (below up (branch d c a p b) ∷ ps)
        → Held n base v (cell d p c (top a) (top b) up ∷ below (Some p) a ∷ below (Some p) b ∷ ps)
    open_below up d c a p b ps h =
        let o = branch_open n v.entry up d c a p b h.are.0 in
        regroup n (cell d p c (top a) (top b) up ∷ below (Some p) a ∷ below (Some p) b ∷ ps) h
        (λ q. omega (arith, times_branch q d c a p b)) (o.0, (o.1, (o.2, h.are.1)))

    pub close_below : (up near far : Option Place) (d : Side) (c : Color) (a : Tree) (p : Place) (b : Tree) (ps : List Piece)
        → near ≡ top a → far ≡ top b → Held n base v (cell d p c near far up ∷ below (Some p) a ∷ below (Some p) b ∷ ps)
        → Held n base v (below up (branch d c a p b) ∷ ps)
    close_below up near far d c a p b ps ea eb h' =
        let h : Held n base v (cell d p c (top a) (top b) up ∷ below (Some p) a ∷ below (Some p) b ∷ ps) =
        subst (λ (x : Option Place). Held n base v (cell d p c (top a) x up ∷ below (Some p) a ∷ below (Some p) b ∷ ps)) eb
        (subst (λ (x : Option Place). Held n base v (cell d p c x far up ∷ below (Some p) a ∷ below (Some p) b ∷ ps)) ea h') in
        regroup n (below up (branch d c a p b) ∷ ps) h
        (λ q. omega (arith, times_branch q d c a p b)) (branch_close n v.entry up d c a p b h.are.0 h.are.1.0 h.are.1.1.0, h.are.1.1.1)

    -- a tree below frames is opened at its root p: the table consists of the entry of p, its two subtrees, the surroundings and the other pieces
    pub open_at : (root : Option Place) (fs : List Frame) (d : Side) (c : Color) (a : Tree) (p : Place) (b : Tree) (ps : List Piece)
        → ClimbState n base v root fs (branch d c a p b) ps
        → Held n base v (cell d p c (top a) (top b) (above fs) ∷ below (Some p) a ∷ below (Some p) b ∷ around root fs (Some p) ∷ ps)
    open_at root fs d c a p b ps h =
        let ring = subst (λ (x : Option Place). IsAround n v.entry fs x × (root ≡ topmost fs x)) (top_branch d c a p b) h.are.0 in
        open_below (above fs) d c a p b (around root fs (Some p) ∷ ps)
        (regroup n (below (above fs) (branch d c a p b) ∷ around root fs (Some p) ∷ ps) h (λ q. omega arith) (h.are.1.0, (ring, h.are.1.1)))

    pub close_at : (root near far : Option Place) (fs : List Frame) (d : Side) (c : Color) (a : Tree) (p : Place) (b : Tree) (ps : List Piece)
        → near ≡ top a → far ≡ top b → Held n base v (cell d p c near far (above fs) ∷ below (Some p) a ∷ below (Some p) b ∷ around root fs (Some p) ∷ ps)
        → ClimbState n base v root fs (branch d c a p b) ps
    close_at root near far fs d c a p b ps ea eb h' =
        let h = close_below (above fs) near far d c a p b (around root fs (Some p) ∷ ps) ea eb h' in
        let ring = subst (λ (x : Option Place). IsAround n v.entry fs x × (root ≡ topmost fs x)) (sym (top_branch d c a p b)) h.are.1.0 in
        regroup n (around root fs (top (branch d c a p b)) ∷ below (above fs) (branch d c a p b) ∷ ps) h (λ q. omega arith) (ring, (h.are.0, h.are.1.1))

  -- if `parent` is written as the parent of the root q of a tree, the tree is below `parent`
  pub adopts_some : (v w : Table E) (q : Place) (child parent : Option Place) → child ≡ Some q
      → n (w.entry q) ≡ record (n (v.entry q)) { parent = parent } → ChangesOnly v w q → Adopts n v w child parent
  adopts_some v w q child parent is set only base up x leaf ps e ex h = absurd (none_not q (sym e ∙ is))
  adopts_some v w q child parent is set only base up x (fork c a p b) ps e ex h =
      close_below x (top a) (top b) Left c a p b ps refl refl
      (set_up n Left p c (top a) (top b) up (below (Some p) a ∷ below (Some p) b ∷ ps) (open_below up Left c a p b ps h) q parent x (some_same (sym is ∙ e)) ex set only)

  -- if `to` is written as the child of the lowest frame's member on side d, the subtree below the frames has the root `to`
  pub changes_child_side : {base v w : Table E} (root : Option Place) (parent : Place) (was to x : Option Place) (d : Side) (c : Color) (p : Place) (b : Tree) (fs : List Frame) (ps : List Piece)
      → parent ≡ p → to ≡ x → n (w.entry parent) ≡ with_child d (n (v.entry parent)) to → ChangesOnly v w parent
      → Held n base v (around root (frame d c p b ∷ fs) was ∷ ps) → Held n base w (around root (frame d c p b ∷ fs) x ∷ ps)
  changes_child_side {base} {v} {w} root parent was to x d c p b fs ps e ex set only h =
      let rest : List Piece = below (Some p) b ∷ around root fs (Some p) ∷ ps in
      let h1 = regroup n (cell d p c was (top b) (above fs) ∷ rest) h (λ q. omega arith) (h.are.0.0.0, (h.are.0.0.1, ((h.are.0.0.2, h.are.0.1), h.are.1))) in
      let h2 = set_near n d p c was (top b) (above fs) rest h1 parent d to x e refl ex set only in
      regroup n (around root (frame d c p b ∷ fs) x ∷ ps) h2 (λ q. omega arith) (((h2.are.0, h2.are.1.0, h2.are.1.1.0.0), h2.are.1.1.0.1), h2.are.1.1.1)

  pub changes_child_some : (v w : Table E) (root parent to : Option Place) (q was : Place) (k : Side) → parent ≡ Some q → IsSideOf n v was q k
      → n (w.entry q) ≡ with_child k (n (v.entry q)) to → ChangesOnly v w q → ChangesChild n v w root root parent was to
  changes_child_some v w root parent to q was k is l set only base [] x ps e ex out h = absurd (none_not q (sym e ∙ is))
  changes_child_some v w root parent to q was Left is l set only base (frame Left c p b ∷ fs) x ps e ex out h =
      changes_child_side root q (Some was) to x Left c p b fs ps (some_same (sym is ∙ e)) ex set only h
  changes_child_some v w root parent to q was Right is l set only base (frame Right c p b ∷ fs) x ps e ex out h =
      changes_child_side root q (Some was) to x Right c p b fs ps (some_same (sym is ∙ e)) ex set only h
  changes_child_some v w root parent to q was Left is l set only base (frame Right c p b ∷ fs) x ps e ex out h =
      let t : top b ≡ Some was = sym (side_far n v.entry Right p c (Some was) (top b) (above fs) h.are.0.0.0) ∙ rw (some_same (sym is ∙ e)) at l in
      absurd (omega (arith, times_top was b t))
  changes_child_some v w root parent to q was Right is l set only base (frame Left c p b ∷ fs) x ps e ex out h =
      absurd (l (ap (λ (z : Place). (n (v.entry z)).left) (some_same (sym is ∙ e)) ∙ side_near n v.entry Left p c (Some was) (top b) (above fs) h.are.0.0.0))

  -- A ROTATION is made by six writes, which rotate p down and z above p, as `Rotates` states
  pub rotates : (v v1 v2 v3 v4 v5 v6 : Table E) (root new_root inner parent : Option Place) (z p : Place) (d far : Side) (low high : Color) → far ≡ across d
      → inner ≡ child_on d (n (v.entry z)) → parent ≡ (n (v.entry p)).parent
      → n (v1.entry p) ≡ with_child far (n (v.entry p)) inner → ChangesOnly v v1 p → Adopts n v1 v2 inner (Some p)
      → n (v3.entry z) ≡ record (n (v2.entry z)) { parent = parent; color = high } → ChangesOnly v2 v3 z → ChangesChild n v3 v4 root new_root parent p (Some z)
      → n (v5.entry z) ≡ with_child d (n (v4.entry z)) (Some p) → ChangesOnly v4 v5 z
      → n (v6.entry p) ≡ record (n (v5.entry p)) { parent = Some z; color = low } → ChangesOnly v5 v6 p
      → Rotates n v v6 root new_root p z d low high
  rotates v v1 v2 v3 v4 v5 v6 root new_root inner parent z p d far low high ef ri rp set1 only1 f2 set3 only3 f4 set5 only5 set6 only6 base fs t ps same s =
      let record { color = c; near = a; upper_color = k; inner = b; upper = y; outer = e } = t in
      let zy : z ≡ y = sym same in
      let h0' = open_at root fs d c a p (branch d k b y e) ps s in
      let A : Piece = below (Some p) a in
      let R : Piece = around root fs (Some p) in
      let h0'' = regroup n (below (Some p) (branch d k b y e) ∷ cell d p c (top a) (top (branch d k b y e)) (above fs) ∷ A ∷ R ∷ ps) h0' (λ q. omega arith)
      (h0'.are.1.1.0, (h0'.are.0, (h0'.are.1.0, h0'.are.1.1.1))) in
      let h0 = open_below (Some p) d k b y e (cell d p c (top a) (top (branch d k b y e)) (above fs) ∷ A ∷ R ∷ ps) h0'' in
      let Y0 : Piece = cell d y k (top b) (top e) (Some p) in
      let B : Piece = below (Some y) b in
      let W : Piece = below (Some y) e in
      let at_p = h0.are.1.1.1.0 in
      let at_y = h0.are.0 in
      let ib : inner ≡ top b = ri ∙ ap (λ (x : Place). child_on d (n (v.entry x))) zy ∙ side_near n v.entry d y k (top b) (top e) (Some p) at_y in
      let pu : parent ≡ above fs = rp ∙ side_up n v.entry d p c (top a) (top (branch d k b y e)) (above fs) at_p in
      let g1 = regroup n (cell d p c (top a) (top (branch d k b y e)) (above fs) ∷ Y0 ∷ B ∷ W ∷ A ∷ R ∷ ps) h0 (λ q. omega arith)
      (h0.are.1.1.1.0, (h0.are.0, (h0.are.1.0, (h0.are.1.1.0, h0.are.1.1.1.1)))) in
      let h1 = set_far n d p c (top a) (top (branch d k b y e)) (above fs) (Y0 ∷ B ∷ W ∷ A ∷ R ∷ ps) g1 p far inner (top b) refl ef ib set1 only1 in
      let P1 : Piece = cell d p c (top a) (top b) (above fs) in
      let g2 = regroup n (B ∷ P1 ∷ Y0 ∷ W ∷ A ∷ R ∷ ps) h1 (λ q. omega arith) (h1.are.1.1.0, (h1.are.0, (h1.are.1.0, h1.are.1.1.1))) in
      let h2 = f2 base (Some y) (Some p) b (P1 ∷ Y0 ∷ W ∷ A ∷ R ∷ ps) ib refl g2 in
      let B2 : Piece = below (Some p) b in
      let g3 = regroup n (Y0 ∷ P1 ∷ B2 ∷ W ∷ A ∷ R ∷ ps) h2 (λ q. omega arith) (h2.are.1.1.0, (h2.are.1.0, (h2.are.0, h2.are.1.1.1))) in
      let h3 = set_parent_and_color n d y k (top b) (top e) (Some p) (P1 ∷ B2 ∷ W ∷ A ∷ R ∷ ps) g3 z parent (above fs) high zy pu set3 only3 in
      let Y3 : Piece = cell d y high (top b) (top e) (above fs) in
      let g4 = regroup n (R ∷ Y3 ∷ P1 ∷ B2 ∷ W ∷ A ∷ ps) h3 (λ q. omega arith)
      (h3.are.1.1.1.1.1.0, (h3.are.0, (h3.are.1.0, (h3.are.1.1.0, (h3.are.1.1.1.0, (h3.are.1.1.1.1.0, h3.are.1.1.1.1.1.1)))))) in
      let out : times_around p fs ≡ 0 = omega (arith, g4.once p, one_at_self p) in
      let h4 = f4 base fs (Some y) (Y3 ∷ P1 ∷ B2 ∷ W ∷ A ∷ ps) pu (ap Some zy) out g4 in
      let Ring : Piece = around new_root fs (Some y) in
      let g5 = regroup n (Y3 ∷ Ring ∷ P1 ∷ B2 ∷ W ∷ A ∷ ps) h4 (λ q. omega arith) (h4.are.1.0, (h4.are.0, h4.are.1.1)) in
      let h5 = set_near n d y high (top b) (top e) (above fs) (Ring ∷ P1 ∷ B2 ∷ W ∷ A ∷ ps) g5 z d (Some p) (Some p) zy refl refl set5 only5 in
      let Y5 : Piece = cell d y high (Some p) (top e) (above fs) in
      let g6 = regroup n (P1 ∷ Y5 ∷ Ring ∷ B2 ∷ W ∷ A ∷ ps) h5 (λ q. omega arith) (h5.are.1.1.0, (h5.are.0, (h5.are.1.0, h5.are.1.1.1))) in
      let h6 = set_parent_and_color n d p c (top a) (top b) (above fs) (Y5 ∷ Ring ∷ B2 ∷ W ∷ A ∷ ps) g6 p (Some z) (Some y) low refl (ap Some zy) set6 only6 in
      let P6 : Piece = cell d p low (top a) (top b) (Some y) in
      let g7 = regroup n (P6 ∷ A ∷ B2 ∷ Y5 ∷ W ∷ Ring ∷ ps) h6 (λ q. omega arith)
      (h6.are.0, (h6.are.1.1.1.1.1.0, (h6.are.1.1.1.0, (h6.are.1.0, (h6.are.1.1.1.1.0, (h6.are.1.1.0, h6.are.1.1.1.1.1.1)))))) in
      let down = close_below (Some y) (top a) (top b) d low a p b (Y5 ∷ W ∷ Ring ∷ ps) refl refl g7 in
      let g8 = regroup n (Y5 ∷ below (Some y) (branch d low a p b) ∷ W ∷ Ring ∷ ps) down (λ q. omega arith) (down.are.1.0, (down.are.0, down.are.1.1)) in
      close_at new_root (Some p) (top e) fs d high (branch d low a p b) y e ps (sym (top_branch d low a p b)) refl g8
