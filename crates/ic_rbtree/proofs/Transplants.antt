-- A member with at most one child is taken out of a tree, and a place takes the position of a member.
use Rattle.std.proofs.Common.{◌≡◌, ℕ, ◌+◌, inl, inr, true, Option, Some, None, List, [], ◌∷◌, ◌++◌, refl, sym, ap, ◌∙◌, subst, arith, append-nil}
use Rattle.ic_link_ops.specs.Prelude.{Place, Table, ChangesOnly, Tree, leaf, fork, top, in_order, top_color, weight, blacks, IsEven, NoRedPair, IsRight, Node, IsTree, times, times_around}
use Rattle.ic_link_ops.specs.declared.color.Color.{Color}
use Rattle.ic_link_ops.specs.declared.color.Color.TheVariants.{Red, Black}
use Rattle.ic_link_ops.specs.declared.side.Side.{Side}
use Rattle.ic_link_ops.specs.declared.side.Side.TheVariants.{Left}
use Rattle.ic_link_ops.specs.Frames.{Frame, frame, plug, above, before, after}
use Rattle.ic_link_ops.proofs.Prelude.{none_not, some_same, one_at_self}
use Rattle.ic_link_ops.proofs.Frames.{in_order_parts}
use Rattle.ic_rbtree.specs.Prelude.{Piece, loose, below, around, Held, ClimbState, EvenAround, PairsAround, IsOn, Short}
use Rattle.ic_rbtree.specs.Focus.{Focus, IsInFocus, IsRestored}
use Rattle.ic_rbtree.specs.Steps.{Adopts, ChangesChild}
use Rattle.ic_rbtree.specs.Transplants.{or_else, Parts, member, only, IsLone, IsGap, Gap, IsSideBelow, TakesPlace}
use Rattle.ic_rbtree.proofs.Branches.{order_plug}
use Rattle.ic_rbtree.proofs.Pieces.{regroup, set_parent_and_color, node_set}
use Rattle.ic_rbtree.proofs.Rotations.{open_below, open_at, close_at, below_linked, around_linked}
use Rattle.ic_rbtree.proofs.Zipper.{go_top}
use Rattle.ic_rbtree.proofs.InsertionShapes.{right_plug, red_not_black}
use Rattle.ic_rbtree.proofs.RemovalShapes.{shape_open}
use Rattle.ic_rbtree.proofs.ParentClimbs.{side_found}

pub top_only : (a b : Tree) → or_else (top a) (top b) ≡ top (only a b)
top_only leaf b = refl
top_only (fork c a p b) r = refl

pub order_only : (a b : Tree) → IsLone a b → in_order (only a b) ≡ in_order a ++ in_order b
order_only leaf b h = refl
order_only (fork c a p b) r (inl e) = cc
order_only (fork c a p b) r (inr e) = sym (append-nil (in_order (fork c a p b))) ∙ ap (λ (x : Tree). in_order (fork c a p b) ++ in_order x) (sym e)

pub not_red_black : (c : Color) → (c ≡ Red → ⊥) → c ≡ Black
not_red_black Red h = absurd (h refl)
not_red_black Black h = refl

-- if a member with at most one child is taken out of a tree of the right shape, only this member is missing between the frames and its subtree
pub gap_open : (c : Color) (fs : List Frame) (a : Tree) (p : Place) (b : Tree) → IsLone a b → IsRight (plug fs (fork c a p b)) → IsGap c fs (only a b)
gap_open c fs a p b h r = let o = shape_open fs (fork c a p b) r in open_gap a b h o.0 o.1 o.2 o.3 where
  open_gap : (a b : Tree) → IsLone a b → NoRedPair (fork c a p b) → IsEven (fork c a p b) → PairsAround fs → EvenAround fs (weight c + blacks a) → IsGap c fs (only a b)
  open_gap leaf b h pairs even pa ea = record {
    pairs = pairs.2;
    even = even.2;
    pairs_around = pa;
    even_around = subst (λ (k : ℕ). EvenAround fs (weight c + k)) even.0 ea;
    red = λ e. (pairs.0 e).1;
    none = sym even.0;
  }
  open_gap (fork k l q m) b (inl e) pairs even pa ea = cc
  open_gap (fork k l q m) b (inr e) pairs even pa ea = record {
    pairs = pairs.1;
    even = even.1;
    pairs_around = pa;
    even_around = ea;
    red = λ i. (pairs.0 i).0;
    none = even.0 ∙ ap blacks e;
  }

module _ {E : Type 0} (n : E → Node) where
  side_on : (v : Table E) (base : Table E) (root : Option Place) (fs : List Frame) (t : Tree) (ps : List Piece) (q : Place) (parent : Option Place) (d : Side)
      → ClimbState n base v root fs t ps → top t ≡ Some q → parent ≡ above fs → IsSideBelow n v q parent d → IsOn d fs
  side_on v base root [] t ps q parent d h e up is = tt
  side_on v base root (frame k c p b ∷ fs) t ps q parent d h e up is = side_found n v base root k c p b fs t ps q d h e (is p up)

  -- the child of the missing member gets its new parent. The lemmas state the resulting tree for each case
  module _ {v : Table E} {root child parent : Option Place} {d : Side} {c : Color} {k : Focus E} (h : Gap n v root c child parent d k) where
    -- if the missing member has no child, no parent has to be set, and the empty subtree counts as black
    bare : child ≡ None → IsInFocus n v root k × (top_color k.subtree ≡ Black)
    bare none = at k.subtree h.stands (sym h.child_is ∙ none) where
      at : (t : Tree) → Held n k.base v (around root k.frames (top t) ∷ below h.named t ∷ k.pieces) → top t ≡ None
          → IsInFocus n v root (record k { subtree = t }) × (top_color t ≡ Black)
      at leaf s e = (regroup n (around root k.frames None ∷ below (above k.frames) leaf ∷ k.pieces) s (λ q. omega arith) (s.are.0, (tt, s.are.1.1)), refl)
      at (fork i a p b) s e = absurd (none_not p (sym e))

    pub close_red : c ≡ Red → child ≡ None → IsRestored n v root k
    close_red e none = record {
      tree = plug k.frames k.subtree;
      stands = go_top n (bare none).0;
      order = h.order;
      shape = right_plug k.frames k.subtree h.gap.pairs h.gap.even h.gap.pairs_around (let level : weight c + blacks k.subtree ≡ blacks k.subtree = omega (arith, ap weight e) in subst (λ (m : ℕ). EvenAround k.frames m) level h.gap.even_around) (λ i. h.gap.red e);
    }

    pub close_short : c ≡ Black → child ≡ None → Short n v root parent d k
    close_short e none = record {
      stands = (bare none).0;
      parent_is = h.parent_is;
      side_is = h.side_is;
      short = record {
        black = (bare none).1;
        pairs = h.gap.pairs;
        even = h.gap.even;
        pairs_around = h.gap.pairs_around;
        even_around = subst (λ (i : Color). EvenAround k.frames (weight i + blacks k.subtree)) e h.gap.even_around;
      };
      order = h.order;
    }

    -- if the missing member has a child, the child is red and the member was black. The child turns black, and the tree is right
    pub close_lone : {w : Table E} (q : Place) → child ≡ Some q → n (w.entry q) ≡ record (n (v.entry q)) { parent = parent; color = Black } → ChangesOnly v w q → IsRestored n w root k
    close_lone {w} q is set only = at k.subtree h where
      at : (t : Tree) → Gap n v root c child parent d (record k { subtree = t }) → IsRestored n w root k
      at leaf h = absurd (none_not q (sym h.child_is ∙ is))
      at (fork i a p b) h =
          let all : Tree = fork Black a p b in
          let rest : List Piece = around root k.frames (Some p) ∷ k.pieces in
          let h0 = regroup n (below h.named (fork i a p b) ∷ rest) h.stands (λ q. omega arith) (h.stands.are.1.0, (h.stands.are.0, h.stands.are.1.1)) in
          let h1 = set_parent_and_color n Left p i (top a) (top b) h.named (below (Some p) a ∷ below (Some p) b ∷ rest) (open_below n h.named Left i a p b rest h0)
          q parent (above k.frames) Black (some_same (sym is ∙ h.child_is)) h.parent_is set only in
          let none : weight i + blacks a ≡ 0 = h.gap.none in
          let black : c ≡ Black = not_red_black c (λ r. let one : weight i ≡ 1 = ap weight (h.gap.red r) in omega (arith, one, none)) in
          let level : weight c + blacks (fork i a p b) ≡ blacks all = omega (arith, ap weight black, none) in
          record {
            tree = plug k.frames all;
            stands = go_top n (close_at n root (top a) (top b) k.frames Left Black a p b k.pieces refl refl h1);
            order = order_plug k.frames all (fork i a p b) refl ∙ h.order;
            shape = right_plug k.frames all (red_not_black, h.gap.pairs.1, h.gap.pairs.2) h.gap.even h.gap.pairs_around (subst (λ (m : ℕ). EvenAround k.frames m) level h.gap.even_around) (λ r. refl);
          }

  -- the tree without the member, in which its only subtree is in focus
  abbrev pub without : Table E → List Frame → Parts → List Piece → Focus E
  without base fs x ps = record { base = base; sequence = before fs ++ (in_order (only x.left x.right) ++ after fs); frames = fs; subtree = only x.left x.right; pieces = ps }

  -- THE WRITE THAT TAKES OUT THE MEMBER p: the child of p becomes the child of the parent of p
  pub taken_out : {base v v1 : Table E} (root new_root child parent : Option Place) (k : Color) (d : Side) (fs : List Frame) (y : Parts) (p : Place) (ps : List Piece)
      → child ≡ or_else (n (v.entry p)).left (n (v.entry p)).right → parent ≡ (n (v.entry p)).parent → k ≡ (n (v.entry p)).color → IsSideBelow n v p parent d
      → ChangesChild n v v1 root new_root parent p child
      → ClimbState n base v root fs (member p y) ps → IsLone y.left y.right → IsRight (plug fs (member p y)) → Gap n v1 new_root k child parent d (without base fs y (loose p ∷ ps))
  taken_out {base} {v} {v1} root new_root child parent k d fs y p ps ec ep ek side f1 s lone right =
      let record { color = c; left = a; right = b } = y in
      let h0 = open_at n root fs Left c a p b ps s in
      let at = h0.are.0 in
      let child_is : child ≡ top (only a b) = ec ∙ (ap (λ (x : Option Place). or_else x (n (v.entry p)).right) at.left ∙ (ap (λ (x : Option Place). or_else (top a) x) at.right ∙ top_only a b)) in
      let up : parent ≡ above fs = ep ∙ at.parent in
      let x : Tree = only a b in
      let parts = lone_tree a b lone (λ (t : Tree). IsTree n v.entry (Some p) t) h0.are.1.0 h0.are.1.1.0 in
      let h1 = regroup n (around root fs (Some p) ∷ below (Some p) x ∷ loose p ∷ ps) h0 (λ q. omega (arith, lone_times q a b lone))
      (h0.are.1.1.1.0, (parts, (at.linked, h0.are.1.1.1.1))) in
      let out : times_around p fs ≡ 0 = omega (arith, h1.once p, one_at_self p) in
      record {
        named = Some p;
        stands = f1 base fs (top x) (below (Some p) x ∷ loose p ∷ ps) up child_is out h1;
        child_is = child_is;
        parent_is = up;
        side_is = side_on v base root fs (fork c a p b) ps p parent d s refl up side;
        gap = subst (λ (i : Color). IsGap i fs x) (sym (ek ∙ at.color)) (gap_open c fs a p b lone right);
        order = in_order_parts fs x;
      }
    where
      lone_tree : (a b : Tree) → IsLone a b → (P : Tree → Type 0) → P a → P b → P (only a b)
      lone_tree leaf b h P pa pb = pb
      lone_tree (fork c a p b) r h P pa pb = pa

      lone_times : (q : Place) (a b : Tree) → IsLone a b → times q (only a b) ≡ times q a + times q b
      lone_times q leaf b h = omega arith
      lone_times q (fork c a p b) r (inl e) = cc
      lone_times q (fork c a p b) r (inr e) = omega (arith, ap (λ (t : Tree). times q t) e)

  -- the member p, its children and its parent are linked, so that a removal can read their entries
  pub record Reads (v : Table E) (p : Place) : Type 0 where
    pub here : (n (v.entry p)).linked ≡ true
    pub left : (q : Place) → (n (v.entry p)).left ≡ Some q → (n (v.entry q)).linked ≡ true
    pub right : (q : Place) → (n (v.entry p)).right ≡ Some q → (n (v.entry q)).linked ≡ true
    pub parent : (q : Place) → (n (v.entry p)).parent ≡ Some q → (n (v.entry q)).linked ≡ true

  pub reads : {base v : Table E} (root : Option Place) (fs : List Frame) (x : Parts) (p : Place) (ps : List Piece) → ClimbState n base v root fs (member p x) ps → Reads v p
  reads {base} {v} root fs x p ps h =
      let at = h.are.1.0.0 in
      record {
        here = at.linked;
        left = λ q e. below_linked n v.entry (Some p) x.left q h.are.1.0.1 (sym at.left ∙ e);
        right = λ q e. below_linked n v.entry (Some p) x.right q h.are.1.0.2 (sym at.right ∙ e);
        parent = λ q e. around_linked n v.entry fs (Some p) q h.are.0.0 (sym at.parent ∙ e);
      }

  -- THE WRITES by which the place `new` takes the position of p: the parent of p gets the child `new`, the children of p get the parent `new`, and `new` gets
  -- the links and the color of p
  pub taken_place : (v v1 v2 v3 w : Table E) (root new_root left right parent : Option Place) (color : Color) (p new : Place)
      → parent ≡ (n (v.entry p)).parent → left ≡ (n (v.entry p)).left → right ≡ (n (v.entry p)).right → color ≡ (n (v.entry p)).color
      → ChangesChild n v v1 root new_root parent p (Some new) → Adopts n v1 v2 left (Some new) → Adopts n v2 v3 right (Some new)
      → n (w.entry new) ≡ record (n (v3.entry new)) { left = left; right = right; parent = parent; color = color } → ChangesOnly v3 w new
      → TakesPlace n v w root new_root p new
  taken_place v v1 v2 v3 w root new_root left right parent color p new up el er ec f1 f2 f3 set only base fs x ps s =
      let record { color = c; left = a; right = b } = x in
      let h0 = open_at n root fs Left c a p b (loose new ∷ ps) s in
      let at = h0.are.0 in
      let eu : parent ≡ above fs = up ∙ at.parent in
      let ea : left ≡ top a = el ∙ at.left in
      let eb : right ≡ top b = er ∙ at.right in
      let et : color ≡ c = ec ∙ at.color in
      let h1' = regroup n (around root fs (Some p) ∷ below (Some p) a ∷ below (Some p) b ∷ loose p ∷ loose new ∷ ps) h0 (λ q. omega arith)
      (h0.are.1.1.1.0, (h0.are.1.0, (h0.are.1.1.0, (at.linked, h0.are.1.1.1.1)))) in
      let out : times_around p fs ≡ 0 = omega (arith, h1'.once p, one_at_self p) in
      let h1 = f1 base fs (Some new) (below (Some p) a ∷ below (Some p) b ∷ loose p ∷ loose new ∷ ps) eu refl out h1' in
      let R : Piece = around new_root fs (Some new) in
      let h2' = regroup n (below (Some p) a ∷ R ∷ below (Some p) b ∷ loose p ∷ loose new ∷ ps) h1 (λ q. omega arith) (h1.are.1.0, (h1.are.0, h1.are.1.1)) in
      let h2 = f2 base (Some p) (Some new) a (R ∷ below (Some p) b ∷ loose p ∷ loose new ∷ ps) ea refl h2' in
      let A : Piece = below (Some new) a in
      let h3' = regroup n (below (Some p) b ∷ A ∷ R ∷ loose p ∷ loose new ∷ ps) h2 (λ q. omega arith) (h2.are.1.1.0, (h2.are.0, (h2.are.1.0, h2.are.1.1.1))) in
      let h3 = f3 base (Some p) (Some new) b (A ∷ R ∷ loose p ∷ loose new ∷ ps) eb refl h3' in
      let B : Piece = below (Some new) b in
      let h4 = regroup n (loose new ∷ A ∷ B ∷ R ∷ loose p ∷ ps) h3 (λ q. omega arith) (h3.are.1.1.1.1.0, (h3.are.1.0, (h3.are.0, (h3.are.1.1.0, (h3.are.1.1.1.0, h3.are.1.1.1.1.1))))) in
      let set' : n (w.entry new) ≡ record (n (v3.entry new)) { left = left; right = right; parent = above fs; color = c } =
      set ∙ λ i. record (n (v3.entry new)) { left = left; right = right; parent = eu i; color = et i } in
      close_at n new_root left right fs Left c a new b (loose p ∷ ps) ea eb (node_set n set' only h4)
