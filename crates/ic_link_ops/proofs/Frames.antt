-- This file proves that a tree can be taken apart at one of its members. The member is given by its position in the tree's
-- sequence.
use Rattle.std.proofs.Common.{◌≡◌, ◌≢◌, Option, Some, List, [], ◌∷◌, ◌++◌, refl, sym, ap, ◌∙◌, arith, append_assoc, append-nil}
use Rattle.ic_unsafe_ref.specs.declared.place.Place.{Place}
use Rattle.ic_link_ops.specs.declared.color.Color.{Color}
use Rattle.ic_link_ops.specs.declared.side.Side.{Side}
use Rattle.ic_link_ops.specs.declared.side.Side.TheVariants.{Left, Right}
use Rattle.ic_link_ops.specs.Trees.{Tree, leaf, fork, top, in_order}
use Rattle.ic_link_ops.specs.RedBlackTree.{Node, IsTree}
use Rattle.ic_link_ops.specs.Frames.{Frame, frame, with_child, plug, above, before, after, IsAtSide, IsAround}
use Rattle.ic_link_ops.specs.Times.{times, times_around}
use Rattle.ic_link_ops.proofs.Times.{one_at_self, times_absent, times_order}
use Rattle.ic_link_ops.proofs.Trees.{at_same, at_left, at_right, tree_kept}

-- One sequence is cut at its member q and at its member p. Then p comes before q, or p is q, or p comes after q.
data SameCut (a : List Place) (q : Place) (b s : List Place) (p : Place) (t : List Place) : Type 0 where
  in_front : (m : List Place) → a ≡ s ++ p ∷ m → t ≡ m ++ q ∷ b → SameCut a q b s p t
  here : a ≡ s → q ≡ p → b ≡ t → SameCut a q b s p t
  following : (m : List Place) → s ≡ a ++ q ∷ m → b ≡ m ++ p ∷ t → SameCut a q b s p t

same_cut : (a : List Place) (q : Place) (b s : List Place) (p : Place) (t : List Place) → a ++ q ∷ b ≡ s ++ p ∷ t → SameCut a q b s p t
same_cut [] q b [] p t e = here refl (cc) (cc)
same_cut [] q b (x ∷ s) p t e =
    let h : q ≡ x = cc in let r : b ≡ s ++ p ∷ t = cc in following s (ap (λ (y : Place). y ∷ s) (sym h)) r
same_cut (x ∷ a) q b [] p t e =
    let h : x ≡ p = cc in let r : a ++ q ∷ b ≡ t = cc in in_front a (ap (λ (y : Place). y ∷ a) h) (sym r)
same_cut (x ∷ a) q b (z ∷ s) p t e =
    let h : x ≡ z = cc in
    let r : a ++ q ∷ b ≡ s ++ p ∷ t = cc in
    next x z a q b s p t h (same_cut a q b s p t r)
  where
    next : (x z : Place) (a : List Place) (q : Place) (b s : List Place) (p : Place) (t : List Place) → x ≡ z → SameCut a q b s p t → SameCut (x ∷ a) q b (z ∷ s) p t
    next x z a q b s p t h (in_front m e f) = in_front m (cc) f
    next x z a q b s p t h (here e f g) = here (cc) f g
    next x z a q b s p t h (following m e f) = following m (cc) f

-- The tree t0 below the frames fs0 can be taken apart at its member p: there are frames fs, a color c and subtrees a and b of p.
-- Within t0, the members s are before p and the members t are after p.
abbrev pub Focused : List Frame → Tree → List Place → Place → List Place → Type 0
Focused fs0 t0 s p t =
    (fs : List Frame) × (c : Color) × (a b : Tree) × (plug fs (fork c a p b) ≡ plug fs0 t0)
    × (before fs ++ in_order a ≡ before fs0 ++ s) × (in_order b ++ after fs ≡ t ++ after fs0)

-- If the sequence of the tree t0 consists of s, p and t, the tree can be taken apart at p.
pub focus : (t0 : Tree) (fs0 : List Frame) (s : List Place) (p : Place) (t : List Place) → in_order t0 ≡ s ++ p ∷ t → Focused fs0 t0 s p t
focus leaf fs0 [] p t e = cc
focus leaf fs0 (x ∷ s) p t e = cc
focus (fork c a q b) fs0 s p t e = elim (same_cut (in_order a) q (in_order b) s p t e) [
  | in_front m f g ↦
      let r = focus a (frame Left c q b ∷ fs0) s p m f in
      (r.0, r.1, r.2, r.3, r.4, r.5, r.6 ∙ (sym (append_assoc m (q ∷ in_order b) (after fs0)) ∙ ap (λ z. z ++ after fs0) (sym g)))
  | here f h g ↦
      (fs0, c, a, b, ap (λ (x : Place). plug fs0 (fork c a x b)) (sym h), ap (λ z. before fs0 ++ z) f, ap (λ z. z ++ after fs0) g)
  | following m f g ↦
      let r = focus b (frame Right c q a ∷ fs0) m p t g in
      (r.0, r.1, r.2, r.3, r.4, r.5 ∙ (simp append_assoc (ap (λ z. before fs0 ++ z) (sym f))), r.6)
]

-- The sequence of a whole tree consists of the members before a subtree, the members of the subtree, and the members after the
-- subtree.
pub in_order_parts : (fs : List Frame) (t : Tree) → in_order (plug fs t) ≡ before fs ++ (in_order t ++ after fs)
in_order_parts [] t = sym (append-nil (in_order t))
in_order_parts (frame Left c p b ∷ fs) t =
    in_order_parts fs (fork c t p b) ∙ ap (λ z. before fs ++ z) (append_assoc (in_order t) (p ∷ in_order b) (after fs))
in_order_parts (frame Right c p b ∷ fs) t = in_order_parts fs (fork c b p t) ∙ simp append_assoc

module _ {E : Type 0} (n : E → Node) where
  -- If no entry of a place that occurs in a tree changes, the entries still store the tree. A place occurs in the tree if `times`
  -- is not 0 for it.
  pub tree_same : (old new : Place → E) (up : Option Place) (t : Tree)
      → ((q : Place) → (times q t ≡ 0 → ⊥) → new q ≡ old q) → IsTree n old up t → IsTree n new up t
  tree_same old new up t same h = tree_kept n old new up t (λ q m. same q (λ k. m (times_absent q (in_order t) (times_order q t ∙ k)))) h

  pub side_same : (old new : Place → E) (d : Side) (p : Place) (c : Color) (near far up : Option Place) → new p ≡ old p
      → IsAtSide n old d p c near far up → IsAtSide n new d p c near far up
  side_same old new Left p c near far up e h = at_same (ap n e) h
  side_same old new Right p c near far up e h = at_same (ap n e) h

  -- The entries still store the frames around a subtree if no entry of a place that occurs in the frames changes.
  pub around_same : (old new : Place → E) (fs : List Frame) (o : Option Place)
      → ((q : Place) → (times_around q fs ≡ 0 → ⊥) → new q ≡ old q) → IsAround n old fs o → IsAround n new fs o
  around_same old new [] o same h = tt
  around_same old new (frame d c p b ∷ fs) o same h = (
    side_same old new d p c o (top b) (above fs) (same p (λ k. absurd (omega (arith, one_at_self p)))) h.0,
    tree_same old new (Some p) b (λ q m. same q (λ k. m (omega arith))) h.1,
    around_same old new fs (Some p) (λ q m. same q (λ k. m (omega arith))) h.2,
  )

  -- If only the entry of the place p changes, and p does not occur in a tree, the entries still store the tree (`tree_apart`).
  -- The same is true of frames (`around_apart`).
  pub tree_apart : (old new : Place → E) (p : Place) (up : Option Place) (t : Tree)
      → times p t ≡ 0 → ((q : Place) → q ≢ p → new q ≡ old q) → IsTree n old up t → IsTree n new up t
  tree_apart old new p up t none same h = tree_same old new up t (λ q m. same q (λ e. m (rw e none))) h

  pub around_apart : (old new : Place → E) (p : Place) (fs : List Frame) (o : Option Place)
      → times_around p fs ≡ 0 → ((q : Place) → q ≢ p → new q ≡ old q) → IsAround n old fs o → IsAround n new fs o
  around_apart old new p fs o none same h = around_same old new fs o (λ q m. same q (λ e. m (rw e none))) h

  -- If the child of the place p on the side d is set to x, p has the child x there and keeps its other parts.
  pub side_set : (old new : Place → E) (d : Side) (p : Place) (c : Color) (near far up x : Option Place) → n (new p) ≡ with_child d (n (old p)) x
      → IsAtSide n old d p c near far up → IsAtSide n new d p c x far up
  side_set old new Left p c near far up x set h = at_left x set h
  side_set old new Right p c near far up x set h = at_right x set h
