-- A branch is a tree whose parts are listed from one side: the subtree on this side, the root, and the other subtree.
use Rattle.std.proofs.Common.{◌≡◌, true, Option, Some, None, List, [], ◌∷◌, ◌++◌, refl, sym, ap, ◌∙◌, append_assoc}
use Rattle.ic_link_ops.specs.Prelude.{Place, Tree, leaf, fork, top, in_order, top_color}
use Rattle.ic_link_ops.specs.declared.color.Color.{Color}
use Rattle.ic_link_ops.specs.declared.side.Side.{Side}
use Rattle.ic_link_ops.specs.declared.side.Side.TheVariants.{Left, Right}
use Rattle.ic_link_ops.specs.RedBlackTree.{Node, IsAt, IsTree}
use Rattle.ic_link_ops.specs.Frames.{Frame, frame, branch, plug, IsAtSide, across, child_on}
use Rattle.ic_link_ops.proofs.Trees.{at_parent, at_color, at_loose}
use Rattle.ic_link_ops.proofs.SequenceLemmas.{none_not, some_same}

pub across_twice : (d : Side) → across (across d) ≡ d
across_twice Left = refl
across_twice Right = refl

pub branch_across : (d : Side) (c : Color) (a : Tree) (p : Place) (b : Tree) → branch (across d) c b p a ≡ branch d c a p b
branch_across Left c a p b = refl
branch_across Right c a p b = refl

pub top_branch : (d : Side) (c : Color) (a : Tree) (p : Place) (b : Tree) → top (branch d c a p b) ≡ Some p
top_branch Left c a p b = refl
top_branch Right c a p b = refl

-- a tree without a root is empty
pub top_leaf : (t : Tree) → top t ≡ None → t ≡ leaf
top_leaf leaf e = refl
top_leaf (fork c a p b) e = absurd (none_not p (sym e))

-- a tree with the root p is a branch of p, as seen from either side
pub as_branch : (d : Side) (t : Tree) (p : Place) → top t ≡ Some p → (a b : Tree) × (t ≡ branch d (top_color t) a p b)
as_branch d leaf p e = absurd (none_not p e)
as_branch Left (fork c a q b) p e = (a, b, ap (λ (x : Place). fork c a x b) (some_same e))
as_branch Right (fork c a q b) p e = (b, a, ap (λ (x : Place). fork c a x b) (some_same e))

-- if two subtrees have the same members in order, the whole trees around them have the same members in order. Therefore neither a color nor a rotation
-- changes the order of the members
pub order_plug : (fs : List Frame) (s t : Tree) → in_order s ≡ in_order t → in_order (plug fs s) ≡ in_order (plug fs t)
order_plug [] s t e = e
order_plug (frame Left c p b ∷ fs) s t e = order_plug fs (fork c s p b) (fork c t p b) (ap (λ x. x ++ p ∷ in_order b) e)
order_plug (frame Right c p b ∷ fs) s t e = order_plug fs (fork c b p s) (fork c b p t) (ap (λ x. in_order b ++ p ∷ x) e)

pub order_branch : (d : Side) (c k : Color) (a a' : Tree) (p : Place) (b b' : Tree) → in_order a ≡ in_order a' → in_order b ≡ in_order b'
    → in_order (branch d c a p b) ≡ in_order (branch d k a' p b')
order_branch Left c k a a' p b b' ea eb = ap (λ x. x ++ p ∷ in_order b) ea ∙ ap (λ x. in_order a' ++ p ∷ x) eb
order_branch Right c k a a' p b b' ea eb = ap (λ x. x ++ p ∷ in_order a) eb ∙ ap (λ x. in_order b' ++ p ∷ x) ea

pub order_rotated : (d : Side) (c k c' k' : Color) (a : Tree) (p : Place) (b : Tree) (y : Place) (e : Tree)
    → in_order (branch d c a p (branch d k b y e)) ≡ in_order (branch d k' (branch d c' a p b) y e)
order_rotated Left c k c' k' a p b y e = sym (append_assoc (in_order a) (p ∷ in_order b) (y ∷ in_order e))
order_rotated Right c k c' k' a p b y e = append_assoc (in_order e) (y ∷ in_order b) (p ∷ in_order a)

module _ {E : Type 0} (n : E → Node) where
  pub side_across : (entry : Place → E) (d : Side) (p : Place) (c : Color) (near far up : Option Place)
      → IsAtSide n entry d p c near far up → IsAtSide n entry (across d) p c far near up
  side_across entry Left p c near far up h = h
  side_across entry Right p c near far up h = h

  pub side_of_across : (entry : Place → E) (d : Side) (p : Place) (c : Color) (near far up : Option Place)
      → IsAtSide n entry (across d) p c far near up → IsAtSide n entry d p c near far up
  side_of_across entry Left p c near far up h = h
  side_of_across entry Right p c near far up h = h

  at_upper : (old new : Place → E) (p : Place) (c : Color) (a b up x : Option Place) (k : Color)
      → n (new p) ≡ record (n (old p)) { parent = x; color = k } → IsAt n old p c a b up → IsAt n new p k a b x
  at_upper old new p c a b up x k set h = record {
    linked = ap (λ (e : Node). e.linked) set ∙ h.linked;
    left = ap (λ (e : Node). e.left) set ∙ h.left;
    right = ap (λ (e : Node). e.right) set ∙ h.right;
    parent = ap (λ (e : Node). e.parent) set;
    color = ap (λ (e : Node). e.color) set;
  }

  pub side_parent : (old new : Place → E) (d : Side) (p : Place) (c : Color) (near far up x : Option Place)
      → n (new p) ≡ record (n (old p)) { parent = x } → IsAtSide n old d p c near far up → IsAtSide n new d p c near far x
  side_parent old new Left p c near far up x set h = at_parent x set h
  side_parent old new Right p c near far up x set h = at_parent x set h

  pub side_color : (old new : Place → E) (d : Side) (p : Place) (c : Color) (near far up : Option Place) (x : Color)
      → n (new p) ≡ record (n (old p)) { color = x } → IsAtSide n old d p c near far up → IsAtSide n new d p x near far up
  side_color old new Left p c near far up x set h = at_color x set h
  side_color old new Right p c near far up x set h = at_color x set h

  pub side_upper : (old new : Place → E) (d : Side) (p : Place) (c : Color) (near far up x : Option Place) (k : Color)
      → n (new p) ≡ record (n (old p)) { parent = x; color = k } → IsAtSide n old d p c near far up → IsAtSide n new d p k near far x
  side_upper old new Left p c near far up x k set h = at_upper old new p c near far up x k set h
  side_upper old new Right p c near far up x k set h = at_upper old new p c far near up x k set h

  -- a place whose entry is described by sides is linked
  pub side_linked : (entry : Place → E) (d : Side) (p : Place) (c : Color) (near far up : Option Place)
      → IsAtSide n entry d p c near far up → (n (entry p)).linked ≡ true
  side_linked entry Left p c near far up h = h.linked
  side_linked entry Right p c near far up h = h.linked

  pub side_near : (entry : Place → E) (d : Side) (p : Place) (c : Color) (near far up : Option Place)
      → IsAtSide n entry d p c near far up → child_on d (n (entry p)) ≡ near
  side_near entry Left p c near far up h = h.left
  side_near entry Right p c near far up h = h.right

  pub side_far : (entry : Place → E) (d : Side) (p : Place) (c : Color) (near far up : Option Place)
      → IsAtSide n entry d p c near far up → child_on (across d) (n (entry p)) ≡ far
  side_far entry Left p c near far up h = h.right
  side_far entry Right p c near far up h = h.left

  pub side_up : (entry : Place → E) (d : Side) (p : Place) (c : Color) (near far up : Option Place)
      → IsAtSide n entry d p c near far up → (n (entry p)).parent ≡ up
  side_up entry Left p c near far up h = h.parent
  side_up entry Right p c near far up h = h.parent

  pub side_tint : (entry : Place → E) (d : Side) (p : Place) (c : Color) (near far up : Option Place)
      → IsAtSide n entry d p c near far up → (n (entry p)).color ≡ c
  side_tint entry Left p c near far up h = h.color
  side_tint entry Right p c near far up h = h.color

  -- a linked place is a piece of the table with the color, the children and the parent of its own entry
  pub side_loose : (entry : Place → E) (p : Place) → (n (entry p)).linked ≡ true
      → IsAtSide n entry Left p (n (entry p)).color (n (entry p)).left (n (entry p)).right (n (entry p)).parent
  side_loose entry p h = at_loose n entry p h

  pub branch_open : (entry : Place → E) (up : Option Place) (d : Side) (c : Color) (a : Tree) (p : Place) (b : Tree)
      → IsTree n entry up (branch d c a p b) → IsAtSide n entry d p c (top a) (top b) up × IsTree n entry (Some p) a × IsTree n entry (Some p) b
  branch_open entry up Left c a p b h = h
  branch_open entry up Right c a p b h = (h.0, h.2, h.1)

  pub branch_close : (entry : Place → E) (up : Option Place) (d : Side) (c : Color) (a : Tree) (p : Place) (b : Tree)
      → IsAtSide n entry d p c (top a) (top b) up → IsTree n entry (Some p) a → IsTree n entry (Some p) b → IsTree n entry up (branch d c a p b)
  branch_close entry up Left c a p b at ha hb = (at, ha, hb)
  branch_close entry up Right c a p b at ha hb = (at, hb, ha)
