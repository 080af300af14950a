-- Lemmas about a descent along one side of a tree, which counts the black members.
use Rattle.std.proofs.Common.{◌≡◌, ℕ, suc, ◌+◌, ◌-◌, ◌≤◌, true, Option, Some, None, List, ◌∷◌, length, refl, sym, ap, ◌∙◌, subst, arith}
use Rattle.std.proofs.Math.Nat.{le-max_left}
use Rattle.ic_link_ops.specs.Prelude.{Place, Table, Tree, leaf, fork, top, top_color, weight, blacks, IsEven, IsRight, Node, IsTree}
use Rattle.ic_link_ops.specs.declared.color.Color.{Color}
use Rattle.ic_link_ops.specs.declared.color.Color.TheVariants.{Red, Black}
use Rattle.ic_link_ops.specs.declared.side.Side.{Side}
use Rattle.ic_link_ops.specs.Frames.{Frame, frame, branch, plug, above, child_on}
use Rattle.ic_link_ops.proofs.SequenceLemmas.{none_not, some_same}
use Rattle.ic_rbtree.specs.Prelude.{height, IsSpine, Piece}
use Rattle.ic_rbtree.proofs.Outermost.{opened}
use Rattle.ic_rbtree.proofs.Nearest.{beyond_same}
use Rattle.ic_rbtree.proofs.InsertionShapes.{blacks_branch, of_even, top_color_branch}
use Rattle.ic_rbtree.proofs.RemovalShapes.{shape_open}

pub none_is_leaf : (t : Tree) → None ≡ top t → t ≡ leaf
none_is_leaf leaf e = refl
none_is_leaf (fork c a p b) e = absurd (none_not p e)

-- a color of the weight 1 is black
pub black_weight : (c : Color) → weight c ≡ 1 → c ≡ Black
black_weight Red e = absurd (omega (arith, e))
black_weight Black e = refl

pub weight_small : (c : Color) → weight c ≤ 1
weight_small Red = omega arith
weight_small Black = omega arith

module _ {E : Type 0} (n : E → Node) where
  -- THE ROOT p OF THE TREE t is linked, and its entry has the color and the left child of this root. The black height of t is the black height of its left
  -- subtree `left`, plus one if p is black
  pub record AtRoot (entry : Place → E) (p : Place) (t : Tree) : Type 0 where
    pub linked : (n (entry p)).linked ≡ true
    pub color : (n (entry p)).color ≡ top_color t
    pub left : Tree
    pub below_left : IsTree n entry (Some p) left
    pub left_is : (n (entry p)).left ≡ top left
    pub weighs : weight (n (entry p)).color + blacks left ≡ blacks t
    pub lower : height left + 1 ≤ height t

  pub at_root : (entry : Place → E) (up : Option Place) (p : Place) (t : Tree) → IsTree n entry up t → Some p ≡ top t → AtRoot entry p t
  at_root entry up p leaf h e = absurd (none_not p (sym e))
  at_root entry up p (fork c a q b) h e = subst (λ z. AtRoot entry z (fork c a q b)) (sym (some_same e)) (record {
    linked = h.0.linked;
    color = h.0.color;
    left = a;
    below_left = h.1;
    left_is = h.0.left;
    weighs = ap (λ k. weight k + blacks a) h.0.color;
    lower = omega (arith, le-max_left (height a) (height b));
  })

  -- A DESCENT ALONG SIDE d has come to the subtree u, whose root is `at` and which is below the frames gs
  module _ {base v : Table E} {root : Option Place} {d : Side} {t : Tree} {ps : List Piece} {at parent : Option Place} {count : ℕ} (gs : List Frame) (u : Tree)
      (x : IsSpine n base v root d t ps at parent count gs u) where
    -- if `near` is the same as `at`, and u has `want` black members on each path down, the state of the descent holds for `near` and `want`
    pub spine_as : {near : Option Place} {want : ℕ} → near ≡ at → blacks u ≡ want → IsSpine n base v root d t ps near parent want gs u
    spine_as same are = record { stands = x.stands; same = x.same; near_is = same ∙ x.near_is; parent_is = x.parent_is; side_is = x.side_is; nothing = x.nothing; blacks_are = are }

    module _ {p : Place} (here : at ≡ Some p) where
      pub spine_root : AtRoot v.entry p u
      spine_root = at_root v.entry (above gs) p u x.stands.are.1.0 (sym here ∙ x.near_is)

      pub spine_weighs : IsRight t → weight (n (v.entry p)).color ≤ count
      spine_weighs right = omega (arith, spine_root.weighs, x.blacks_are)

      pub spine_down : {near : Option Place} {w : ℕ} → IsRight t → near ≡ child_on d (n (v.entry p)) → w ≡ weight (n (v.entry p)).color
          → (hs : List Frame) × (y : Tree) × IsSpine n base v root d t ps near (Some p) (count - w) hs y × (length hs ≡ suc (length gs))
      spine_down {near} {w} right is w_is =
          let o = opened n d gs u x.stands (sym x.near_is ∙ here) in
          let even = of_even d o.c o.a p o.b (subst (λ z. IsEven z) o.is (shape_open gs u (subst IsRight (sym x.same) right)).1) in
          let all : blacks (branch d o.c o.a p o.b) ≡ weight o.c + blacks o.a = blacks_branch d o.c o.a p o.b even.0 in
          let here : weight (n (v.entry p)).color ≡ weight o.c = ap weight (spine_root.color ∙ ap top_color o.is ∙ top_color_branch d o.c o.a p o.b) in (
            frame d o.c p o.b ∷ gs,
            o.a,
            record {
              stands = o.down;
              same = sym (ap (plug gs) o.is) ∙ x.same;
              near_is = is ∙ o.near;
              parent_is = refl;
              side_is = refl;
              nothing = beyond_same d o.c p o.b gs ∙ x.nothing;
              blacks_are = omega (arith, all, ap blacks o.is, x.blacks_are, here, w_is);
            },
            refl,
          )
