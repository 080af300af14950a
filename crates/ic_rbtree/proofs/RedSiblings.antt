-- Case 1 of the repair after a removal: a red sibling is rotated above its parent.
use Rattle.std.proofs.Common.{◌≡◌, Bool, true, false, inl, inr, Option, Some, None, ◌∷◌, refl, sym, ap, ◌∙◌, subst, arith, IsSome}
use Rattle.ic_link_ops.specs.Prelude.{Place, Table, Tree, leaf, fork, top, top_color, blacks, Node, IsTree}
use Rattle.ic_link_ops.specs.declared.color.Color.{Color}
use Rattle.ic_link_ops.specs.declared.color.Color.TheVariants.{Red, Black}
use Rattle.ic_link_ops.specs.declared.side.Side.{Side}
use Rattle.ic_link_ops.specs.Frames.{frame, branch, above, IsAtSide, across, child_on}
use Rattle.ic_link_ops.proofs.SequenceLemmas.{none_not}
use Rattle.ic_rbtree.specs.Focus.{Focus}
use Rattle.ic_rbtree.specs.Steps.{Rotates}
use Rattle.ic_rbtree.specs.Removal.{is_red, red_at, ShortAt, HasBlackSibling}
use Rattle.ic_rbtree.proofs.Branches.{as_branch, order_plug, order_rotated, side_far, side_linked}
use Rattle.ic_rbtree.proofs.Rotations.{turn}
use Rattle.ic_rbtree.proofs.Zipper.{go_up, go_down}
use Rattle.ic_rbtree.proofs.RemovalShapes.{not_leaf, short_lowered}

pub red_is : (c : Color) → is_red c ≡ true → c ≡ Red
red_is Red e = refl
red_is Black e = cc

pub black_is : (c : Color) → is_red c ≡ false → c ≡ Black
black_is Red e = cc
black_is Black e = refl

pub not_leaf_top : (t : Tree) → (t ≡ leaf → ⊥) → (w : Place) × (top t ≡ Some w)
not_leaf_top leaf h = absurd (h refl)
not_leaf_top (fork c a p b) h = (p, refl)

pub some_is : (o : Option Place) (w : Place) → o ≡ Some w → IsSome o
some_is None w e = absurd (none_not w e)
some_is (Some q) w e = refl

pub not_none : (o : Option Place) → IsSome o → o ≡ None → ⊥
not_none None s e = cc
not_none (Some q) s e = none_not q (sym e)

module _ {E : Type 0} (n : E → Node) where
  -- `red_at` reads at the root of a tree in the table whether this root is red
  pub red_tells : (v : Table E) (up o : Option Place) (t : Tree) → o ≡ top t → IsTree n v.entry up t → red_at n v o ≡ is_red (top_color t)
  red_tells v up o leaf e h = ap (λ (x : Option Place). red_at n v x) e
  red_tells v up o (fork c a p b) e h = ap (λ (x : Option Place). red_at n v x) e ∙ ap is_red h.0.color

  module _ {v : Table E} {root : Option Place} {q : Place} {d : Side} {c : Color} {sib : Tree} {k : Focus E} (h : ShortAt n v root q d c sib k) where
    pub parent_at : IsAtSide n v.entry d q c (top k.subtree) (top sib) (above k.frames)
    parent_at = h.stands.are.0.0.0

    pub parent_linked : (n (v.entry q)).linked ≡ true
    parent_linked = side_linked n v.entry d q c (top k.subtree) (top sib) (above k.frames) parent_at

    pub sib_tree : IsTree n v.entry (Some q) sib
    sib_tree = h.stands.are.0.0.1

    pub sib_read : child_on (across d) (n (v.entry q)) ≡ top sib
    sib_read = side_far n v.entry d q c (top k.subtree) (top sib) (above k.frames) parent_at

    pub sib_some : (w : Place) × (top sib ≡ Some w)
    sib_some = not_leaf_top sib (not_leaf sib (blacks k.subtree) (omega (arith, h.short.even_around.0)))

    -- the child that was read on the far side of q is the root of the sibling's subtree
    pub sib_top : (far : Side) (o : Option Place) (w : Place) → far ≡ across d → o ≡ child_on far (n (v.entry q)) → o ≡ Some w → top sib ≡ Some w
    sib_top far o w ef eo is = sym sib_read ∙ (ap (λ (x : Side). child_on x (n (v.entry q))) (sym ef) ∙ (sym eo ∙ is))

    pub sib_there : (far : Side) (o : Option Place) → far ≡ across d → o ≡ child_on far (n (v.entry q)) → o ≡ Some sib_some.0
    sib_there far o ef eo = eo ∙ (ap (λ (x : Side). child_on x (n (v.entry q))) ef ∙ (sib_read ∙ sib_some.1))

    -- the color that was read at the sibling w is the color of the root of the sibling's subtree
    pub sib_color : (w : Place) (b : Bool) → top sib ≡ Some w → b ≡ red_at n v (Some w) → b ≡ is_red (top_color sib)
    sib_color w b e eb = eb ∙ red_tells v (Some q) (Some w) sib (sym e) sib_tree

  module _ {v : Table E} {root : Option Place} {w q : Place} {d : Side} {c : Color} {sib : Tree} {k : Focus E} (h : ShortAt n v root q d c sib k) (is : top sib ≡ Some w) where
    pub black_already : is_red (top_color sib) ≡ false → HasBlackSibling n v root q d w k
    black_already black = record {
      color = c;
      sibling = sib;
      frames = k.frames;
      beside = record { at = h; top_is = is; black = black_is (top_color sib) black };
      red_or_same = inr refl;
    }

    module _ (red : is_red (top_color sib) ≡ true) where
      pub sib_red : (a b : Tree) × (sib ≡ branch d Red a w b)
      sib_red = let o = as_branch d sib w is in (o.0, o.1, o.2 ∙ ap (λ (x : Color). branch d x o.0 w o.1) (red_is (top_color sib) red))

      opened : ShortAt n v root q d c (branch d Red sib_red.0 w sib_red.1) k
      opened = subst (λ (x : Tree). ShortAt n v root q d c x k) sib_red.2 h

      -- the red sibling w is rotated above q, so that w is black and q is red
      module _ {z : Table E} {new_root : Option Place} (rot : Rotates n v z root new_root q w d Red Black) where
        pub lowered : ShortAt n z new_root q d Red sib_red.0 (record k { frames = frame d Black w sib_red.1 ∷ k.frames })
        lowered =
            let r = sib_red in
            record {
              stands = go_down n d Red q r.0 k.subtree
                  (go_down n d Black w r.1 (branch d Red k.subtree q r.0) (rot k.base k.frames (turn c k.subtree Red r.0 w r.1) k.pieces refl (go_up n opened.stands)));
              short = (short_lowered k.frames d c q r.0 w r.1 k.subtree opened.short).0;
              order = order_plug k.frames (branch d Black (branch d Red k.subtree q r.0) w r.1) (branch d c k.subtree q (branch d Red r.0 w r.1))
                  (sym (order_rotated d c Red Red Black k.subtree q r.0 w r.1)) ∙ opened.order;
            }

        pub black_sibling : (y : Place) → top sib_red.0 ≡ Some y → HasBlackSibling n z new_root q d y k
        black_sibling y e = let r = sib_red in record {
          color = Red;
          sibling = r.0;
          frames = frame d Black w r.1 ∷ k.frames;
          beside = record { at = lowered; top_is = e; black = (short_lowered k.frames d c q r.0 w r.1 k.subtree opened.short).1 };
          red_or_same = inl refl;
        }
