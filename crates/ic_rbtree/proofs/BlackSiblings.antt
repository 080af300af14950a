-- Lemmas about the cases 2, 3 and 4 of the repair after a removal, in which the sibling of the short subtree is black.
use Rattle.std.proofs.Common.{◌≡◌, ◌⊎◌, inl, inr, Bool, true, false, ◌||◌, Option, Some, List, ◌∷◌, refl, sym, ap, ◌∙◌, subst}
use Rattle.ic_link_ops.specs.Prelude.{Place, Table, ChangesOnly, Tree, leaf, fork, top, in_order, top_color, Node, IsTree}
use Rattle.ic_link_ops.specs.declared.color.Color.{Color}
use Rattle.ic_link_ops.specs.declared.color.Color.TheVariants.{Red, Black}
use Rattle.ic_link_ops.specs.declared.side.Side.{Side}
use Rattle.ic_link_ops.specs.declared.side.Side.TheVariants.{Left, Right}
use Rattle.ic_link_ops.specs.Frames.{Frame, frame, branch, plug, above, IsAtSide, across, child_on}
use Rattle.ic_link_ops.proofs.SequenceLemmas.{none_not, some_same}
use Rattle.ic_rbtree.specs.Prelude.{ClimbState, Rotates}
use Rattle.ic_rbtree.specs.Focus.{Focus, IsRestored}
use Rattle.ic_rbtree.specs.Shortage.{IsShort}
use Rattle.ic_rbtree.specs.Removal.{is_red, red_child, red_at, red_below, AreRead, ShortAt, Beside, HasRedFarNephew, Rises}
use Rattle.ic_rbtree.proofs.Branches.{branch_across, across_twice, top_branch, as_branch, branch_open, order_plug, order_branch, order_rotated, side_near, side_far, side_tint}
use Rattle.ic_rbtree.proofs.Rotations.{turn, below_linked}
use Rattle.ic_rbtree.proofs.Zipper.{go_up, go_down, go_across, go_top, painted_top}
use Rattle.ic_rbtree.proofs.RemovalShapes.{short_turned, short_restored, short_up, short_ends}
use Rattle.ic_rbtree.proofs.RedSiblings.{red_is, black_is, red_tells, parent_at, sib_tree}

or_true : (x y : Bool) → x || y ≡ true → y ≡ false → x ≡ true
or_true true y e f = refl
or_true false true e f = cc
or_true false false e f = e

or_other : (x y : Bool) → x || y ≡ true → x ≡ false → y ≡ true
or_other true y e f = cc
or_other false true e f = refl
or_other false false e f = e

or_false : (x y : Bool) → x || y ≡ false → (x ≡ false) × (y ≡ false)
or_false true y e = cc
or_false false true e = cc
or_false false false e = (refl, refl)

red_near : (d : Side) (c : Color) (a : Tree) (w : Place) (b : Tree) → red_child (branch d c a w b) ≡ true → is_red (top_color b) ≡ false → is_red (top_color a) ≡ true
red_near Left c a w b e f = or_true (is_red (top_color a)) (is_red (top_color b)) e f
red_near Right c a w b e f = or_other (is_red (top_color b)) (is_red (top_color a)) e f

none_red : (d : Side) (c : Color) (a : Tree) (w : Place) (b : Tree) → red_child (branch d c a w b) ≡ false → (is_red (top_color a) ≡ false) × (is_red (top_color b) ≡ false)
none_red Left c a w b e = or_false (is_red (top_color a)) (is_red (top_color b)) e
none_red Right c a w b e = let r = or_false (is_red (top_color b)) (is_red (top_color a)) e in (r.1, r.0)

-- a tree with a red root is a red branch, as seen from either side
red_branch : (d : Side) (t : Tree) → is_red (top_color t) ≡ true → (m : Tree) × (f : Place) × (o : Tree) × (t ≡ branch d Red m f o)
red_branch d leaf e = cc
red_branch Left (fork Red m f o) e = (m, f, o, refl)
red_branch Right (fork Red m f o) e = (o, f, m, refl)
red_branch d (fork Black m f o) e = cc

as_fork : (d : Side) (c : Color) (a : Tree) (p : Place) (b : Tree) → (m o : Tree) × (branch d c a p b ≡ fork c m p o)
as_fork Left c a p b = (a, b, refl)
as_fork Right c a p b = (b, a, refl)

module _ {E : Type 0} (n : E → Node) where
  -- the child of the root p on side d is the root of the subtree on this side
  pub top_near : (v : Table E) (up : Option Place) (d : Side) (c : Color) (a : Tree) (p : Place) (b : Tree) → IsTree n v.entry up (branch d c a p b)
      → child_on d (n (v.entry p)) ≡ top a
  top_near v up d c a p b h = side_near n v.entry d p c (top a) (top b) up (branch_open n v.entry up d c a p b h).0

  pub top_far : (v : Table E) (up : Option Place) (d : Side) (c : Color) (a : Tree) (p : Place) (b : Tree) → IsTree n v.entry up (branch d c a p b)
      → child_on (across d) (n (v.entry p)) ≡ top b
  top_far v up d c a p b h = side_far n v.entry d p c (top a) (top b) up (branch_open n v.entry up d c a p b h).0

  -- the root y of a tree in the table and the children of y are linked
  pub are_read : (v : Table E) (up : Option Place) (t : Tree) (y : Place) → IsTree n v.entry up t → top t ≡ Some y → AreRead n v y
  are_read v up leaf y h e = absurd (none_not y e)
  are_read v up (fork c a p b) y h e = subst (λ (z : Place). AreRead n v z) (some_same e) (record {
    here = h.0.linked;
    left = λ q i. below_linked n v.entry (Some p) a q h.1 (sym h.0.left ∙ i);
    right = λ q i. below_linked n v.entry (Some p) b q h.2 (sym h.0.right ∙ i);
  })

  pub red_read : (v : Table E) (up : Option Place) (t : Tree) (y : Place) → IsTree n v.entry up t → top t ≡ Some y → red_below n v y ≡ red_child t
  red_read v up leaf y h e = absurd (none_not y e)
  red_read v up (fork c a p b) y h e =
      ap (λ (z : Place). red_below n v z) (sym (some_same e))
      ∙ (ap (λ (x : Bool). x || red_at n v (n (v.entry p)).right) (red_tells n v (Some p) (n (v.entry p)).left a h.0.left h.1)
      ∙ ap (λ (x : Bool). is_red (top_color a) || x) (red_tells n v (Some p) (n (v.entry p)).right b h.0.right h.2))

  module _ {v : Table E} {root : Option Place} {q : Place} {d : Side} {w : Place} {c : Color} {sib : Tree} {k : Focus E} (h : Beside n v root q d w c sib k) where
    -- the sibling is a black branch with the root w and two subtrees, as seen from side d
    pub sib_open : (a b : Tree) × (sib ≡ branch d Black a w b)
    sib_open = let o = as_branch d sib w h.top_is in (o.0, o.1, o.2 ∙ ap (λ (x : Color). branch d x o.0 w o.1) h.black)

    pub opened : ShortAt n v root q d c (branch d Black sib_open.0 w sib_open.1) k
    opened = subst (λ (x : Tree). ShortAt n v root q d c x k) sib_open.2 h.at

    pub sib_read : AreRead n v w
    sib_read = are_read v (Some q) sib w (sib_tree n h.at) h.top_is

    pub sib_tells : red_below n v w ≡ red_child sib
    sib_tells = red_read v (Some q) sib w (sib_tree n h.at) h.top_is

    pub far_is : child_on (across d) (n (v.entry w)) ≡ top sib_open.1
    far_is = top_far v (Some q) d Black sib_open.0 w sib_open.1 (sib_tree n opened)

    pub near_is : child_on d (n (v.entry w)) ≡ top sib_open.0
    near_is = top_near v (Some q) d Black sib_open.0 w sib_open.1 (sib_tree n opened)

    far_tree : IsTree n v.entry (Some w) sib_open.1
    far_tree = (branch_open n v.entry (Some q) d Black sib_open.0 w sib_open.1 (sib_tree n opened)).2

    -- the color that is read at the far child of the sibling is the color of the root of the far subtree
    pub far_color : (o : Option Place) (far : Side) (r : Bool) → far ≡ across d → o ≡ child_on far (n (v.entry w)) → r ≡ red_at n v o → r ≡ is_red (top_color sib_open.1)
    far_color o far r ek e er = er ∙ red_tells n v (Some w) o sib_open.1 (e ∙ (ap (λ (x : Side). child_on x (n (v.entry w))) ek ∙ far_is)) far_tree

    -- if the far nephew is red already, no rotation is needed before case 4
    pub far_red_now : is_red (top_color sib_open.1) ≡ true → HasRedFarNephew n v root q d w c k
    far_red_now red =
        let r = red_branch Left sib_open.1 red in
        record { near = sib_open.0; left = r.0; far = r.1; right = r.2; at = subst (λ (x : Tree). ShortAt n v root q d c (branch d Black sib_open.0 w x) k) r.3 opened }

    module _ (red : red_child sib ≡ true) (far : is_red (top_color sib_open.1) ≡ false) where
      pub near_red : (m : Tree) × (z : Place) × (o : Tree) × (sib_open.0 ≡ branch d Red m z o)
      near_red = red_branch d sib_open.0 (red_near d Black sib_open.0 w sib_open.1 (ap red_child (sym sib_open.2) ∙ red) far)

      pub near_place : (o : Option Place) (z : Place) → o ≡ child_on d (n (v.entry w)) → o ≡ Some z → near_red.1 ≡ z
      near_place o z e is = let r = near_red in some_same (sym (top_branch d Red r.0 r.1 r.2) ∙ (sym (ap top r.3) ∙ (sym near_is ∙ (sym e ∙ is))))

      pub near_there : (o : Option Place) → o ≡ child_on d (n (v.entry w)) → o ≡ Some near_red.1
      near_there o e = let r = near_red in e ∙ (near_is ∙ (ap top r.3 ∙ top_branch d Red r.0 r.1 r.2))

      -- the near child z of the sibling is red, and a rotation brings z above the sibling
      module _ (z : Place) (is : near_red.1 ≡ z) where
        near_open : ShortAt n v root q d c (branch d Black (branch d Red near_red.0 z near_red.2) w sib_open.1) k
        near_open = subst (λ (x : Tree). ShortAt n v root q d c (branch d Black x w sib_open.1) k)
            (near_red.3 ∙ ap (λ (x : Place). branch d Red near_red.0 x near_red.2) is) opened

        ready : ClimbState n k.base v root (frame (across d) c q k.subtree ∷ k.frames) (branch (across d) Black sib_open.1 w (branch (across d) Red near_red.2 z near_red.0)) k.pieces
        ready =
            let r = near_red in
            let b = sib_open.1 in
            subst (λ (x : Tree). ClimbState n k.base v root (frame (across d) c q k.subtree ∷ k.frames) x k.pieces)
            (sym (branch_across d Black (branch d Red r.0 z r.2) w b) ∙ ap (λ (x : Tree). branch (across d) Black b w x) (sym (branch_across d Red r.0 z r.2)))
            (go_across n near_open.stands)

        pub far_red_then : {y : Table E} {new_root : Option Place} (i : Side) → i ≡ across d → Rotates n v y root new_root w z i Red Black → HasRedFarNephew n y new_root q d z c k
        far_red_then {y} {new_root} i e rot' =
            let rot : Rotates n v y root new_root w z (across d) Red Black = subst (λ (x : Side). Rotates n v y root new_root w z x Red Black) e rot' in
            let r = near_red in
            let b = sib_open.1 in
            let f = as_fork d Red r.2 w b in
            let low : Tree = branch d Black r.0 z (branch d Red r.2 w b) in
            let order : in_order low ≡ in_order (branch d Black (branch d Red r.0 z r.2) w b) = order_rotated d Black Red Red Black r.0 z r.2 w b in
            let up : List Frame = frame (across d) c q k.subtree ∷ k.frames in
            let back : branch (across d) Black (branch (across d) Red b w r.2) z r.0 ≡ low =
            branch_across d Black r.0 z (branch (across d) Red b w r.2) ∙ ap (λ (x : Tree). branch d Black r.0 z x) (branch_across d Red r.2 w b) in
            let h1 = go_across n (subst (λ (x : Tree). ClimbState n k.base y new_root up x k.pieces) back (rot k.base up (turn Black b Red r.2 z r.0) k.pieces refl ready)) in
            let whole : ShortAt n y new_root q d c low k = record {
              stands = subst (λ (x : Side). ClimbState n k.base y new_root (frame x c q low ∷ k.frames) k.subtree k.pieces) (across_twice d) h1;
              short = short_turned k.frames d c q r.0 z r.2 w b k.subtree near_open.short (black_is (top_color b) far);
              order = order_plug k.frames (branch d c k.subtree q low) (branch d c k.subtree q (branch d Black (branch d Red r.0 z r.2) w b))
                  (order_branch d c c k.subtree k.subtree q low (branch d Black (branch d Red r.0 z r.2) w b) refl order) ∙ near_open.order;
            } in
            record { near = r.0; left = f.0; far = w; right = f.1; at = subst (λ (x : Tree). ShortAt n y new_root q d c (branch d Black r.0 z x) k) f.2 whole }

  -- A RED FAR CHILD: if the far child of the sibling is red, the sibling is rotated above q
  module _ {v : Table E} {root : Option Place} {q : Place} {d : Side} {w : Place} {c : Color} {k : Focus E} (l : HasRedFarNephew n v root q d w c k) where
    abbrev far_child : Color → Tree
    far_child x = fork x l.left l.far l.right

    tree_here : IsTree n v.entry (Some q) (branch d Black l.near w (far_child Red))
    tree_here = sib_tree n l.at

    pub outer_some : (i : Side) (x : Option Place) → i ≡ across d → x ≡ child_on i (n (v.entry w)) → x ≡ Some l.far
    outer_some i x ek e = e ∙ (ap (λ (y : Side). child_on y (n (v.entry w))) ek ∙ top_far v (Some q) d Black l.near w (far_child Red) tree_here)

    pub color_here : (x : Color) → x ≡ (n (v.entry q)).color → x ≡ c
    color_here x e = e ∙ side_tint n v.entry d q c (top k.subtree) (Some w) (above k.frames)
        (subst (λ (y : Option Place). IsAtSide n v.entry d q c (top k.subtree) y (above k.frames)) (top_branch d Black l.near w (far_child Red)) (parent_at n l.at))

    module _ {v1 : Table E} (g : Place) (eg : g ≡ l.far) (set1 : n (v1.entry g) ≡ record (n (v.entry g)) { color = Black }) (only1 : ChangesOnly v v1 g) where
      far_ready : ClimbState n k.base v1 root k.frames (branch d c k.subtree q (branch d Black l.near w (far_child Black))) k.pieces
      far_ready =
          let up : List Frame = frame (across d) c q k.subtree ∷ k.frames in
          let h1 = go_across n (go_down n d Black w (far_child Red) l.near (go_across n l.at.stands)) in
          let h2 = painted_top n Left Red l.left l.far l.right eg refl set1 only1 h1 in
          let h3 = subst (λ (y : Tree). ClimbState n k.base v1 root up y k.pieces) (branch_across d Black l.near w (far_child Black)) (go_up n h2) in
          subst (λ (y : Tree). ClimbState n k.base v1 root k.frames y k.pieces) (branch_across d c k.subtree q (branch d Black l.near w (far_child Black))) (go_up n h3)

      pub far_rotated : {y : Table E} {new_root : Option Place} (x : Color) → x ≡ c → Rotates n v1 y root new_root q w d Black x → IsRestored n y new_root k
      far_rotated {y} {new_root} x ex rot' =
          let rot : Rotates n v1 y root new_root q w d Black c = subst (λ (z : Color). Rotates n v1 y root new_root q w d Black z) ex rot' in
          let all : Tree = branch d c (branch d Black k.subtree q l.near) w (far_child Black) in
          record {
            tree = plug k.frames all;
            stands = go_top n (rot k.base k.frames (turn c k.subtree Black l.near w (far_child Black)) k.pieces refl far_ready);
            order = order_plug k.frames all (branch d c k.subtree q (branch d Black l.near w (far_child Red)))
                (sym (order_rotated d Black c Black c k.subtree q l.near w (far_child Black))
                ∙ order_branch d Black c k.subtree k.subtree q (branch d c l.near w (far_child Black)) (branch d Black l.near w (far_child Red)) refl (order_branch d c Black l.near l.near w (far_child Black) (far_child Red) refl refl)) ∙ l.at.order;
            shape = short_restored k.frames d c q l.near w Left l.left l.far l.right k.subtree l.at.short;
          }

  -- NO RED CHILD: if the sibling has no red child, the sibling turns red
  module _ {v : Table E} {root : Option Place} {q : Place} {d : Side} {w : Place} {c : Color} {sib : Tree} {k : Focus E} (h : Beside n v root q d w c sib k) (none : red_child sib ≡ false) where
    blacks_here : (top_color (sib_open h).0 ≡ Black) × (top_color (sib_open h).1 ≡ Black)
    blacks_here =
        let o = sib_open h in
        let r = none_red d Black o.0 w o.1 (ap red_child (sym o.2) ∙ none) in (black_is (top_color o.0) r.0, black_is (top_color o.1) r.1)

    module _ {v1 : Table E} (set1 : n (v1.entry w) ≡ record (n (v.entry w)) { color = Red }) (only1 : ChangesOnly v v1 w) where
      reddened : ClimbState n k.base v1 root (frame d c q (branch d Red (sib_open h).0 w (sib_open h).1) ∷ k.frames) k.subtree k.pieces
      reddened =
          let o = sib_open h in
          let h1 = go_across n (opened h).stands in
          let h2 = painted_top n d Black o.0 w o.1 refl refl set1 only1 h1 in
          let h3 = go_across n h2 in
          subst (λ (x : Side). ClimbState n k.base v1 root (frame x c q (branch d Red o.0 w o.1) ∷ k.frames) k.subtree k.pieces) (across_twice d) h3

      pub color_then : (r : Bool) → r ≡ red_at n v1 (Some q) → r ≡ is_red c
      color_then r e = let o = sib_open h in
          e ∙ ap is_red (side_tint n v1.entry d q c (top k.subtree) (top (branch d Red o.0 w o.1)) (above k.frames) reddened.are.0.0.0)

      same_order : (x : Color) → in_order (plug k.frames (branch d x k.subtree q (branch d Red (sib_open h).0 w (sib_open h).1))) ≡ k.sequence
      same_order x =
          let o = sib_open h in
          order_plug k.frames (branch d x k.subtree q (branch d Red o.0 w o.1)) (branch d c k.subtree q (branch d Black o.0 w o.1))
          (order_branch d x c k.subtree k.subtree q (branch d Red o.0 w o.1) (branch d Black o.0 w o.1) refl (order_branch d Red Black o.0 o.0 w o.1 o.1 refl refl)) ∙ (opened h).order

      pub reddens_on : is_red c ≡ false → (t' : Tree) × Rises n v1 root q (record k { subtree = t' })
      reddens_on e =
          let o = sib_open h in
          let r = blacks_here in
          let black : c ≡ Black = black_is c e in (
            branch d c k.subtree q (branch d Red o.0 w o.1),
            record {
              stands = go_up n reddened;
              top_is = top_branch d c k.subtree q (branch d Red o.0 w o.1);
              short = subst (λ (x : Color). IsShort k.frames (branch d x k.subtree q (branch d Red o.0 w o.1))) (sym black)
                  (short_up k.frames d q o.0 w o.1 k.subtree (subst (λ (x : Color). IsShort (frame d x q (branch d Black o.0 w o.1) ∷ k.frames) k.subtree) black (opened h).short) r.0 r.1);
              order = same_order c;
            },
          )

      pub reddens_out : {v2 : Table E} → is_red c ≡ true → n (v2.entry q) ≡ record (n (v1.entry q)) { color = Black } → ChangesOnly v1 v2 q → IsRestored n v2 root k
      reddens_out {v2} e set2 only2 =
          let o = sib_open h in
          let r = blacks_here in
          let red : c ≡ Red = red_is c e in
          let all : Tree = branch d Black k.subtree q (branch d Red o.0 w o.1) in
          record {
            tree = plug k.frames all;
            stands = go_top n (painted_top n d c k.subtree q (branch d Red o.0 w o.1) refl refl set2 only2 (go_up n reddened));
            order = same_order Black;
            shape = short_ends k.frames d q o.0 w o.1 k.subtree (subst (λ (x : Color). IsShort (frame d x q (branch d Black o.0 w o.1) ∷ k.frames) k.subtree) red (opened h).short) r.0 r.1;
          }

  -- if the subtree with the root q is short after the step, no red sibling was rotated above q, and the frames above q are the old frames
  pub risen : {w : Table E} {root : Option Place} {q : Place} {c : Color} (k : Focus E) {fs : List Frame} (done : Bool) → done ≡ is_red c → done ≡ false → (c ≡ Red) ⊎ (fs ≡ k.frames)
      → (t : Tree) × Rises n w root q (record k { frames = fs; subtree = t }) → (t : Tree) × Rises n w root q (record k { subtree = t })
  risen k done e off (inl red) r = let m : true ≡ false = sym (ap is_red red) ∙ (sym e ∙ off) in cc
  risen {w} {root} {q} k done e off (inr same) r = subst (λ (x : List Frame). (t : Tree) × Rises n w root q (record k { frames = x; subtree = t })) same r
