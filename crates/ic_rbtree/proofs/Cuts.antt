-- A tree is split at an insert position, which is a missing child. The split goes from the insert position up to the root.
use Rattle.std.proofs.Common.{◌≡◌, ℕ, ◌+◌, ◌-◌, ◌<◌, Option, Some, None, List, [], ◌∷◌, ◌++◌, refl, sym, ap, ◌∙◌, subst, arith, append-nil, append_assoc}
use Rattle.ic_link_ops.specs.Prelude.{Place, Cut, join, Table, ChangesOnly, Splits, weight, NoRedPair, IsEven, IsRight, times, times_in, times_around, Tree, leaf, fork, top, in_order}
use Rattle.ic_link_ops.specs.declared.color.Color.{Color}
use Rattle.ic_link_ops.specs.declared.color.Color.TheVariants.{Black}
use Rattle.ic_link_ops.specs.declared.side.Side.{Side}
use Rattle.ic_link_ops.specs.declared.side.Side.TheVariants.{Left, Right}
use Rattle.ic_link_ops.specs.Frames.{Frame, frame, above, before, after, across, child_on, IsAround}
use Rattle.ic_link_ops.specs.RedBlackTree.{Node, Represents}
use Rattle.ic_link_ops.proofs.Prelude.{none_not, some_same, times_order, absent_times, times_append, one_at_self}
use Rattle.ic_link_ops.proofs.Trees.{leaf_is}
use Rattle.ic_rbtree.specs.Prelude.{IsNode, IsNamed, turns, Piece, loose, below, around, Held, ClimbState, Represented, IsOn, IsSideOf}
use Rattle.ic_rbtree.specs.Cuts.{CutUp, IsCutUp, IsCutBelow, IsCutting, Detaches, AreCutApart}
use Rattle.ic_rbtree.specs.Insertion.{blackened, IsInsertPos}
use Rattle.ic_rbtree.specs.declared.join.roots.Measured.{Measured}
use Rattle.ic_rbtree.specs.Join.{IsMeasured, Pair, AreMeasured, IsJoined}
use Rattle.ic_rbtree.proofs.Attaching.{insert_pos}
use Rattle.ic_rbtree.proofs.Branches.{side_near, side_far, side_tint, side_up, side_linked}
use Rattle.ic_rbtree.proofs.Low.{frames_low, blacks_low}
use Rattle.ic_rbtree.proofs.Spine.{weight_small, at_root}
use Rattle.ic_rbtree.proofs.Pieces.{regroup, set_parent_and_color}
use Rattle.ic_rbtree.proofs.RemovalShapes.{shape_open}
use Rattle.ic_rbtree.proofs.InsertionShapes.{red_not_black}
use Rattle.ic_rbtree.proofs.Removing.{represents_of}
use Rattle.ic_rbtree.proofs.Rotations.{below_linked, around_linked, open_below, close_below, times_top}

-- if the root of a tree turns black, the root and the members stay as they were
top_blackened : (t : Tree) → top (blackened t) ≡ top t
top_blackened leaf = refl
top_blackened (fork c a p b) = refl

order_blackened : (t : Tree) → in_order (blackened t) ≡ in_order t
order_blackened leaf = refl
order_blackened (fork c a p b) = refl

right_blackened : (t : Tree) → NoRedPair t → IsEven t → IsRight (blackened t)
right_blackened leaf pairs even = record { black_root = refl; no_red_pair = tt; even = tt }
right_blackened (fork c a p b) pairs even = record { black_root = refl; no_red_pair = ((λ e. red_not_black e), pairs.1, pairs.2); even = even }

right_leaf : IsRight leaf
right_leaf = record { black_root = refl; no_red_pair = tt; even = tt }

-- the empty tree, with no root and the black height 0
abbrev pub nothing : Measured
nothing = record { root = None; height = 0 }

nothing_is : IsMeasured nothing leaf
nothing_is = record { root_is = refl; height_is = refl }

-- if the member p is right above the subtree, which is on side d, the lowest frame is a frame of p on side d
pub lowest : (fs : List Frame) (d : Side) (p : Place) → Some p ≡ above fs → IsOn d fs → (c : Color) × (b : Tree) × (gs : List Frame) × (fs ≡ frame d c p b ∷ gs)
lowest [] d p e on = absurd (none_not p (sym e))
lowest (frame k c q b ∷ gs) d p e on = (c, b, gs, ap (λ z. frame k c z b ∷ gs) (sym (some_same e)) ∙ ap (λ z. frame z c p b ∷ gs) (sym on))

module _ {E : Type 0} (n : E → Node) where
  -- A SUBTREE IS DETACHED by one write to its root q, which clears the parent of q and turns q black
  pub detaches_some : {v w : Table E} {height : ℕ} {alone : Measured} (q : Place) (child : Option Place) → child ≡ Some q → alone.root ≡ child
      → alone.height ≡ height + 1 - weight (n (v.entry q)).color
      → n (w.entry q) ≡ record (n (v.entry q)) { parent = None; color = Black } → ChangesOnly v w q → Detaches n v w child height alone
  detaches_some q child is root tall set only base up leaf ps e high h = absurd (none_not q (sym e ∙ is))
  detaches_some {v} q child is root tall set only base up (fork c a p b) ps e high h =
      let tint : weight (n (v.entry q)).color ≡ weight c = ap weight (at_root n v.entry up q (fork c a p b) h.are.0 (sym is ∙ e)).color in (
        close_below n None (top a) (top b) Left Black a p b ps refl refl
            (set_parent_and_color n Left p c (top a) (top b) up (below (Some p) a ∷ below (Some p) b ∷ ps) (open_below n up Left c a p b ps h) q None None Black (some_same (sym is ∙ e)) refl set only),
        record { root_is = root ∙ e; height_is = omega (arith, tall, high, tint, weight_small c) },
      )

  -- a missing child is detached as an empty tree, without a write
  pub detaches_none : {v : Table E} {height : ℕ} {alone : Measured} (child : Option Place) → child ≡ None → alone.root ≡ child → alone.height ≡ height → Detaches n v v child height alone
  detaches_none child is root tall base up leaf ps e high h = (regroup n (below None leaf ∷ ps) h (λ q. refl) (tt, h.are.1), record { root_is = root ∙ e; height_is = tall ∙ high })
  detaches_none child is root tall base up (fork c a p b) ps e high h = absurd (none_not p (sym is ∙ e))

  -- if the table has the place p on side i of its parent, the lowest frame is on side i
  side_there : (v : Table E) (fs : List Frame) (i : Side) (p : Place) → IsAround n v.entry fs (Some p) → times_around p fs ≡ 0
      → ((q : Place) → above fs ≡ Some q → IsSideOf n v p q i) → IsOn i fs
  side_there v [] i p a none tells = tt
  side_there v (frame Left c q b ∷ fs) Left p a none tells = refl
  side_there v (frame Right c q b ∷ fs) Right p a none tells = refl
  side_there v (frame Left c q b ∷ fs) Right p a none tells = absurd (tells q refl (side_near n v.entry Left q c (Some p) (top b) (above fs) a.0))
  side_there v (frame Right c q b ∷ fs) Left p a none tells =
      let m : top b ≡ Some p = sym (side_far n v.entry Right q c (Some p) (top b) (above fs) a.0) ∙ tells q refl in
      absurd (omega (arith, none, times_top p b m))

  -- AT THE MEMBER p above the insert position: the lowest frame is a frame of p, and b is the subtree of p on the other side
  module _ {v : Table E} {root : Option Place} {left right : Measured} {k : CutUp E} (x : IsCutUp n v root left right k)
      (d : Side) (c : Color) (p : Place) (b : Tree) (fs : List Frame) (is : k.frames ≡ frame d c p b ∷ fs) where
    here : IsCutUp n v root left right (record k { frames = frame d c p b ∷ fs })
    here = subst (λ (gs : List Frame). IsCutUp n v root left right (record k { frames = gs })) is x

    pub lowest_node : IsNode n v p
    lowest_node = side_linked n v.entry d p c k.named (top b) (above fs) here.held.are.0.0.0

    pub rest_is : {rest : Option Place} {o : Side} → o ≡ across d → rest ≡ child_on o (n (v.entry p)) → rest ≡ top b
    rest_is {rest} {o} oe re = re ∙ ap (λ s. child_on s (n (v.entry p))) oe ∙ side_far n v.entry d p c k.named (top b) (above fs) here.held.are.0.0.0

    pub rest_named : {rest : Option Place} → rest ≡ top b → IsNamed n v rest
    rest_named re q e = below_linked n v.entry (Some p) b q here.held.are.0.0.1 (sym re ∙ e)

    abbrev others : List Piece
    others = loose p ∷ around root fs (Some p) ∷ below None k.front ∷ below None k.back ∷ k.pieces

    opened : Held n k.base v (below (Some p) b ∷ others)
    opened = regroup n (below (Some p) b ∷ others) here.held (λ q. omega arith)
        (here.held.are.0.0.1, (lowest_node, ((here.held.are.0.0.2, here.held.are.0.1), here.held.are.1)))

    -- the number of black members on a path down at the insert position is less than `turns`
    pub count_low : k.count < turns
    count_low = omega (arith, blacks_low n b opened here.even.1, here.even.0)

    pub lowest_weighs : {w : ℕ} → w ≡ weight (n (v.entry p)).color → w ≡ weight c
    lowest_weighs e = e ∙ ap weight (side_tint n v.entry d p c k.named (top b) (above fs) here.held.are.0.0.0)

    -- b, the subtree of p on the other side, has been detached as a tree of its own
    module _ {w : Table E} {rest : Option Place} {height : ℕ} {alone : Measured} (re : rest ≡ top b) (level : height ≡ k.count) (off : Detaches n v w rest height alone) where
      apart_is : Held n k.base w (below None (blackened b) ∷ others) × IsMeasured alone (blackened b)
      apart_is = off k.base (Some p) b others re (level ∙ sym here.even.0) opened

      apart : Held n k.base w (below None (blackened b) ∷ others)
      apart = apart_is.0

      -- the member p and its subtree on the other side can be joined to a part. If the insert position is left of p, they can be joined to the part after the
      -- insert position
      abbrev pub back_pair : Pair E
      back_pair = record { base = k.base; one = k.back; two = blackened b; pieces = around root fs (Some p) ∷ below None k.front ∷ k.pieces }

      abbrev pub front_pair : Pair E
      front_pair = record { base = k.base; one = blackened b; two = k.front; pieces = around root fs (Some p) ∷ below None k.back ∷ k.pieces }

      shaped : IsRight (blackened b)
      shaped = right_blackened b here.pairs.2 here.even.1

      pub are_back_pair : AreMeasured n w right p alone back_pair
      are_back_pair = record {
        pair = record {
          held = regroup n (loose p ∷ below None k.back ∷ below None (blackened b) ∷ around root fs (Some p) ∷ below None k.front ∷ k.pieces) apart (λ q. omega arith)
              (apart.are.1.0, (apart.are.1.1.1.1.0, (apart.are.0, (apart.are.1.1.0, (apart.are.1.1.1.0, apart.are.1.1.1.1.1)))));
          one_is = x.right_is.root_is;
          two_is = apart_is.1.root_is;
          one_right = x.back_right;
          two_right = shaped;
        };
        one_height = x.right_is.height_is;
        two_height = apart_is.1.height_is;
      }

      pub are_front_pair : AreMeasured n w alone p left front_pair
      are_front_pair = record {
        pair = record {
          held = regroup n (loose p ∷ below None (blackened b) ∷ below None k.front ∷ around root fs (Some p) ∷ below None k.back ∷ k.pieces) apart (λ q. omega arith)
              (apart.are.1.0, (apart.are.0, (apart.are.1.1.1.0, (apart.are.1.1.0, (apart.are.1.1.1.1.0, apart.are.1.1.1.1.1)))));
          one_is = apart_is.1.root_is;
          two_is = x.left_is.root_is;
          one_right = shaped;
          two_right = x.front_right;
        };
        one_height = apart_is.1.height_is;
        two_height = x.left_is.height_is;
      }

      -- THE JOIN IS MADE: if the insert position is left of p, then p and its subtree on the other side are joined to the part after the insert position. The
      -- loop's invariant holds again
      pub cut_back : {u : Table E} {new : Measured} → d ≡ Left → IsJoined n k.base u new (in_order k.back ++ p ∷ in_order (blackened b)) back_pair.pieces
          → (front back : Tree) × IsCutUp n u root left new (record k { frames = fs; named = Some p; count = weight c + k.count; front = front; back = back })
      cut_back {u} {new} left_side (h, tall) = (
        k.front,
        h.tree,
        record {
          held = regroup n (around root fs (Some p) ∷ below None k.front ∷ below None h.tree ∷ k.pieces) h.stands (λ q. omega arith)
              (h.stands.are.1.1.0, (h.stands.are.1.1.1.0, (h.stands.are.1.0, h.stands.are.1.1.1.1)));
          left_is = x.left_is;
          right_is = record { root_is = h.stands.are.0.1; height_is = tall };
          front_right = x.front_right;
          back_right = h.shape;
          pairs = here.pairs.3;
          even = here.even.2;
          front_is = subst (λ s. before (frame s c p b ∷ fs) ++ in_order k.front ≡ k.gap.front) left_side here.front_is;
          back_is =
              ap (λ s. s ++ after fs) (h.order ∙ ap (λ s. in_order k.back ++ p ∷ s) (order_blackened b))
              ∙ append_assoc (in_order k.back) (p ∷ in_order b) (after fs)
              ∙ subst (λ s. in_order k.back ++ after (frame s c p b ∷ fs) ≡ k.gap.back) left_side here.back_is;
        },
      )

      pub cut_front : {u : Table E} {new : Measured} → d ≡ Right → IsJoined n k.base u new (in_order (blackened b) ++ p ∷ in_order k.front) front_pair.pieces
          → (front back : Tree) × IsCutUp n u root new right (record k { frames = fs; named = Some p; count = weight c + k.count; front = front; back = back })
      cut_front {u} {new} right_side (h, tall) = (
        h.tree,
        k.back,
        record {
          held = regroup n (around root fs (Some p) ∷ below None h.tree ∷ below None k.back ∷ k.pieces) h.stands (λ q. omega arith)
              (h.stands.are.1.1.0, (h.stands.are.1.0, (h.stands.are.1.1.1.0, h.stands.are.1.1.1.1)));
          left_is = record { root_is = h.stands.are.0.1; height_is = tall };
          right_is = x.right_is;
          front_right = h.shape;
          back_right = x.back_right;
          pairs = here.pairs.3;
          even = here.even.2;
          front_is =
              ap (λ s. before fs ++ s) (h.order ∙ ap (λ s. s ++ p ∷ in_order k.front) (order_blackened b))
              ∙ ap (λ s. before fs ++ s) (sym (append_assoc (in_order b) (p ∷ []) (in_order k.front)))
              ∙ sym (append_assoc (before fs) (in_order b ++ p ∷ []) (in_order k.front))
              ∙ subst (λ s. before (frame s c p b ∷ fs) ++ in_order k.front ≡ k.gap.front) right_side here.front_is;
          back_is = subst (λ s. in_order k.back ++ after (frame s c p b ∷ fs) ≡ k.gap.back) right_side here.back_is;
        },
      )

    pub upper_node : {up : Option Place} → up ≡ above fs → (q : Place) → up ≡ Some q → IsNode n v q
    upper_node is q e = around_linked n v.entry fs (Some p) q here.held.are.0.0.2 (sym is ∙ e)

    -- THE NEXT INSERT POSITION is at the position of the member p: its parent is the parent of p, which is the member of the next frame
    pub next_parent : {up : Option Place} → up ≡ (n (v.entry p)).parent → up ≡ above fs
    next_parent e = e ∙ side_up n v.entry d p c k.named (top b) (above fs) here.held.are.0.0.0

    pub next_side : (i : Side) → ((q : Place) → above fs ≡ Some q → IsSideOf n v p q i) → IsOn i fs
    next_side i tells = side_there v fs i p here.held.are.0.0.2 (omega (arith, here.held.once p, one_at_self p)) tells

  -- THE LOOP BEGINS: its invariant holds at an insert position of a represented tree, with two empty parts
  pub begins : {base v : Table E} {root : Option Place} {d : Side} {gap : Cut} {ps : List Piece} (parent : Option Place) → Represented n base v root (join gap) ps → IsInsertPos n v parent d gap
      → IsCutting n base v root parent d 0 nothing nothing gap ps turns
  begins {base} {v} {root} {d} {gap} {ps} None h at =
      let none : h.tree ≡ leaf = leaf_is h.tree (h.order ∙ (ap (λ (s : List Place). s ++ gap.back) at.0 ∙ at.1)) in
      let st = subst (λ (t : Tree). ClimbState n base v root [] t ps) none h.stands in (
        [],
        None,
        0,
        leaf,
        leaf,
        record {
          cut = record {
            held = regroup n (around root [] None ∷ below None leaf ∷ below None leaf ∷ ps) st (λ q. omega arith) (st.are.0, (tt, (tt, st.are.1.1)));
            left_is = nothing_is;
            right_is = nothing_is;
            front_right = right_leaf;
            back_right = right_leaf;
            pairs = tt;
            even = tt;
            front_is = sym at.0;
            back_is = sym at.1;
          };
          parent_is = refl;
          side_is = tt;
          height_is = refl;
        },
        omega arith,
      )
  begins {base} {v} {root} {d} {gap} {ps} (Some q) h at =
      let x = insert_pos n (Some q) q d gap refl h at in
      let fs : List Frame = frame d x.c q x.b ∷ x.fs in
      let o = shape_open fs leaf x.right in (
        fs,
        None,
        0,
        leaf,
        leaf,
        record {
          cut = record {
            held = regroup n (around root fs None ∷ below None leaf ∷ below None leaf ∷ ps) x.stands (λ q. omega arith) (x.stands.are.0, (tt, (tt, x.stands.are.1.1)));
            left_is = nothing_is;
            right_is = nothing_is;
            front_right = right_leaf;
            back_right = right_leaf;
            pairs = o.2;
            even = o.3;
            front_is = append-nil (before fs) ∙ x.front_is;
            back_is = x.back_is;
          };
          parent_is = refl;
          side_is = refl;
          height_is = refl;
        },
        frames_low n x.stands x.right,
      )

  -- the loop ends if the insert position has no parent: then the tree is cut apart into two trees with the members before and after the gap
  pub ends : {v : Table E} {root parent : Option Place} {d : Side} {height : ℕ} {left right : Measured} {k : CutUp E} → parent ≡ None → IsCutBelow n v root parent d height left right k
      → AreCutApart n k.base v left.root right.root k.gap k.pieces
  ends {v} {root} {parent} {d} {height} {left} {right} {k} is x = at k.frames x where
    at : (fs : List Frame) → IsCutBelow n v root parent d height left right (record k { frames = fs }) → AreCutApart n k.base v left.root right.root k.gap k.pieces
    at [] x = record {
      front = k.front;
      back = k.back;
      held = regroup n (below None k.front ∷ below None k.back ∷ k.pieces) x.cut.held (λ q. omega arith) x.cut.held.are.1;
      left_is = x.cut.left_is.root_is;
      right_is = x.cut.right_is.root_is;
      front_right = x.cut.front_right;
      back_right = x.cut.back_right;
      front_is = x.cut.front_is;
      back_is = sym (append-nil (in_order k.back)) ∙ x.cut.back_is;
    }
    at (frame i c p b ∷ fs) x = absurd (none_not p (sym is ∙ x.parent_is))

  -- if a represented tree is cut apart at a gap, the table represents both parts of its sequence for the two new trees
  pub splits : {v w : Table E} {root left right : Option Place} {gap : Cut} → Represents n v root (join gap) → AreCutApart n v w left right gap [] → Splits (Represents n) v w left right gap.front gap.back
  splits {v} {w} {root} {left} {right} {gap} h x = record {
    keeps = represents_of n front_represented;
    hands_out = represents_of n back_represented;
    frame = record {
      extent = x.held.extent;
      others = λ q out.
          let a : times q x.front ≡ times_in q gap.front = sym (times_order q x.front) ∙ ap (λ z. times_in q z) x.front_is in
          let b : times q x.back ≡ times_in q gap.back = sym (times_order q x.back) ∙ ap (λ z. times_in q z) x.back_is in
          x.held.beside q (omega (arith, a, b, times_append q gap.front gap.back, absent_times q (gap.front ++ gap.back) out));
    };
  } where
    front_represented : Represented n v w left gap.front (below None x.back ∷ [])
    front_represented = record {
      tree = x.front;
      stands = regroup n (around left [] (top x.front) ∷ below None x.front ∷ below None x.back ∷ []) x.held (λ q. omega arith) ((tt, x.left_is), x.held.are);
      order = x.front_is;
      shape = x.front_right;
    }

    back_represented : Represented n v w right gap.back (below None x.front ∷ [])
    back_represented = record {
      tree = x.back;
      stands = regroup n (around right [] (top x.back) ∷ below None x.back ∷ below None x.front ∷ []) x.held (λ q. omega arith)
          ((tt, x.right_is), (x.held.are.1.0, (x.held.are.0, tt)));
      order = x.back_is;
      shape = x.back_right;
    }
