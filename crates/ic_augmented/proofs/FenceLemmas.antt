-- An edit of a table with a fence makes the same edit in the table without the fence: a place is inserted or removed.
use Rattle.std.proofs.Common.{◌≡◌, ◌≤◌, ◌+◌, ℕ, zero, suc, Bool, true, false, ◌&&◌, Option, Some, None, List, [], ◌∷◌, ◌++◌, refl, sym, ap, ◌∙◌, subst, arith, inl, inr}
use Rattle.std.proofs.lemmas.Bool.{and_from}
use Rattle.std.proofs.Math.Nat.{le-max_left, le-max_right}
use Rattle.ic_link_ops.specs.Prelude.{Place, Cut, Table, one_at, times, times_in, Tree, leaf, fork, top, in_order}
use Rattle.ic_link_ops.proofs.Prelude.{same_or_not, none_not, some_same, one_at_self, one_at_other, times_append, times_order}
use Rattle.ic_link_ops.specs.declared.side.Side.{Side}
use Rattle.ic_link_ops.specs.declared.side.Side.TheVariants.{Left, Right}
use Rattle.ic_link_ops.specs.RedBlackTree.{Node, IsTree, Represents}
use Rattle.ic_link_ops.proofs.Frames.{tree_same, side_same, around_same}
use Rattle.ic_rbtree.specs.Prelude.{IsIn, IsClosedBut, IsClosed, IsSafe, IsSafeBut, KeepsNodes, height, IsInsertPos, Attaches, TakesAway}
use Rattle.ic_rbtree.specs.Pieces.{Piece, cell, loose, below, around, times_all, times_piece, IsPiece, ArePieces, Represented}
use Rattle.ic_rbtree.proofs.Climbed.{path_few}
use Rattle.ic_rbtree.proofs.Removing.{represented_of, represents_of}
use Rattle.ic_rbtree.proofs.RepresentedClosed.{among, with_place}
use Rattle.ic_augmented.specs.Fences.{fenced, fenced_node}
use Rattle.ic_augmented.proofs.ConsistencyLemmas.{where_is}

-- a place that counts as linked with the fence is inside the fence, and it is linked
pub and_left : (a b : Bool) → a && b ≡ true → a ≡ true
and_left true b e = refl
and_left false b e = e

pub and_right : (a b : Bool) → a && b ≡ true → b ≡ true
and_right true b e = e
and_right false b e = cc

some_of : (k : ℕ) → (k ≡ 0 → ⊥) → 1 ≤ k
some_of zero m = absurd (m refl)
some_of (suc k) m = omega arith

times_on : (q : Place) (xs ps : List Piece) → times_all q (xs ++ ps) ≡ times_all q xs + times_all q ps
times_on q [] ps = omega arith
times_on q (x ∷ xs) ps = omega (arith, times_on q xs ps)

-- if the tree u has the members of the tree t and also p, it has p once more than t, and each other place as often as t
counted : (q : Place) (front : List Place) (p : Place) (back : List Place) (t : Tree) → in_order t ≡ front ++ back → (u : Tree) → in_order u ≡ front ++ p ∷ back
    → times q u + 0 ≡ times q t + (one_at q p + 0)
counted q front p back t e u f = omega (arith, times_order q u, ap (times_in q) f, times_append q front (p ∷ back), times_order q t, ap (times_in q) e, times_append q front back)

module _ {E : Type 0} (n : E → Node) where
  -- the members of the subtree at the end `o`, which are read from the entries, down to a depth of at most k
  abbrev listed : (Place → E) → ℕ → Option Place → List Place
  listed entry zero o = []
  listed entry (suc k) None = []
  listed entry (suc k) (Some p) = listed entry k (n (entry p)).left ++ p ∷ listed entry k (n (entry p)).right

  listed_none : (entry : Place → E) (k : ℕ) → listed entry k None ≡ []
  listed_none entry zero = refl
  listed_none entry (suc k) = refl

  listed_tree : (entry : Place → E) (up : Option Place) (t : Tree) (k : ℕ) (o : Option Place) → IsTree n entry up t → o ≡ top t → height t ≤ k → listed entry k o ≡ in_order t
  listed_tree entry up leaf k o h e low = ap (λ (x : Option Place). listed entry k x) e ∙ listed_none entry k
  listed_tree entry up (fork c a p b) zero o h e low = absurd (omega (arith, low))
  listed_tree entry up (fork c a p b) (suc k) o h e low =
      let left = listed_tree entry (Some p) a k (n (entry p)).left h.1 h.0.left (omega (arith, low, le-max_left (height a) (height b))) in
      let right = listed_tree entry (Some p) b k (n (entry p)).right h.2 h.0.right (omega (arith, low, le-max_right (height a) (height b))) in
      ap (λ (x : Option Place). listed entry (suc k) x) e
      ∙ (ap (λ (z : List Place). z ++ p ∷ listed entry k (n (entry p)).right) left ∙ ap (λ (z : List Place). in_order a ++ p ∷ z) right)

  -- A REPRESENTED TREE has the members that are read from the entries below its root
  listed_represented : {v : Table E} {root : Option Place} {s : List Place} → Represents n v root s → listed v.entry 67 root ≡ s
  listed_represented {v} {root} {s} h =
      let low : height h.tree ≤ 66 = path_few n h [] h.tree (height h.tree) refl (omega arith) in
      listed_tree v.entry None h.tree 67 root h.held.entries h.starts (omega (arith, low)) ∙ h.held.order

  -- THE FENCE OF A REMOVAL has the members that are read from the entries at the root and below
  pub members_of : (v : Table E) (root : Option Place) → Place → Bool
  members_of v root q = among q (listed v.entry 67 root)

  pub members_are : {v : Table E} {root : Option Place} {s : List Place} → Represents n v root s → members_of v root ≡ λ q. among q s
  unfolding members_of
  members_are {v} {root} {s} h = ap {B = Place → Bool} (λ (z : List Place). λ (q : Place). among q z) (listed_represented h)

  -- THE FENCE OF AN INSERT has the members and the inserted place
  pub fence_of : (v : Table E) (root : Option Place) (p : Place) → Place → Bool
  fence_of v root p = with_place p (listed v.entry 67 root)

  pub fence_is : {v : Table E} {root : Option Place} {s : List Place} (p : Place) → Represents n v root s → fence_of v root p ≡ with_place p s
  unfolding fence_of
  fence_is p h = ap (λ (z : List Place). with_place p z) (listed_represented h)

  -- parts of a tree depend only on the entries of their own members
  piece_same : (old new : Place → E) (x : Piece) → ((q : Place) → (times_piece q x ≡ 0 → ⊥) → new q ≡ old q) → IsPiece n old x → IsPiece n new x
  piece_same old new (cell d p c near far up) same h = side_same n old new d p c near far up (same p (λ e. absurd (omega (arith, e, one_at_self p)))) h
  piece_same old new (loose p) same h = ap (λ (x : E). (n x).linked) (same p (λ e. absurd (omega (arith, e, one_at_self p)))) ∙ h
  piece_same old new (below up t) same h = tree_same n old new up t same h
  piece_same old new (around root fs o) same h = (around_same n old new fs o same h.0, h.1)

  pieces_same : (old new : Place → E) (ps : List Piece) → ((q : Place) → (times_all q ps ≡ 0 → ⊥) → new q ≡ old q) → ArePieces n old ps → ArePieces n new ps
  pieces_same old new [] same h = tt
  pieces_same old new (x ∷ ps) same h =
      (piece_same old new x (λ q m. same q (λ e. m (omega (arith, e)))) h.0, pieces_same old new ps (λ q m. same q (λ e. m (omega (arith, e)))) h.1)

  -- if two lists of parts are right in a table, the joined list is right
  pieces_on : (entry : Place → E) (xs ps : List Piece) → ArePieces n entry xs → ArePieces n entry ps → ArePieces n entry (xs ++ ps)
  pieces_on entry [] ps h k = k
  pieces_on entry (x ∷ xs) ps h k = (h.0, pieces_on entry xs ps h.1 k)

  pieces_after : (entry : Place → E) (xs ps : List Piece) → ArePieces n entry (xs ++ ps) → ArePieces n entry ps
  pieces_after entry [] ps h = h
  pieces_after entry (x ∷ xs) ps h = pieces_after entry xs ps h.1

  module _ (inside : Place → Bool) where
    -- A TREE WHOSE MEMBERS ARE ALL INSIDE THE FENCE is a tree with the fence, and a tree with the fence is a tree without it
    tree_in : (entry : Place → E) (up : Option Place) (t : Tree) → ((q : Place) → 1 ≤ times q t → inside q ≡ true) → IsTree n entry up t → IsTree (fenced_node n) (λ q. (inside q, entry q)) up t
    tree_in entry up leaf all h = tt
    tree_in entry up (fork c a p b) all h = (
      record { linked = and_from _ _ (all p (omega (arith, one_at_self p))) h.0.linked; left = h.0.left; right = h.0.right; parent = h.0.parent; color = h.0.color },
      tree_in entry (Some p) a (λ q m. all q (omega (arith, m))) h.1,
      tree_in entry (Some p) b (λ q m. all q (omega (arith, m))) h.2,
    )

    tree_out : (entry : Place → E) (up : Option Place) (t : Tree) → IsTree (fenced_node n) (λ q. (inside q, entry q)) up t → IsTree n entry up t
    tree_out entry up leaf h = tt
    tree_out entry up (fork c a p b) h = (
      record { linked = and_right _ _ h.0.linked; left = h.0.left; right = h.0.right; parent = h.0.parent; color = h.0.color },
      tree_out entry (Some p) a h.1,
      tree_out entry (Some p) b h.2,
    )

    insert_pos_after : (v : Table E) (parent : Option Place) (d : Side) (gap : Cut) → IsInsertPos n v parent d gap → IsInsertPos (fenced_node n) (fenced inside v) parent d gap
    insert_pos_after v None d gap h = h
    insert_pos_after v (Some q) Left gap h = h
    insert_pos_after v (Some q) Right gap h = h

    module _ {v : Table E} {root but : Option Place} (closed : IsClosedBut n v root but inside) where
      -- if the fence is closed in the table, it is also closed in the table with the fence
      closed_after : IsClosedBut (fenced_node n) (fenced inside v) root but inside
      closed_after = record { linked = λ q m. and_from _ _ m (closed.linked q m); left = closed.left; right = closed.right; parent = closed.parent; starts = closed.starts }

      -- a closed set with the root of a tree has all members of the tree
      members_inside : (up : Option Place) (t : Tree) → IsTree n v.entry up t → IsIn inside (top t) → ((x : Place) → 1 ≤ times x t → but ≡ Some x → ⊥) → (q : Place) → 1 ≤ times q t → inside q ≡ true
      members_inside up leaf h i out q m = absurd (omega (arith, m))
      members_inside up (fork c a x b) h i out q m =
          let other = out x (omega (arith, one_at_self x)) in
          elim (where_is (times q a) (one_at q x + times q b) (omega (arith, m))) [
            | inl k ↦ members_inside (Some x) a h.1 (subst (λ (o : Option Place). IsIn inside o) h.0.left (closed.left x i other)) (λ y j. out y (omega (arith, j))) q k
            | inr k ↦ elim (same_or_not q x) [
              | inl e ↦ subst (λ (y : Place). inside y ≡ true) (sym e) i
              | inr apart ↦ members_inside (Some x) b h.2 (subst (λ (o : Option Place). IsIn inside o) h.0.right (closed.right x i other)) (λ y j. out y (omega (arith, j))) q (omega (arith, k, one_at_other q x apart))
            ]
          ]

      -- a tree that is represented beside the parts `xs` and `ps` is also represented with the fence, beside the parts `xs`
      module _ {base : Table E} {s : List Place} (xs ps : List Piece) (h : Represented n base v root s (xs ++ ps)) (out : (x : Place) → 1 ≤ times x h.tree → but ≡ Some x → ⊥) where
        represented_after : ArePieces (fenced_node n) (λ q. (inside q, v.entry q)) xs → Represented (fenced_node n) (fenced inside v) (fenced inside v) root s xs
        represented_after here = record {
          tree = h.tree;
          stands = record {
            are = ((tt, h.stands.are.0.1), (tree_in v.entry None h.tree (members_inside None h.tree h.stands.are.1.0 (subst (λ (o : Option Place). IsIn inside o) h.stands.are.0.1 closed.starts) out) h.stands.are.1.0, here));
            once = λ q. omega (arith, h.stands.once q, times_on q xs ps);
            beside = λ q none. refl;
            linked = λ q. refl;
            extent = refl;
          };
          order = h.order;
          shape = h.shape;
        }

        -- if the result of an edit with the fence is a tree beside the parts `ys`, the result without the fence is this tree beside the parts `ys` and `ps`
        module _ {w : Table E} {new_root : Option Place} {u : List Place} (ys : List Piece) (linked : KeepsNodes n v w) (r : Represented (fenced_node n) (fenced inside v) (fenced inside w) new_root u ys)
            (count : (q : Place) → times q r.tree + times_all q ys ≡ times q h.tree + times_all q xs) (are : ArePieces n w.entry ys) where
          kept : (q : Place) → times q r.tree + times_all q ys ≡ 0 → w.entry q ≡ v.entry q
          kept q none = ap (λ (e : Bool × E). e.1) (r.stands.beside q (omega (arith, none)))

          represented_before : Represented n base w new_root u (ys ++ ps)
          represented_before = record {
            tree = r.tree;
            stands = record {
              are = (
                (tt, r.stands.are.0.1),
                (
                  tree_out w.entry None r.tree r.stands.are.1.0,
                  pieces_on w.entry ys ps are (pieces_same v.entry w.entry ps (λ q m. kept q (omega (arith, h.stands.once q, count q, times_on q xs ps, some_of (times_all q ps) m))) (pieces_after v.entry xs ps h.stands.are.1.1)),
                ),
              );
              once = λ q. omega (arith, h.stands.once q, count q, times_on q xs ps, times_on q ys ps);
              beside = λ q none. kept q (omega (arith, none, times_on q ys ps)) ∙ h.stands.beside q (omega (arith, none, count q, times_on q xs ps, times_on q ys ps));
              linked = λ q. linked q ∙ h.stands.linked q;
              extent = r.stands.extent ∙ h.stands.extent;
            };
            order = r.order;
            shape = r.shape;
          }

    -- the place p is inserted, and the fence is closed except at p
    module _ {v : Table E} {root : Option Place} {p : Place} (closed : IsClosedBut n v root (Some p) inside) (here : inside p ≡ true) where
      pub safe_after : (parent : Option Place) → IsIn inside parent → IsSafeBut (fenced_node n) (fenced inside v) root p (Some p ∷ parent ∷ [])
      safe_after parent i = (inside, closed_after closed, (here, (i, tt)))

      -- IF A PLACE WAS INSERTED in the table with the fence, it was inserted in the table without the fence
      pub attached_before : {w : Table E} {new_root : Option Place} (parent : Option Place) (d : Side) → KeepsNodes n v w
          → Attaches (fenced_node n) (fenced inside v) (fenced inside w) root new_root parent d p → Attaches n v w root new_root parent d p
      attached_before {w} {new_root} parent d linked done base gap ps h insert_pos =
          let out : (x : Place) → 1 ≤ times x h.tree → Some p ≡ Some x → ⊥ =
          λ x m e. let k : times x h.tree + one_at x p ≤ 1 = omega (arith, h.stands.once x) in let one : one_at x p ≡ 1 = subst (λ (y : Place). one_at y p ≡ 1) (some_same e) (one_at_self p) in omega (arith, m, k, one) in
          let r = done (fenced inside v) gap [] (represented_after closed (loose p ∷ []) ps h out (and_from _ _ here h.stands.are.1.1.0, tt)) (insert_pos_after v parent d gap insert_pos) in
          represented_before closed (loose p ∷ []) ps h out [] linked r (λ q. counted q gap.front p gap.back h.tree h.order r.tree r.order) tt

    -- a member is removed, and the fence is closed
    module _ {v : Table E} {root : Option Place} (closed : IsClosed n v root inside) where
      pub safe_within : {p : Place} → inside p ≡ true → IsSafe (fenced_node n) (fenced inside v) root (Some p ∷ [])
      safe_within here = (inside, closed_after closed, (here, tt))

      pub represents_after : {s : List Place} → Represents n v root s → Represents (fenced_node n) (fenced inside v) root s
      represents_after h = represents_of (fenced_node n) (represented_after closed [] [] (represented_of n h) (λ x m e. none_not x e) tt)

      -- IF A MEMBER WAS REMOVED in the table with the fence, it was removed in the table without the fence
      pub taken_before : {p : Place} {w : Table E} {new_root : Option Place} → KeepsNodes n v w → TakesAway (fenced_node n) (fenced inside v) (fenced inside w) root new_root p → TakesAway n v w root new_root p
      taken_before {p} {w} {new_root} linked done base front back ps h =
          let out : (x : Place) → 1 ≤ times x h.tree → None ≡ Some x → ⊥ = λ x m e. none_not x e in
          let r = done (fenced inside v) front back [] (represented_after closed [] ps h out tt) in
          represented_before closed [] ps h out (loose p ∷ []) linked r (λ q. let k = counted q front p back r.tree r.order h.tree h.order in omega (arith, k)) (and_right _ _ r.stands.are.1.1.0, tt)
