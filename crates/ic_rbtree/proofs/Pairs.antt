-- Lemmas about two trees that are joined with a place between them.
use Rattle.std.specs.Int.{from_bool}
use Rattle.std.proofs.Common.{◌≡◌, Bool, true, false, cond, ◌+◌, ◌≤◌, ◌<◌, Option, Some, None, List, [], ◌∷◌, ◌++◌, refl, sym, ap, ◌∙◌, subst, arith, append-nil, append_assoc, drop}
use Rattle.ic_link_ops.specs.Prelude.{Place, Cut, join, insert, at_front, Table, ChangesOnly, IsLinked, IsUnlinked, one_at, times, times_in, Tree, top, in_order, top_color, IsRight}
use Rattle.ic_link_ops.specs.declared.color.Color.TheVariants.{Red, Black}
use Rattle.ic_link_ops.specs.declared.side.Side.{Side}
use Rattle.ic_link_ops.specs.declared.side.Side.TheVariants.{Left, Right}
use Rattle.ic_link_ops.proofs.Prelude.{times_order, absent_times, distinct_times, times_append, first_is, nothing_first, absent_both, distinct_insert}
use Rattle.ic_rbtree.proofs.Removing.{represents_of}
use Rattle.ic_link_ops.specs.RedBlackTree.{Node, Represents}
use Rattle.ic_link_ops.specs.Frames.{Frame, branch, plug, above, before, after}
use Rattle.ic_link_ops.proofs.Frames.{in_order_parts}
use Rattle.ic_rbtree.specs.Prelude.{height, turns, Piece, loose, below, around, ClimbState, Represented, beyond, IsBeside}
use Rattle.ic_rbtree.specs.declared.join.roots.Measured.{Measured}
use Rattle.ic_rbtree.specs.Join.{IsGraft, IsRootOf, IsSpine, Pair, ArePair, AreMeasured, AreHigh, CanJoin, RepresentsParts, Appends}
use Rattle.ic_link_ops.proofs.RepresentedTrees.{free_absent, represents_beside}
use Rattle.ic_link_ops.proofs.Trees.{leaf_is}
use Rattle.ic_rbtree.proofs.Low.{represented_low, blacks_low}
use Rattle.ic_rbtree.proofs.Pieces.{regroup}

-- if `two` is put beside a subtree at the end of the taller tree on side d, the joined tree has three parts in order. For the right side they are the
-- members of the taller tree, p, and the members of `two`. For the left side the order is mirrored
pub order_joined : (d : Side) (gs : List Frame) (u one two : Tree) (p : Place) → beyond d gs ≡ [] → plug gs u ≡ one → in_order (plug gs (branch d Red two p u)) ≡ in_order (branch d Red two p one)
order_joined Right gs u one two p nothing same =
    in_order_parts gs (branch Right Red two p u)
    ∙ ap (λ (s : List Place). before gs ++ ((in_order u ++ p ∷ in_order two) ++ s)) nothing
    ∙ ap (λ (s : List Place). before gs ++ s) (append-nil (in_order u ++ p ∷ in_order two))
    ∙ sym (append_assoc (before gs) (in_order u) (p ∷ in_order two))
    ∙ ap (λ (s : List Place). s ++ p ∷ in_order two) (ap (λ (s : List Place). before gs ++ s) (sym (append-nil (in_order u))) ∙ ap (λ (s : List Place). before gs ++ (in_order u ++ s)) (sym nothing) ∙ sym (in_order_parts gs u) ∙ ap in_order same)
order_joined Left gs u one two p nothing same =
    in_order_parts gs (branch Left Red two p u)
    ∙ ap (λ (s : List Place). s ++ ((in_order two ++ p ∷ in_order u) ++ after gs)) nothing
    ∙ append_assoc (in_order two) (p ∷ in_order u) (after gs)
    ∙ ap (λ (s : List Place). in_order two ++ p ∷ s) (ap (λ (s : List Place). s ++ (in_order u ++ after gs)) (sym nothing) ∙ sym (in_order_parts gs u) ∙ ap in_order same)

-- the number of a `bool` is 1 for true and 0 for false
pub one_more : (b : Bool) → from_bool b ≡ cond b 1 0
one_more true = refl
one_more false = refl

pub one_at_most : (b : Bool) → cond b 1 0 ≤ 1
one_at_most true = omega arith
one_at_most false = omega arith

-- the pair of trees with the two trees exchanged
abbrev pub swapped : {E : Type 0} → Pair E → Pair E
swapped k = record { base = k.base; one = k.two; two = k.one; pieces = k.pieces }

module _ {E : Type 0} (n : E → Node) {v : Table E} {one : Option Place} {p : Place} {two : Option Place} {k : Pair E} where
  module _ (x : ArePair n v one p two k) where
    pub pair_stands : ClimbState n k.base v one [] k.one (loose p ∷ below None k.two ∷ k.pieces)
    pair_stands =
        regroup n (around one [] (top k.one) ∷ below None k.one ∷ loose p ∷ below None k.two ∷ k.pieces) x.held (λ q. omega arith)
        ((tt, x.one_is), (x.held.are.1.0, (x.held.are.0, x.held.are.1.1)))

    pub pair_swapped : ArePair n v two p one (swapped k)
    pair_swapped = record {
      held = regroup n (loose p ∷ below None k.two ∷ below None k.one ∷ k.pieces) x.held (λ q. omega arith) (x.held.are.0, (x.held.are.1.1.0, (x.held.are.1.0, x.held.are.1.1.1)));
      one_is = x.two_is;
      two_is = x.one_is;
      one_right = x.two_right;
      two_right = x.one_right;
    }

    pub pair_root : IsRootOf n v one k.one
    pair_root = (None, x.held.are.1.0, x.one_is)

    pub pair_low : height k.one < turns
    pair_low = represented_low n pair_stands x.one_right

module _ {E : Type 0} (n : E → Node) {v : Table E} {one : Measured} {p : Place} {two : Measured} {k : Pair E} where
  pub measured_swapped : AreMeasured n v one p two k → AreMeasured n v two p one (swapped k)
  measured_swapped x = record { pair = pair_swapped n x.pair; one_height = x.two_height; two_height = x.one_height }

  -- the black height of a tree of the pair is less than `turns`, so it can grow by one
  pub height_low : AreMeasured n v one p two k → one.height < turns
  height_low x =
      let h = regroup n (below None k.one ∷ loose p ∷ below None k.two ∷ k.pieces) x.pair.held (λ q. omega arith) (x.pair.held.are.1.0, (x.pair.held.are.0, x.pair.held.are.1.1)) in
      omega (arith, blacks_low n k.one h x.pair.one_right.even, x.one_height)

  -- the lower tree `two` is put beside u, a subtree of the taller tree `one` with the black height of `two`
  pub pair_graft : {root near parent : Option Place} {d : Side} (x : AreHigh n v one p two k) (gs : List Frame) (u : Tree) → root ≡ one.root
      → IsSpine n k.base v one.root d k.one (loose p ∷ below None k.two ∷ k.pieces) near parent two.height gs u → top_color u ≡ Black
      → IsGraft n v root parent d near p two.root (record { base = k.base; frames = gs; near = u; far = k.two; pieces = k.pieces })
  pair_graft {root} x gs u is s black = record {
    held = regroup n (loose p ∷ around root gs (top u) ∷ below (above gs) u ∷ below None k.two ∷ k.pieces) s.stands (λ q. omega arith)
        (s.stands.are.1.1.0, ((s.stands.are.0.0, is ∙ s.stands.are.0.1), (s.stands.are.1.0, s.stands.are.1.1.1)));
    parent_is = s.parent_is;
    near_is = s.near_is;
    far_is = x.measured.pair.two_is;
    side_is = s.side_is;
    same = s.blacks_are ∙ x.measured.two_height;
    black = black;
    right = subst IsRight (sym s.same) x.measured.pair.one_right;
    far_right = x.measured.pair.two_right;
  }

module _ {E : Type 0} (n : E → Node) where
  -- a represented tree is still represented if its root and its sequence are written differently
  abbrev pub represented_as : {base w : Table E} {root new_root : Option Place} {s t : List Place} {ps : List Piece} → new_root ≡ root → s ≡ t → Represented n base w root s ps → Represented n base w new_root t ps
  represented_as {base} {w} {ps = ps} e f h = record { tree = h.tree; stands = subst (λ (o : Option Place). ClimbState n base w o [] h.tree ps) (sym e) h.stands; order = h.order ∙ f; shape = h.shape }

module _ {E : Type 0} (n : E → Node) {v : Table E} {left : Option Place} {p : Place} {right : Option Place} {gap : Cut} where
  -- if two trees can be joined with p between them, the two trees and p are pieces of the table
  module _ (x : CanJoin n v left p right gap) where
    abbrev pub joinable : Pair E
    joinable = record { base = v; one = x.front.tree; two = x.back.tree; pieces = [] }

    joinable_once : (q : Place) → one_at q p + (times q x.front.tree + (times q x.back.tree + 0)) ≤ 1
    joinable_once q =
        let a : times q x.front.tree ≡ times_in q gap.front = sym (times_order q x.front.tree) ∙ ap (λ z. times_in q z) x.front.held.order in
        let b : times q x.back.tree ≡ times_in q gap.back = sym (times_order q x.back.tree) ∙ ap (λ z. times_in q z) x.back.held.order in
        omega (arith, a, b, distinct_times (insert gap p) x.distinct q, times_append q gap.front (p ∷ gap.back))

    pub joinable_pair : {one two : Option Place} → one ≡ left → two ≡ right → ArePair n v one p two joinable
    joinable_pair e f = record {
      held = record {
        are = (x.linked, (x.front.held.entries, (x.back.held.entries, tt)));
        once = joinable_once;
        beside = λ q none. refl;
        linked = λ q. refl;
        extent = refl;
      };
      one_is = e ∙ x.front.starts;
      two_is = f ∙ x.back.starts;
      one_right = x.front.shape;
      two_right = x.back.shape;
    }

    -- the joined tree has the sequence of both trees, with p between them
    pub joined : {w : Table E} {root : Option Place} → Represented n v w root (in_order x.front.tree ++ p ∷ in_order x.back.tree) [] → Represented n v w root (insert gap p) []
    joined {w} {root} h =
        let same : in_order x.front.tree ++ p ∷ in_order x.back.tree ≡ insert gap p =
        ap (λ (z : List Place). z ++ p ∷ in_order x.back.tree) x.front.held.order ∙ ap (λ (z : List Place). gap.front ++ p ∷ z) x.back.held.order in
        subst (λ z. Represented n v w root z []) same h

  -- two trees that share no member can be joined with a place between them that has just been linked
  pub can_join : {old : Table E} (linked : E → Bool) → ((e : E) → (n e).linked ≡ linked e) → IsUnlinked linked old p → IsLinked linked v p → ChangesOnly old v p
      → RepresentsParts (Represents n) old left right gap → CanJoin n v left p right gap
  can_join {old} linked alike was is only h =
      let free = alike (old.entry p) ∙ was in
      let out = free_absent h.front free in
      let out_back = free_absent h.back free in
      record {
        front = represents_beside h.front out only.others;
        back = represents_beside h.back out_back only.others;
        linked = alike (v.entry p) ∙ is;
        distinct = distinct_insert gap.front gap.back p h.distinct (absent_both p gap.front gap.back out out_back);
      }

module _ {E : Type 0} (n : E → Node) {v : Table E} {left right : Option Place} {gap : Cut} (x : RepresentsParts (Represents n) v left right gap) where
  -- the table has the second tree, and beside it the first tree as a piece
  pub beside_represented : Represented n v v right gap.back (below None x.front.tree ∷ [])
  beside_represented = record {
    tree = x.back.tree;
    stands = record {
      are = ((tt, x.back.starts), (x.back.held.entries, (x.front.held.entries, tt)));
      once = once;
      beside = λ q none. refl;
      linked = λ q. refl;
      extent = refl;
    };
    order = x.back.held.order;
    shape = x.back.shape;
  } where
    once : (q : Place) → 0 + (times q x.back.tree + (times q x.front.tree + 0)) ≤ 1
    once q =
        let a : times q x.front.tree ≡ times_in q gap.front = sym (times_order q x.front.tree) ∙ ap (λ z. times_in q z) x.front.held.order in
        let b : times q x.back.tree ≡ times_in q gap.back = sym (times_order q x.back.tree) ∙ ap (λ z. times_in q z) x.back.held.order in
        omega (arith, a, b, distinct_times (join gap) x.distinct q, times_append q gap.front gap.back)

  -- if a step from null to the right in the second tree leads to p, then p is the first member of the second tree
  pub first_there : {o : Option Place} {p : Place} → ((g : Cut) → Represents n v right (join g) → IsBeside Right g None → IsBeside Left g o) → o ≡ Some p → gap.back ≡ p ∷ drop 1 gap.back
  first_there {o} {p} leads is = first_is gap.back (sym is ∙ leads (at_front gap.back) x.back refl)

  pub none_there : {o : Option Place} → ((g : Cut) → Represents n v right (join g) → IsBeside Right g None → IsBeside Left g o) → o ≡ None → gap.back ≡ []
  none_there {o} leads is = nothing_first gap.back (sym is ∙ leads (at_front gap.back) x.back refl)

  pub first_represented : {p : Place} → gap.back ≡ p ∷ drop 1 gap.back → Represented n v v right (p ∷ drop 1 gap.back) (below None x.front.tree ∷ [])
  first_represented {p} is = subst (λ z. Represented n v v right z (below None x.front.tree ∷ [])) is beside_represented

  -- after the first member p of the second tree is removed, the two trees can be joined with p between them
  module _ {w : Table E} {new_right : Option Place} {p : Place} (h : Represented n v w new_right (drop 1 gap.back) (loose p ∷ below None x.front.tree ∷ [])) where
    abbrev pub rest_joinable : Pair E
    rest_joinable = record { base = v; one = x.front.tree; two = h.tree; pieces = [] }

    pub rest_pair : {one two : Option Place} → one ≡ left → two ≡ new_right → ArePair n w one p two rest_joinable
    rest_pair e f = record {
      held = regroup n (loose p ∷ below None x.front.tree ∷ below None h.tree ∷ []) h.stands (λ q. omega arith) (h.stands.are.1.1.0, (h.stands.are.1.1.1.0, (h.stands.are.1.0, tt)));
      one_is = e ∙ x.front.starts;
      two_is = f ∙ h.stands.are.0.1;
      one_right = x.front.shape;
      two_right = h.shape;
    }

    -- the joined tree has all members of the first tree, then p, and then the rest of the second tree
    pub appends : {u : Table E} {root : Option Place} → gap.back ≡ p ∷ drop 1 gap.back → Represented n v u root (in_order x.front.tree ++ p ∷ in_order h.tree) [] → Appends (Represents n) v u root gap
    appends {u} {root} is k =
        let same : in_order x.front.tree ++ p ∷ in_order h.tree ≡ join gap =
        ap (λ (z : List Place). z ++ p ∷ in_order h.tree) x.front.held.order ∙ ap (λ (z : List Place). gap.front ++ p ∷ z) h.order ∙ ap (λ (z : List Place). gap.front ++ z) (sym is) in
        record {
          shows = subst (λ z. Represents n u root z) same (represents_of n k);
          frame = record {
            extent = k.stands.extent;
            others = λ q out.
                let none : times q k.tree ≡ 0 = sym (times_order q k.tree) ∙ (ap (λ z. times_in q z) (k.order ∙ same) ∙ absent_times q (join gap) out) in
                k.stands.beside q (omega (arith, none));
          };
        }

  pub no_root_there : gap.back ≡ [] → right ≡ None
  no_root_there none = x.back.starts ∙ ap top (leaf_is x.back.tree (x.back.held.order ∙ none))

  -- if the second tree has no members, nothing is appended, and the first tree is the result
  pub appends_none : gap.back ≡ [] → Appends (Represents n) v v left gap
  appends_none none =
      let same : gap.front ≡ join gap = sym (append-nil gap.front) ∙ ap (λ (z : List Place). gap.front ++ z) (sym none) in
      record { shows = subst (λ z. Represents n v left z) same x.front; frame = record { extent = refl; others = λ q out. refl } }
