-- A member is removed from a tree: it is found in the sequence, taken out of the tree, and unlinked.
use Rattle.std.proofs.Common.{◌≡◌, ◌<◌, Bool, inl, inr, true, false, Option, Some, None, List, [], ◌∷◌, ◌++◌, refl, sym, ap, ◌∙◌, subst, arith, append-nil, append_assoc, drop, length}
use Rattle.std.proofs.lemmas.List.{append_cancel_left}
use Rattle.ic_link_ops.specs.Prelude.{Place, Cut, join, first, IsAbsent, IsDistinct, Table, ChangesOnly, Removes, Tree, leaf, fork, top, in_order, IsRight, one_at, times, times_in}
use Rattle.ic_link_ops.specs.declared.color.Color.{Color}
use Rattle.ic_link_ops.specs.declared.side.Side.{Side}
use Rattle.ic_link_ops.specs.declared.side.Side.TheVariants.{Left, Right}
use Rattle.ic_link_ops.specs.RedBlackTree.{Node, Represents}
use Rattle.ic_link_ops.specs.Frames.{Frame, frame, branch, plug, before, after}
use Rattle.ic_link_ops.proofs.Prelude.{none_not, some_same, one_at_self, apart, times_order, times_distinct, times_absent, absent_times, times_append, holds_once}
use Rattle.ic_link_ops.proofs.Frames.{focus, in_order_parts}
use Rattle.ic_link_ops.proofs.RepresentedTrees.{represents_beside}
use Rattle.ic_rbtree.specs.Prelude.{turns, Piece, loose, ClimbState, Represented}
use Rattle.ic_rbtree.specs.Sides.{IsOutermostWithin}
use Rattle.ic_rbtree.specs.Transplants.{Parts, only, IsLone, both_of, IsRightOrShort, SplicesOut, TakesPlace}
use Rattle.ic_rbtree.proofs.Zipper.{go_down, go_top}
use Rattle.ic_rbtree.proofs.InsertionShapes.{right_plug}
use Rattle.ic_rbtree.proofs.RemovalShapes.{shape_open}
use Rattle.ic_rbtree.proofs.Low.{represented_low, frames_low}
use Rattle.ic_rbtree.proofs.NextInPlace.{way, short_placed, length_same}
use Rattle.ic_rbtree.proofs.Transplants.{order_only}

-- the sequence of a tree around a member p has the members before p, then p, and then the members after p
pub order_around : (fs : List Frame) (c : Color) (a : Tree) (p : Place) (b : Tree) (front back : List Place) → before fs ++ in_order a ≡ front → in_order b ++ after fs ≡ back
    → in_order (plug fs (fork c a p b)) ≡ front ++ p ∷ back
order_around fs c a p b front back ef eb =
    in_order_parts fs (fork c a p b)
    ∙ ap (λ (s : List Place). before fs ++ s) (append_assoc (in_order a) (p ∷ in_order b) (after fs))
    ∙ sym (append_assoc (before fs) (in_order a) (p ∷ (in_order b ++ after fs)))
    ∙ ap (λ (s : List Place). s ++ p ∷ (in_order b ++ after fs)) ef
    ∙ ap (λ (s : List Place). front ++ p ∷ s) eb

-- if another place q replaces p in a tree of the right shape, with the color of p, the shape stays right
pub renamed : (fs : List Frame) (c : Color) (a : Tree) (p q : Place) (b : Tree) → IsRight (plug fs (fork c a p b)) → IsRight (plug fs (fork c a q b))
renamed fs c a p q b r =
    let o = shape_open fs (fork c a p b) r in right_plug fs (fork c a q b) o.0 o.1 o.2 o.3 o.4

abbrev pub parts : Color → Tree → Tree → Parts
parts c a b = record { color = c; left = a; right = b }

module _ {E : Type 0} (n : E → Node) where
  pub go_into : {base v : Table E} (root : Option Place) (fs : List Frame) (t : Tree) (ps : List Piece) → ClimbState n base v root [] (plug fs t) ps → ClimbState n base v root fs t ps
  go_into root [] t ps h = h
  go_into root (frame d c p b ∷ fs) t ps h = go_down n d c p b t (go_into root fs (branch d c t p b) ps h)

  -- THE POSITION OF A MEMBER p in the tree, found from the members before p and after p: the frames above p, its color, and its two subtrees
  pub record PositionWithNext (base v : Table E) (root : Option Place) (front : List Place) (p : Place) (back : List Place) (ps : List Piece) : Type 0 where
    pub fs : List Frame
    pub c : Color
    pub a : Tree
    pub b : Tree
    pub stands : ClimbState n base v root fs (fork c a p b) ps
    pub right : IsRight (plug fs (fork c a p b))
    pub front_is : before fs ++ in_order a ≡ front
    pub back_is : in_order b ++ after fs ≡ back

  pub spot : {base v : Table E} {root : Option Place} (front : List Place) (p : Place) (back : List Place) {ps : List Piece} → Represented n base v root (front ++ p ∷ back) ps → PositionWithNext base v root front p back ps
  spot {base} {v} {root} front p back {ps} h =
      let f = focus h.tree [] front p back h.order in
      record {
        fs = f.0;
        c = f.1;
        a = f.2;
        b = f.3;
        stands = go_into root f.0 (fork f.1 f.2 p f.3) ps (subst (λ (x : Tree). ClimbState n base v root [] x ps) (sym f.4) h.stands);
        right = subst (λ (x : Tree). IsRight x) (sym f.4) h.shape;
        front_is = f.5;
        back_is = f.6 ∙ append-nil back;
      }

  -- if the place z takes the place of the member p, the table represents the sequence with z instead of p
  pub placed : {base w u : Table E} {root1 root2 : Option Place} {front : List Place} {p : Place} {back : List Place} {ps : List Piece} (z : Place)
      → PositionWithNext base w root1 front p back (loose z ∷ ps) → TakesPlace n w u root1 root2 p z → Represented n base u root2 (front ++ z ∷ back) (loose p ∷ ps)
  placed {base} {w} {u} {root1} {root2} {front} {p} {back} {ps} z x swapped = record {
    tree = plug x.fs (fork x.c x.a z x.b);
    stands = go_top n (swapped base x.fs (parts x.c x.a x.b) ps x.stands);
    order = order_around x.fs x.c x.a z x.b front back x.front_is x.back_is;
    shape = renamed x.fs x.c x.a p z x.b x.right;
  }

  module _ {base v : Table E} {root : Option Place} {front : List Place} {p : Place} {back : List Place} {ps : List Piece} (x : PositionWithNext base v root front p back ps) where
    pub spot_linked : (n (v.entry p)).linked ≡ true
    spot_linked = x.stands.are.1.0.0.linked

    -- if p does not have both children, one of its subtrees is empty
    pub lone : (o : Option Place) → o ≡ both_of (n (v.entry p)).left (n (v.entry p)).right → o ≡ None → IsLone x.a x.b
    lone o eo none =
        let at = x.stands.are.1.0.0 in
        pick x.a x.b (sym (ap (λ (y : Option Place). both_of y (top x.b)) at.left) ∙ (sym (ap (λ (y : Option Place). both_of (n (v.entry p)).left y) at.right) ∙ (sym eo ∙ none)))
      where
        pick : (a b : Tree) → both_of (top a) (top b) ≡ None → IsLone a b
        pick leaf b e = inl refl
        pick (fork c a q b) leaf e = inr refl
        pick (fork c a q b) (fork k l r m) e = absurd (none_not r (sym e))

    -- the tree without p is right, or its paths on side d of `up` have one black member too few. p is a piece of its own
    abbrev pub Remains : Table E → Option Place → Bool → Option Place → Side → Type 0
    Remains w new_root short up d =
        (fs : List Frame) × (t : Tree) × (length fs < turns)
        × IsRightOrShort n w new_root short up d (record { base = base; sequence = front ++ back; frames = fs; subtree = t; pieces = loose p ∷ ps })

    pub lone_taken : {w : Table E} {new_root up : Option Place} {short : Bool} {d : Side} (o : Option Place) → o ≡ both_of (n (v.entry p)).left (n (v.entry p)).right → o ≡ None
        → SplicesOut n v w root new_root p short up d → Remains w new_root short up d
    lone_taken {w} {new_root} {up} {short} {d} o eo none taken =
        let one = lone o eo none in (
          x.fs,
          only x.a x.b,
          frames_low n x.stands x.right,
          subst (λ (s : List Place). IsRightOrShort n w new_root short up d (record { base = base; sequence = s; frames = x.fs; subtree = only x.a x.b; pieces = loose p ∷ ps }))
              (joined x.fs x.a x.b one x.front_is x.back_is) (taken base x.fs (parts x.c x.a x.b) ps x.stands one x.right),
        )
      where
        joined : (fs : List Frame) (a b : Tree) → IsLone a b → before fs ++ in_order a ≡ front → in_order b ++ after fs ≡ back → before fs ++ (in_order (only a b) ++ after fs) ≡ front ++ back
        joined fs a b one ef eb =
            ap (λ (z : List Place). before fs ++ (z ++ after fs)) (order_only a b one)
            ∙ (ap (λ (z : List Place). before fs ++ z) (append_assoc (in_order a) (in_order b) (after fs))
            ∙ (sym (append_assoc (before fs) (in_order a) (in_order b ++ after fs)) ∙ (ap (λ (z : List Place). z ++ (in_order b ++ after fs)) ef ∙ ap (λ (z : List Place). front ++ z) eb)))

    -- if p has both children, the next member is the leftmost member of the right subtree of p
    module _ (r : Place) (o : Option Place) (eo : o ≡ both_of (n (v.entry p)).left (n (v.entry p)).right) (is : o ≡ Some r) where
      right_top : top x.b ≡ Some r
      right_top =
          let at = x.stands.are.1.0.0 in
          sym at.right ∙ pick (n (v.entry p)).left (n (v.entry p)).right (sym eo ∙ is) where
            pick : (l k : Option Place) → both_of l k ≡ Some r → k ≡ Some r
            pick None k e = absurd (none_not r e)
            pick (Some l) k e = e

      right_stands : ClimbState n base v root (frame Right x.c p x.a ∷ x.fs) x.b ps
      right_stands = go_down n Right x.c p x.a x.b x.stands

      module _ (z : Place) (leftmost : IsOutermostWithin n v r Left z) where
        -- THE NEXT MEMBER z has no left child. The record has the frames above z, its color, and its right subtree
        pub record Next : Type 0 where
          pub gs : List Frame
          pub k : Color
          pub m : Tree
          pub stands : ClimbState n base v root gs (fork k leaf z m) ps
          pub right : IsRight (plug gs (fork k leaf z m))
          pub back_is : back ≡ z ∷ (in_order m ++ after gs)
          pub start : before gs ≡ front ++ p ∷ []
          pub order : before gs ++ (in_order m ++ after gs) ≡ front ++ p ∷ (in_order m ++ after gs)

        pub next : Next
        next =
            let l = leftmost base root (frame Right x.c p x.a ∷ x.fs) x.b ps right_stands right_top (represented_low n x.stands x.right) in
            let rest : List Place = in_order l.b ++ after l.gs in
            let start : before l.gs ≡ front ++ p ∷ [] = l.beside ∙ (sym (append_assoc (before x.fs) (in_order x.a) (p ∷ [])) ∙ ap (λ (s : List Place). s ++ p ∷ []) x.front_is) in
            let glued : (s : List Place) → before l.gs ++ s ≡ front ++ p ∷ s = λ s. ap (λ (t : List Place). t ++ s) start ∙ append_assoc front (p ∷ []) s in
            let old : in_order (plug x.fs (fork x.c x.a p x.b)) ≡ front ++ p ∷ back =
            order_around x.fs x.c x.a p x.b front back x.front_is x.back_is in
            let new : in_order (plug l.gs (fork l.c leaf z l.b)) ≡ front ++ p ∷ (z ∷ rest) = in_order_parts l.gs (fork l.c leaf z l.b) ∙ glued (z ∷ rest) in
            let same : front ++ p ∷ back ≡ front ++ p ∷ (z ∷ rest) = sym old ∙ (sym (ap in_order l.same) ∙ new) in
            let tail : p ∷ back ≡ p ∷ (z ∷ rest) = append_cancel_left front (p ∷ back) (p ∷ (z ∷ rest)) same in
            record {
              gs = l.gs;
              k = l.c;
              m = l.b;
              stands = go_into root l.gs (fork l.c leaf z l.b) ps (subst (λ (t : Tree). ClimbState n base v root [] t ps) (sym l.same) (go_top n right_stands));
              right = subst (λ (t : Tree). IsRight t) (sym l.same) x.right;
              back_is = cc;
              start = start;
              order = glued rest;
            }

        next_out : {w : Table E} {new_root up : Option Place} {short : Bool} {d : Side} → SplicesOut n v w root new_root z short up d → short ≡ false
            → Represented n base w new_root (front ++ p ∷ (in_order next.m ++ after next.gs)) (loose z ∷ ps)
        next_out {w} {new_root} taken e =
            subst (λ (s : List Place). Represented n base w new_root s (loose z ∷ ps)) next.order
            ((taken base next.gs (parts next.k leaf next.m) ps next.stands (inl refl) next.right).0 e)

        -- the next member z takes the position of p. The parent of the short subtree stays, or it becomes z if it was p
        pub place_taken : {w u : Table E} {root1 root2 up up' : Option Place} {short : Bool} {d : Side} → SplicesOut n v w root root1 z short up d → TakesPlace n w u root1 root2 p z
            → (up ≡ Some p → up' ≡ Some z) → ((up ≡ Some p → ⊥) → up' ≡ up) → Remains u root2 short up' d
        place_taken {w} {u} {root1} {root2} {up} {up'} {short} {d} taken swapped moved kept =
            let k = way next.gs front p next.start in
            let fs : List Frame = k.low ++ frame Right k.c z k.a ∷ k.high in
            let few : length fs < turns = omega (arith, frames_low n next.stands next.right, length_same k.high k.c p z k.a k.low, ap length k.is) in (
              fs,
              next.m,
              few,
              subst (λ (s : List Place). IsRightOrShort n u root2 short up' d (record { base = base; sequence = front ++ s; frames = fs; subtree = next.m; pieces = loose p ∷ ps })) (sym next.back_is) (
                λ e. placed z (spot front p (in_order next.m ++ after next.gs) (next_out taken e)) swapped,
                λ e. short_placed n next.gs front p z next.m k ((taken base next.gs (parts next.k leaf next.m) ps next.stands (inl refl) next.right).1 e) swapped moved kept,
              ),
            )

  -- A REPRESENTED TREE is a piece of the table, with no frames above its root
  pub stands_of : {v : Table E} {root : Option Place} {s : List Place} (h : Represents n v root s) → ClimbState n v v root [] h.tree []
  stands_of {v} {root} {s} h = record {
    are = ((tt, h.starts), (h.held.entries, tt));
    once = λ q. omega (arith, holds_once h.held q);
    beside = λ q none. refl;
    linked = λ q. refl;
    extent = refl;
  }

  pub represented_of : {v : Table E} {root : Option Place} {s : List Place} → Represents n v root s → Represented n v v root s []
  represented_of {v} {root} {s} h = record { tree = h.tree; stands = stands_of h; order = h.held.order; shape = h.shape }

  pub represents_of : {base v : Table E} {root : Option Place} {s : List Place} {ps : List Piece} → Represented n base v root s ps → Represents n v root s
  represents_of {base} {v} {root} {s} {ps} h = record {
    tree = h.tree;
    held = record {
      order = h.order;
      distinct = subst (λ (x : List Place). IsDistinct x) h.order (times_distinct (in_order h.tree) (λ q. omega (arith, h.stands.once q, times_order q h.tree)));
      entries = h.stands.are.1.0;
    };
    starts = h.stands.are.0.1;
    shape = h.shape;
  }

  -- a place that is a piece of its own is no member of the tree
  pub loose_absent : {base v : Table E} {root : Option Place} {s : List Place} {p : Place} {ps : List Piece} → Represented n base v root s (loose p ∷ ps) → IsAbsent p s
  loose_absent {base} {v} {root} {s} {p} {ps} h =
      subst (λ (x : List Place). IsAbsent p x) h.order (times_absent p (in_order h.tree) (omega (arith, h.stands.once p, one_at_self p, times_order p h.tree)))

  pub front_represented : {v : Table E} {root : Option Place} (gap : Cut) (p : Place) → Represents n v root (join gap) → first gap.back ≡ Some p → (rest : List Place) × (gap.back ≡ p ∷ rest) × Represented n v v root (gap.front ++ p ∷ rest) []
  front_represented {v} {root} gap p h e =
      let r = begins gap.back e in (r.0, r.1, subst (λ (x : List Place). Represented n v v root (gap.front ++ x) []) r.1 (represented_of h)) where
        begins : (s : List Place) → first s ≡ Some p → (rest : List Place) × (s ≡ p ∷ rest)
        begins [] e = absurd (none_not p e)
        begins (x ∷ s) e = (s, ap (λ (y : Place). y ∷ s) (some_same e))

  -- THE WHOLE REMOVAL: if the member p is removed from the tree and then unlinked, the two changes together remove p at the gap, as `Removes` states
  pub removes : (v w z : Table E) (root new_root : Option Place) (p : Place) (gap : Cut) (rest : List Place)
      → gap.back ≡ p ∷ rest → Represented n v v root (gap.front ++ p ∷ rest) [] → Represented n v w new_root (gap.front ++ rest) (loose p ∷ [])
      → ChangesOnly w z p → Removes (Represents n) v z new_root gap
  removes v w z root new_root p gap rest is old h only = record {
    shows = subst (λ (s : List Place). Represents n z new_root (gap.front ++ s)) (sym (ap (λ (s : List Place). drop 1 s) is)) (represents_beside (represents_of h) (loose_absent h) only.others);
    frame = record {
      extent = only.extent ∙ h.stands.extent;
      others = λ q out. others q out;
    };
  } where
    others : (q : Place) → IsAbsent q (gap.front ++ gap.back) → z.entry q ≡ v.entry q
    others q out =
        let a : times_in q (gap.front ++ (p ∷ rest)) ≡ 0 = absent_times q (gap.front ++ p ∷ rest) (subst (λ (s : List Place). IsAbsent q (gap.front ++ s)) is out) in
        let b : times_in q (gap.front ++ rest) ≡ 0 = omega (arith, times_append q gap.front (p ∷ rest), times_append q gap.front rest) in
        let c : times q h.tree ≡ 0 = sym (times_order q h.tree) ∙ (ap (λ (s : List Place). times_in q s) h.order ∙ b) in
        let d : one_at q p ≡ 0 = omega (arith, times_append q gap.front (p ∷ rest)) in
        only.others q (apart q p d) ∙ h.stands.beside q (omega arith)
