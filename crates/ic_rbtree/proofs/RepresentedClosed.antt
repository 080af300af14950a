-- The members of a represented tree are a closed set, out of which no link leads.
use Rattle.std.proofs.Common.{◌≡◌, ◌≢◌, ◌||◌, ◌⊎◌, Bool, true, false, nat_eq, Option, Some, None, List, [], ◌∷◌, ◌++◌, refl, sym, ap, subst, inl, inr, eq-eqb, eqb-true}
use Rattle.ic_link_ops.specs.Prelude.{Place, index_of, Cut, first, last_or, Table, Tree, leaf, fork, top, in_order, Node, IsTree}
use Rattle.ic_link_ops.proofs.Prelude.{same_index, none_not, some_same, absent_right}
use Rattle.ic_link_ops.specs.declared.side.Side.{Side}
use Rattle.ic_link_ops.specs.declared.side.Side.TheVariants.{Left, Right}
use Rattle.ic_rbtree.specs.Prelude.{IsIn, IsNode, IsClosedBut, IsClosed, IsInsertPos, Piece, loose, ClimbState, Represented}
use Rattle.ic_rbtree.proofs.Closed.{read_in}
use Rattle.ic_rbtree.proofs.Removing.{loose_absent}

abbrev pub is_it : Place → Place → Bool
is_it q p = nat_eq (index_of q) (index_of p)

-- whether a place is a member of the sequence
abbrev pub among : Place → List Place → Bool
among q [] = false
among q (x ∷ s) = is_it q x || among q s

-- whether a place is p or a member of the sequence
abbrev pub with_place : Place → List Place → Place → Bool
with_place p s q = is_it q p || among q s

itself : (p : Place) → is_it p p ≡ true
itself p = eq-eqb (index_of p) (index_of p) refl

one_of : (a b : Bool) → a || b ≡ true → (a ≡ true) ⊎ (b ≡ true)
one_of true b e = inl refl
one_of false b e = inr e

or_left : (a b : Bool) → a ≡ true → a || b ≡ true
or_left true b e = refl
or_left false b e = cc

or_right : (a b : Bool) → b ≡ true → a || b ≡ true
or_right true b e = refl
or_right false b e = e

among_left : (q : Place) (s t : List Place) → among q s ≡ true → among q (s ++ t) ≡ true
among_left q [] t e = cc
among_left q (x ∷ s) t e = elim (one_of (is_it q x) (among q s) e) [
  | inl h ↦ or_left (is_it q x) (among q (s ++ t)) h
  | inr h ↦ or_right (is_it q x) (among q (s ++ t)) (among_left q s t h)
]

among_right : (q : Place) (s t : List Place) → among q t ≡ true → among q (s ++ t) ≡ true
among_right q [] t e = e
among_right q (x ∷ s) t e = or_right (is_it q x) (among q (s ++ t)) (among_right q s t e)

among_parts : (q : Place) (s t : List Place) → among q (s ++ t) ≡ true → (among q s ≡ true) ⊎ (among q t ≡ true)
among_parts q [] t e = inr e
among_parts q (x ∷ s) t e = elim (one_of (is_it q x) (among q (s ++ t)) e) [
  | inl h ↦ inl (or_left (is_it q x) (among q s) h)
  | inr h ↦ elim (among_parts q s t h) [
    | inl k ↦ inl (or_right (is_it q x) (among q s) k)
    | inr k ↦ inr k
  ]
]

-- a member in the middle of a sequence is a member of the sequence
pub among_there : (p : Place) (s t : List Place) → among p (s ++ p ∷ t) ≡ true
among_there p s t = among_right p s (p ∷ t) (or_left (is_it p p) (among p t) (itself p))

among_first : (q : Place) (s : List Place) → first s ≡ Some q → among q s ≡ true
among_first q [] e = absurd (none_not q e)
among_first q (x ∷ s) e = or_left (is_it q x) (among q s) (subst (λ (z : Place). is_it q z ≡ true) (sym (some_same e)) (itself q))

among_last : (q : Place) (s : List Place) (o : Option Place) → last_or o s ≡ Some q → (o ≡ Some q → ⊥) → among q s ≡ true
among_last q [] o e out = absurd (out e)
among_last q (x ∷ []) o e out = or_left (is_it q x) false (subst (λ (z : Place). is_it q z ≡ true) (sym (some_same e)) (itself q))
among_last q (x ∷ y ∷ s) o e out = or_right (is_it q x) (among q (y ∷ s)) (among_last_more y s e)
  where
    among_last_more : (y : Place) (s : List Place) → last_or (Some x) (y ∷ s) ≡ Some q → among q (y ∷ s) ≡ true
    among_last_more y [] e = or_left (is_it q y) false (subst (λ (z : Place). is_it q z ≡ true) (sym (some_same e)) (itself q))
    among_last_more y (z ∷ s) e = or_right (is_it q y) (among q (z ∷ s)) (among_last_more z s e)

module _ {E : Type 0} (n : E → Node) where
  -- the node of q leads into S: q is linked, and its children and its parent are none or in S
  record LeadsInto (v : Table E) (S : Place → Bool) (q : Place) : Type 0 where
    linked : IsNode n v q
    left : IsIn S (n (v.entry q)).left
    right : IsIn S (n (v.entry q)).right
    parent : IsIn S (n (v.entry q)).parent

  top_in : (S : Place → Bool) (t : Tree) → ((q : Place) → among q (in_order t) ≡ true → S q ≡ true) → IsIn S (top t)
  top_in S leaf all = tt
  top_in S (fork c a p b) all = all p (among_there p (in_order a) (in_order b))

  leads : (v : Table E) (S : Place → Bool) (up : Option Place) (t : Tree) → IsTree n v.entry up t → IsIn S up → ((q : Place) → among q (in_order t) ≡ true → S q ≡ true)
      → (q : Place) → among q (in_order t) ≡ true → LeadsInto v S q
  leads v S up leaf h i all q m = cc
  leads v S up (fork c a p b) h i all q m =
      let low : (x : Place) → among x (in_order a) ≡ true → S x ≡ true = λ x k. all x (among_left x (in_order a) (p ∷ in_order b) k) in
      let high : (x : Place) → among x (in_order b) ≡ true → S x ≡ true = λ x k. all x (among_right x (in_order a) (p ∷ in_order b) (or_right (is_it x p) (among x (in_order b)) k)) in
      let here : S p ≡ true = all p (among_there p (in_order a) (in_order b)) in
      elim (among_parts q (in_order a) (p ∷ in_order b) m) [
        | inl k ↦ leads v S (Some p) a h.1 here low q k
        | inr k ↦ elim (one_of (is_it q p) (among q (in_order b)) k) [
          | inl e ↦ subst (λ (z : Place). LeadsInto v S z) (sym (same_index q p (eqb-true (index_of q) (index_of p) e)))
              (record { linked = h.0.linked; left = read_in S (top_in S a low) h.0.left; right = read_in S (top_in S b high) h.0.right; parent = read_in S i h.0.parent })
          | inr e ↦ leads v S (Some p) b h.2 here high q e
        ]
      ]

  module _ {base v : Table E} {root : Option Place} {s : List Place} where
    -- the members of a tree in the table, whatever its shape, are a closed set
    pub stands_closed : {ps : List Piece} (tree : Tree) → in_order tree ≡ s → ClimbState n base v root [] tree ps → IsClosed n v root (λ q. among q s)
    stands_closed {ps} tree order stands =
        let all : (q : Place) → among q (in_order tree) ≡ true → among q s ≡ true = λ q m. subst (λ (x : List Place). among q x ≡ true) order m in
        let at : (q : Place) → among q s ≡ true → LeadsInto v (λ x. among x s) q =
        λ q m. leads v (λ x. among x s) None tree stands.are.1.0 tt all q (subst (λ (x : List Place). among q x ≡ true) (sym order) m) in
        record {
          linked = λ q m. (at q m).linked;
          left = λ q m out. (at q m).left;
          right = λ q m out. (at q m).right;
          parent = λ q m out. (at q m).parent;
          starts = read_in (λ x. among x s) (top_in (λ x. among x s) tree all) stands.are.0.1;
        }

    -- THE MEMBERS of a represented tree are a closed set
    pub represented_closed : {ps : List Piece} → Represented n base v root s ps → IsClosed n v root (λ q. among q s)
    represented_closed {ps} h = stands_closed h.tree h.order h.stands

    -- the members of a tree and a place p, which is a piece of its own, are a set that is closed except at p
    module _ {p : Place} {ps : List Piece} (h : Represented n base v root s (loose p ∷ ps)) where
      pub represented_closed_but : IsClosedBut n v root (Some p) (with_place p s)
      represented_closed_but =
          let S : Place → Bool = with_place p s in
          let all : (q : Place) → among q (in_order h.tree) ≡ true → S q ≡ true = λ q m. or_right (is_it q p) (among q s) (subst (λ (x : List Place). among q x ≡ true) h.order m) in
          let at : (q : Place) → among q s ≡ true → LeadsInto v S q =
          λ q m. leads v S None h.tree h.stands.are.1.0 tt all q (subst (λ (x : List Place). among q x ≡ true) (sym h.order) m) in
          let other : (q : Place) → S q ≡ true → (Some p ≡ Some q → ⊥) → among q s ≡ true = λ q m out. member q m out in
          record {
            linked = λ q m. linked q m at;
            left = λ q m out. (at q (other q m out)).left;
            right = λ q m out. (at q (other q m out)).right;
            parent = λ q m out. (at q (other q m out)).parent;
            starts = read_in S (top_in S h.tree all) h.stands.are.0.1;
          }
        where
          member : (q : Place) → with_place p s q ≡ true → (Some p ≡ Some q → ⊥) → among q s ≡ true
          member q m out = elim (one_of (is_it q p) (among q s) m) [
            | inl e ↦ absurd (out (ap (λ (z : Place). Some z) (sym (same_index q p (eqb-true (index_of q) (index_of p) e)))))
            | inr k ↦ k
          ]

          linked : (q : Place) → with_place p s q ≡ true → ((x : Place) → among x s ≡ true → LeadsInto v (with_place p s) x) → IsNode n v q
          linked q m at = elim (one_of (is_it q p) (among q s) m) [
            | inl e ↦ subst (λ (z : Place). IsNode n v z) (sym (same_index q p (eqb-true (index_of q) (index_of p) e))) h.stands.are.1.1.0
            | inr k ↦ (at q k).linked
          ]

      pub with_itself : with_place p s p ≡ true
      with_itself = or_left (is_it p p) (among p s) (itself p)

      pub with_member : (q : Place) → among q s ≡ true → with_place p s q ≡ true
      with_member q m = or_right (is_it q p) (among q s) m

  -- the parent at an insert position is none or a member of the tree
  pub insert_pos_in : (v : Table E) (p : Place) (parent : Option Place) (d : Side) (gap : Cut) → IsInsertPos n v parent d gap → IsIn (with_place p (gap.front ++ gap.back)) parent
  insert_pos_in v p None d gap h = tt
  insert_pos_in v p (Some q) Left gap h = or_right (is_it q p) (among q (gap.front ++ gap.back)) (among_right q gap.front gap.back (among_first q gap.back (sym h.1)))
  insert_pos_in v p (Some q) Right gap h = or_right (is_it q p) (among q (gap.front ++ gap.back)) (among_left q gap.front gap.back (among_last q gap.front None (sym h.1) (none_not q)))

  -- a member of the tree is different from a place that is a piece of its own
  pub member_apart : {base v : Table E} {root : Option Place} (front : List Place) (p new : Place) (back : List Place) {ps : List Piece} → Represented n base v root (front ++ p ∷ back) (loose new ∷ ps) → p ≢ new
  member_apart front p new back h e = (absent_right new front (p ∷ back) (loose_absent n h)).0 (sym e)
