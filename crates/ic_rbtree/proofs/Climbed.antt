-- Lemmas about the climb along the parents that tests whether a place is a member. A path down a tree is short, and the parent and the children of a member are
-- members.
use Rattle.std.proofs.Common.{◌≡◌, ℕ, ◌+◌, ◌^◌, ◌≤◌, true, Option, Some, None, List, [], ◌∷◌, length, refl, sym, ap, ◌∙◌, subst, arith, inl, inr, ◌⊎◌, eq-eqb}
use Rattle.ic_link_ops.specs.Prelude.{Place, index_of, IsMember, Table, IsCovered, is_end, Tree, fork, top, in_order, IsRight}
use Rattle.ic_link_ops.specs.declared.color.Color.{Color}
use Rattle.ic_link_ops.specs.RedBlackTree.{Node, Represents}
use Rattle.ic_link_ops.specs.Frames.{Frame, frame, branch, plug, above, child_on}
use Rattle.ic_link_ops.specs.declared.side.Side.{Side}
use Rattle.ic_link_ops.specs.declared.side.Side.TheVariants.{Left, Right}
use Rattle.ic_link_ops.proofs.Prelude.{none_not, member_split, few_places}
use Rattle.ic_link_ops.proofs.RepresentedTrees.{left_member, right_member}
use Rattle.ic_link_ops.proofs.Trees.{top_parent}
use Rattle.ic_rbtree.specs.Prelude.{height, ClimbState}
use Rattle.ic_rbtree.specs.Members.{HasChild}
use Rattle.ic_rbtree.proofs.Heights.{looks_few, exponent_small}
use Rattle.ic_rbtree.proofs.Outermost.{framed}
use Rattle.ic_rbtree.proofs.Branches.{top_branch}
use Rattle.ic_rbtree.proofs.Removing.{spot, represented_of, order_around}

-- if an end is the place p, the comparison of the end with p is true
pub is_end_there : {end : Option Place} {p : Place} → end ≡ Some p → is_end end p ≡ true
is_end_there {end} {p} e = rw e (eq-eqb (index_of p) (index_of p) refl)

module _ {E : Type 0} (n : E → Node) where
  -- THE CLIMB: the member p is the root of a subtree below the frames fs. The number of these frames, plus the number of steps that were made, is at most 65
  pub record Climbs (v : Table E) (root : Option Place) (p : Place) (steps : ℕ) : Type 0 where
    pub fs : List Frame
    pub t : Tree
    pub stands : ClimbState n v v root fs t []
    pub top_is : top t ≡ Some p
    pub few : length fs + steps ≤ 65

  module _ {v : Table E} {root : Option Place} {s : List Place} (shown : Represents n v root s) where
    -- NO PATH IS LONG: a path down from the root of a represented tree has at most 66 members
    pub path_few : (fs : List Frame) (t : Tree) (looks : ℕ) → plug fs t ≡ shown.tree → looks ≤ length fs + height t → looks ≤ 66
    path_few fs t looks same high =
        let few : 2 ^ looks ≤ (length s + 1) ^ 2 =
        subst (λ (z : List Place). 2 ^ looks ≤ (length z + 1) ^ 2) (ap in_order same ∙ shown.held.order)
        (looks_few fs t looks (subst IsRight (sym same) shown.shape) high) in
        let small : length s ≤ 8589934591 = few_places s shown.held.distinct in
        exponent_small looks (length s + 1) (omega (arith, small)) few

    pub starts : {p : Place} → IsMember p s → Climbs v root p 0
    starts {p} member =
        let m = member_split p s member in
        let h = subst (λ z. Represents n v root z) m.2 shown in
        let x = spot n m.0 p m.1 (represented_of n h) in
        let few : length x.fs + 1 ≤ 66 = long x.fs x.c x.a x.b x.right (order_around x.fs x.c x.a p x.b m.0 m.1 x.front_is x.back_is ∙ sym m.2) in
        record { fs = x.fs; t = fork x.c x.a p x.b; stands = x.stands; top_is = refl; few = omega (arith, few) }
      where
        long : (fs : List Frame) (c : Color) (a b : Tree) → IsRight (plug fs (fork c a p b)) → in_order (plug fs (fork c a p b)) ≡ s → length fs + 1 ≤ 66
        long fs c a b right same =
            exponent_small (length fs + 1) (length s + 1) (omega (arith, few_places s shown.held.distinct))
            (subst (λ (z : List Place). 2 ^ (length fs + 1) ≤ (length z + 1) ^ 2) same (looks_few fs (fork c a p b) (length fs + 1) right (omega arith)))

    -- if the climb is at the member p, a step to the parent q of p goes to a member, and the climb goes on at q
    pub climbs : {p q : Place} {steps : ℕ} → Climbs v root p steps → (n (v.entry p)).parent ≡ Some q → Climbs v root q (steps + 1)
    climbs {p} {q} {steps} k up =
        let f = framed n k.fs k.t k.stands k.top_is up in
        record { fs = f.rest; t = branch f.k f.c k.t q f.b; stands = f.stands; top_is = top_branch f.k f.c k.t q f.b; few = omega (arith, k.few, ap length f.is) }

    pub has_child : {p q : Place} {steps : ℕ} → ((x : Place) → (n (v.entry x)).linked ≡ true → IsCovered v x) → Climbs v root p steps → (n (v.entry p)).parent ≡ Some q → HasChild n v q p
    has_child {p} {q} law k up =
        let f = framed n k.fs k.t k.stands k.top_is up in
        record { covered = law q f.linked; linked = f.linked; child = by f.k f.near }
      where
        by : (d : Side) → child_on d (n (v.entry q)) ≡ Some p → ((n (v.entry q)).left ≡ Some p) ⊎ ((n (v.entry q)).right ≡ Some p)
        by Left e = inl e
        by Right e = inr e

    -- a place that is the child of a member is a member
    pub child_member : {p q : Place} → HasChild n v q p → IsMember q s → IsMember p s
    child_member {p} {q} h member = elim h.child [
      | inl e ↦ left_member shown.held member e
      | inr e ↦ right_member shown.held member e
    ]

    -- if the climb is at a member without a parent, this member is the root
    pub at_root : {p : Place} {steps : ℕ} → Climbs v root p steps → (n (v.entry p)).parent ≡ None → root ≡ Some p
    at_root {p} k none = by k.fs k.stands (sym (top_parent n v.entry (above k.fs) k.t p k.stands.are.1.0 k.top_is) ∙ none) where
      by : (fs : List Frame) → ClimbState n v v root fs k.t [] → above fs ≡ None → root ≡ Some p
      by [] h e = h.are.0.1 ∙ k.top_is
      by (frame d c q b ∷ fs) h e = absurd (none_not q (sym e))
