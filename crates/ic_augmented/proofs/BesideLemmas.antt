-- The summaries of a tree are written within the tree if each stored parent is one of its members. These lemmas say this of a summed tree, also after a place
-- with a stale summary is added.
use Rattle.std.proofs.Common.{◌≡◌, ◌≤◌, ◌+◌, ℕ, Bool, true, false, cond, ◌||◌, Option, Some, None, List, [], ◌∷◌, ◌++◌, refl, sym, ap, ◌∙◌, subst, arith, inl, inr}
use Rattle.std.proofs.lemmas.Bool.{false_from_ne_true}
use Rattle.ic_link_ops.specs.Prelude.{Place, Cut, join, insert, IsAbsent, Table, Node, one_at, times, times_in, Tree, leaf, fork}
use Rattle.ic_link_ops.proofs.Prelude.{same_or_not, none_not, some_same, absent_left, absent_right, absent_both, absent_with, absent_times, one_at_self, one_at_other, times_order}
use Rattle.ic_rbtree.specs.Closed.{IsIn}
use Rattle.ic_rbtree.proofs.RepresentedClosed.{is_it, among}
use Rattle.ic_augmented.specs.Prelude.{Summaries, is_fresh, IsSummed, RepresentsAugmented}
use Rattle.ic_augmented.specs.Beside.{IsWrittenWithin, IsWrittenIn, IsEdgeOf}
use Rattle.ic_augmented.proofs.ConsistencyLemmas.{where_is}

more_or : (b a : Bool) (k : ℕ) → (a ≡ true → 1 ≤ k) → b || a ≡ true → 1 ≤ cond b 1 0 + k
more_or true a k f e = omega arith
more_or false a k f e = omega (arith, f e)

or_more : (b a : Bool) (k : ℕ) → (1 ≤ k → a ≡ true) → 1 ≤ cond b 1 0 + k → b || a ≡ true
or_more true a k f m = refl
or_more false a k f m = f (omega (arith, m))

-- the test `among` is true for a place if and only if the count `times_in` of the place is at least 1
pub among_times : (q : Place) (s : List Place) → among q s ≡ true → 1 ≤ times_in q s
among_times q [] e = cc
among_times q (x ∷ s) e = more_or (is_it q x) (among q s) (times_in q s) (among_times q s) e

pub times_among : (q : Place) (s : List Place) → 1 ≤ times_in q s → among q s ≡ true
times_among q [] m = absurd (omega (arith, m))
times_among q (x ∷ s) m = or_more (is_it q x) (among q s) (times_in q s) (times_among q s) m

pub absent_out : (q : Place) (s : List Place) → IsAbsent q s → among q s ≡ false
absent_out q s out = false_from_ne_true (among q s) (λ e. let none = absent_times q s out in omega (arith, none, among_times q s e))

-- if a place is no member of a sequence, and is not the inserted place, it is no member after the insert
pub absent_insert : (q p : Place) (gap : Cut) (s : List Place) → s ≡ join gap → IsAbsent q (p ∷ s) → IsAbsent q (insert gap p)
absent_insert q p gap s e out =
    let k : IsAbsent q (join gap) = subst (IsAbsent q) e out.1 in
    absent_both q gap.front (p ∷ gap.back) (absent_left q gap.front gap.back k) (out.0, absent_right q gap.front gap.back k)

-- if the edge is a member of a sequence with p in it, the edge is p or one of the other members
pub edge_of : (edge : Option Place) (front : List Place) (p : Place) (back : List Place) → IsIn (λ q. among q (front ++ p ∷ back)) edge → IsEdgeOf edge p (front ++ back)
edge_of None front p back i q e other out = absurd (none_not q e)
edge_of (Some x) front p back i q e other out =
    let there : among q (front ++ p ∷ back) ≡ true = subst (λ (y : Place). among y (front ++ p ∷ back) ≡ true) (some_same e) i in
    let never : true ≡ false = sym there ∙ absent_out q (front ++ p ∷ back) (absent_with front back p q other out) in
    cc

module _ {S : Type 0} where
  -- IF THE SUMMARIES ARE WRITTEN WITHIN a sequence, they are also written within the set of its members
  pub written_among : (z : Summaries S) (s : List Place) → IsWrittenWithin z s → IsWrittenIn z (λ q. among q s)
  written_among z s h q p m e up = times_among p s (h q p (among_times q s m) e up)

  -- THE SUMMARIES OF A SUMMED TREE were written within the tree, because each stored parent is a member
  upper_within : (z : Summaries S) (up : Option Place) (t : Tree) (s : List Place) → IsSummed z up t → ((q : Place) → 1 ≤ times q t → 1 ≤ times_in q s)
      → ((p : Place) → up ≡ Some p → 1 ≤ times_in p s) → (q p : Place) → 1 ≤ times q t → z.upper q ≡ Some p → 1 ≤ times_in p s
  upper_within z up leaf s h all above q p m e = absurd (omega (arith, m))
  upper_within z up (fork c a x b) s h all above q p m e =
      let here : (y : Place) → Some x ≡ Some y → 1 ≤ times_in y s = λ y i. subst (λ (w : Place). 1 ≤ times_in w s) (some_same i) (all x (omega (arith, one_at_self x))) in
      elim (where_is (times q a) (one_at q x + times q b) (omega (arith, m))) [
        | inl k ↦ upper_within z (Some x) a s h.2 (λ y i. all y (omega (arith, i))) here q p k e
        | inr k ↦ elim (same_or_not q x) [
          | inl i ↦ above p (sym h.1 ∙ (ap z.upper (sym i) ∙ e))
          | inr n ↦ upper_within z (Some x) b s h.3 (λ y i. all y (omega (arith, i))) here q p (omega (arith, k, one_at_other q x n)) e
        ]
      ]

  -- if the summaries of s were written within s, they still count as written within the sequence after a place with a stale summary is added to it
  pub stale_within : (z : Summaries S) (s : List Place) (p : Place) → z.fresh p ≡ None → IsWrittenWithin z s → IsWrittenWithin z (p ∷ s)
  stale_within z s p stale h q r m fresh up = elim (same_or_not q p) [
    | inl e ↦ let k : is_fresh (z.fresh q) ≡ false = rw e (rw stale refl) in let x : true ≡ false = sym fresh ∙ k in cc
    | inr other ↦ let k = h q r (omega (arith, m, one_at_other q p other)) fresh up in omega (arith, k)
  ]

module _ {E S : Type 0} (n : E → Node) where
  pub summed_within : {z : Summaries S} {v : Table E} {root : Option Place} {s : List Place} → RepresentsAugmented n z v root s → IsWrittenWithin z s
  summed_within {z} {v} {root} {s} h q p m fresh up =
      let times_are : (x : Place) → times x h.shows.tree ≡ times_in x s = λ x. sym (times_order x h.shows.tree) ∙ ap (times_in x) h.shows.held.order in
      upper_within z None h.shows.tree s h.summed (λ x k. omega (arith, k, times_are x)) (λ x e. absurd (none_not x e)) q p (omega (arith, m, times_are q)) up
