-- A test at each member leads a descent to a gap of the tree. This gap is a border of the test.
use Rattle.std.proofs.Common.{◌≡◌, Bool, true, false, cond, Some, None, List, [], ◌∷◌, ◌++◌, refl, sym, ap, ◌∙◌, subst, append_assoc}
use Rattle.ic_link_ops.specs.Prelude.{Place, Cut, join, first, last, Tree, leaf, fork, in_order}
use Rattle.ic_link_ops.proofs.SequenceLemmas.{none_not, some_same, last_or-append}
use Rattle.ic_rbtree.specs.Borders.{IsBorder}
use Rattle.ic_rbtree.specs.Descents.{left_of, right_of, gap_in}

-- the gap to which a test leads in a tree is a gap of the tree's sequence
pub gap_join : (test : Place → Bool) (t : Tree) → join (gap_in test t) ≡ in_order t
gap_join test leaf = refl
gap_join test (fork c a p b) = by (test p) (gap_join test a) (gap_join test b) where
  by : (x : Bool) → join (gap_in test a) ≡ in_order a → join (gap_in test b) ≡ in_order b → join (cond x (left_of (gap_in test a) p b) (right_of a p (gap_in test b))) ≡ in_order a ++ p ∷ in_order b
  by true ha hb = sym (append_assoc (gap_in test a).front (gap_in test a).back (p ∷ in_order b)) ∙ ap (λ s. s ++ p ∷ in_order b) ha
  by false ha hb = append_assoc (in_order a) (p ∷ (gap_in test b).front) (gap_in test b).back ∙ ap (λ s. in_order a ++ p ∷ s) hb

-- THE GAP IS A BORDER of the test: the member before the gap, if any, fails the test, and the member after the gap, if any, passes
pub gap_border : (test : Place → Bool) (t : Tree) → IsBorder test (gap_in test t)
gap_border test leaf = record { fails = λ q e. absurd (none_not q e); passes = λ q e. absurd (none_not q e) }
gap_border test (fork c a p b) = by (test p) refl (gap_border test a) (gap_border test b) where
  left_first : (s : List Place) (q : Place) → test p ≡ true → ((z : Place) → first s ≡ Some z → test z ≡ true) → first (s ++ p ∷ in_order b) ≡ Some q → test q ≡ true
  left_first [] q here passes e = subst (λ z. test z ≡ true) (some_same e) here
  left_first (x ∷ s) q here passes e = passes q e

  right_last : (s : List Place) (q : Place) → test p ≡ false → ((z : Place) → last s ≡ Some z → test z ≡ false) → last (in_order a ++ p ∷ s) ≡ Some q → test q ≡ false
  right_last [] q here fails e = subst (λ z. test z ≡ false) (some_same (sym (last_or-append None (in_order a) (p ∷ [])) ∙ e)) here
  right_last (x ∷ s) q here fails e = fails q (sym (last_or-append None (in_order a) (p ∷ x ∷ s)) ∙ e)

  by : (x : Bool) → test p ≡ x → IsBorder test (gap_in test a) → IsBorder test (gap_in test b) → IsBorder test (cond x (left_of (gap_in test a) p b) (right_of a p (gap_in test b)))
  by true here ha hb = record { fails = ha.fails; passes = λ q e. left_first (gap_in test a).back q here ha.passes e }
  by false here ha hb = record { fails = λ q e. right_last (gap_in test b).front q here hb.fails e; passes = hb.passes }

-- tests that agree at all places lead to the same gap
pub gap_same : (test other : Place → Bool) → ((p : Place) → test p ≡ other p) → (t : Tree) → gap_in test t ≡ gap_in other t
gap_same test other same t = ap (λ (f : Place → Bool). gap_in f t) (λ k p. same p k)

-- if all members pass the test, the gap is before all members, and if no member passes, the gap is after all members
pub gap_all : (t : Tree) → gap_in (λ _. true) t ≡ record { front = []; back = in_order t }
gap_all leaf = refl
gap_all (fork c a p b) = ap (λ (g : Cut). record { front = g.front; back = g.back ++ p ∷ in_order b }) (gap_all a)

pub gap_none : (t : Tree) → gap_in (λ _. false) t ≡ record { front = in_order t; back = [] }
gap_none leaf = refl
gap_none (fork c a p b) = ap (λ (g : Cut). record { front = in_order a ++ p ∷ g.front; back = g.back }) (gap_none b)
