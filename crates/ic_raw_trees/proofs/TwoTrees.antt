-- Two trees of one table share no member if their roots differ. If they share a member, they are one tree.
use Rattle.std.proofs.Common.{◌≡◌, ℕ, zero, suc, ◌+◌, ◌≤◌, Option, Some, None, List, [], ◌∷◌, ◌++◌, refl, sym, ◌∙◌, subst, inl, inr, arith}
use Rattle.ic_link_ops.specs.Prelude.{Place, IsAbsent, IsDisjoint, IsDistinct, IsMember, Table}
use Rattle.ic_link_ops.proofs.Prelude.{same_or_not, distinct_disjoint, distinct_splice, no_root, root_member}
use Rattle.ic_link_ops.specs.RedBlackTree.{Node, Represents}
use Rattle.ic_check.specs.Subtrees.{AreApart}
use Rattle.ic_rbtree.proofs.Climbed.{Climbs, at_root, climbs, starts}

-- if two sequences share no member, a member of the first sequence is not in the second
absent_or_outside : (p : Place) (s t : List Place) → IsDisjoint s t → IsMember p s → IsAbsent p t
absent_or_outside p [] t apart member = absurd (member tt)
absent_or_outside p (x ∷ s) t apart member = elim (same_or_not p x) [
  | inl same ↦ subst (λ q. IsAbsent q t) (sym same) apart.0
  | inr other ↦ absent_or_outside p s t apart.1 (λ absent. member (other, absent))
]

-- two sequences share no member if no member of the first is a member of the second
each_outside : (s t : List Place) → ((p : Place) → IsMember p s → IsMember p t → ⊥) → IsDisjoint s t
each_outside s [] none = nothing s where
  nothing : (u : List Place) → IsDisjoint u []
  nothing [] = tt
  nothing (x ∷ u) = (tt, nothing u)
each_outside s (y ∷ t) none = beside s none (each_outside s t (λ p member there. none p member (λ absent. there absent.1))) where
  beside : (u : List Place) → ((p : Place) → IsMember p u → IsMember p (y ∷ t) → ⊥) → IsDisjoint u t → IsDisjoint u (y ∷ t)
  beside [] out apart = tt
  beside (x ∷ u) out apart =
      ((λ same. out x (λ absent. absent.0 refl) (λ absent. absent.0 same), apart.0), beside u (λ p member. out p (λ absent. member absent.1)) apart.1)

module _ {E : Type 0} (n : E → Node) {v : Table E} {a b : Option Place} {s t : List Place} (one : Represents n v a s) (other : Represents n v b t) where
  -- the parents of a place lead to only one root: two climbs from the place p end at the same root
  meets : (k steps : ℕ) (p : Place) → 66 ≤ steps + k → Climbs n v a p steps → Climbs n v b p steps → a ≡ b
  meets zero steps p far x y = absurd (omega (arith, far, x.few))
  meets (suc k) steps p far x y =
      above (n (v.entry p)).parent refl (λ q e. meets k (steps + 1) q (omega (arith, far)) (climbs n one x e) (climbs n other y e))
    where
      above : (o : Option Place) → (n (v.entry p)).parent ≡ o → ((q : Place) → (n (v.entry p)).parent ≡ Some q → a ≡ b) → a ≡ b
      above None e further = at_root n one x e ∙ sym (at_root n other y e)
      above (Some q) e further = further q e

  -- two trees that share a member have the same root
  pub shared_root : (p : Place) → IsMember p s → IsMember p t → a ≡ b
  shared_root p member there = meets 66 0 p (omega arith) (starts n one member) (starts n other there)

  -- two trees with different roots share no member
  pub distinct_apart : AreApart a b → IsDistinct (s ++ t)
  distinct_apart apart =
      distinct_splice [] s t other.held.distinct one.held.distinct (each_outside s t (λ p member there. rooted a refl p member (shared_root p member there)))
    where
      rooted : (o : Option Place) → a ≡ o → (p : Place) → IsMember p s → a ≡ b → ⊥
      rooted None e p member same = member (subst (IsAbsent p) (sym (no_root (subst (λ o. Represents n v o s) e one))) tt)
      rooted (Some q) e p member same = apart q e (sym same ∙ e)

  -- two trees that share no member have different roots, or one of them has no root
  pub apart_distinct : IsDistinct (s ++ t) → AreApart a b
  apart_distinct distinct p e f =
      root_member other f (absent_or_outside p s t (distinct_disjoint s t distinct) (root_member one e))
