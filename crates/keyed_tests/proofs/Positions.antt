-- Lemmas on the position of a member in a sequence.
use Rattle.std.proofs.Common.{◌≡◌, ℕ, zero, suc, ◌≤◌, Some, None, List, [], ◌∷◌, ◌++◌, length, length-append, min, refl, sym, ap, arith, slice_get}
use Rattle.ic_unsafe_ref.specs.declared.place.Place.{Place}
use Rattle.ic_link_ops.proofs.SequenceLemmas.{none_not, some_same}

-- the sequence `s` has the place `p` at position `k`: exactly `k` members are before `p`
pub record AtPosition (s : List Place) (k : ℕ) (p : Place) : Type 0 where
  pub front : List Place
  pub back : List Place
  pub same : s ≡ front ++ p ∷ back
  pub position : length front ≡ k

pub at_position : (s : List Place) (k : ℕ) {p : Place} → Some p ≡ slice_get s k → AtPosition s k p
at_position [] k e = absurd (none_not _ (sym e))
at_position (x ∷ s) zero e = record { front = []; back = s; same = ap (λ (y : Place). y ∷ s) (some_same (sym e)); position = refl }
at_position (x ∷ s) (suc k) e =
    let r = at_position s k e in record { front = x ∷ r.front; back = r.back; same = ap (λ (t : List Place). x ∷ t) r.same; position = ap suc r.position }

pub past_all : (s : List Place) (k : ℕ) → None ≡ slice_get s k → length s ≤ k
past_all [] k e = omega arith
past_all (x ∷ s) zero e = absurd (none_not x e)
past_all (x ∷ s) (suc k) e = omega (arith, past_all s k e)

-- the position of a member is the lesser of this position and the length of the sequence
pub least_here : (s : List Place) (k : ℕ) {p : Place} → AtPosition s k p → k ≡ min k (length s)
least_here s k {p} a =
    let e : length s ≡ length (a.front ++ p ∷ a.back) = ap length a.same in omega (arith, e, length-append a.front (p ∷ a.back), a.position)

pub least_past : (s : List Place) (k n : ℕ) → length s ≤ k → n ≡ length s → n ≡ min k (length s)
least_past s k n past e = omega arith
