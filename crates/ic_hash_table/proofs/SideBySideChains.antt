-- If alike members, for example members with equal keys, are side by side in every chain, they are side by side in the sequence of all chains.
use Rattle.std.proofs.Common.{◌≡◌, ℕ, ◌<◌, ◌≤◌, Bool, true, true≢false, Option, Some, None, List, ◌++◌, refl, sym, ap, ◌∙◌, subst, arith}
use Rattle.std.specs.List.{AllByRecursion}
use Rattle.ic_link_ops.specs.Prelude.{Place, Objects, object_at, IsMember}
use Rattle.ic_link_ops.proofs.Each.{all_both, all_map}
use Rattle.ic_hash_table.specs.declared.slots.Slots.{Slots}
use Rattle.ic_hash_table.specs.Prelude.{slot_of, BelongsIn, passes, AreSideBySide, same_key}
use Rattle.ic_hash_table.proofs.ChainParts.{of_member}
use Rattle.ic_hash_table.proofs.Chains.{Below, Above}
use Rattle.ic_hash_table.proofs.SideBySideSequences.{join_beside}

-- `BelongTogether Belongs alike`: two alike places belong in the same chain
abbrev pub BelongTogether : (ℕ → Place → Type 0) → (Place → Place → Bool) → Type 0
BelongTogether Belongs alike = (i j : ℕ) (x y : Place) → Belongs i x → Belongs j y → alike x y ≡ true → i ≡ j

module _ (Belongs : ℕ → Place → Type 0) (alike : Place → Place → Bool) (together : BelongTogether Belongs alike) where
  -- the place p belongs in a chain whose number has the property P
  abbrev In : (ℕ → Type 0) → Place → Type 0
  In P p = (j : ℕ) × P j × Belongs j p

  -- two members that belong in chains with different numbers are not alike
  pub in_others : (P Q : ℕ → Type 0) → ((i : ℕ) → P i → Q i → ⊥) → (a b : List Place) → AllByRecursion (In P) a → AllByRecursion (In Q) b
      → (x y : Place) → IsMember x a → IsMember y b → alike x y ≡ true → ⊥
  in_others P Q never a b in_a in_b x y member other same =
      let k = of_member (In P) a x in_a member in
      let l = of_member (In Q) b y in_b other in
      never k.0 k.1 (subst Q (sym (together k.0 l.0 x y k.2 l.2 same)) l.1)

  -- if alike members are side by side before a chain, in the chain and after it, they are side by side in the whole sequence
  pub middle_beside : (n : ℕ) (a m b : List Place) → AreSideBySide alike a → AreSideBySide alike m → AreSideBySide alike b
      → AllByRecursion (Below Belongs n) a → AllByRecursion (Belongs n) m → AllByRecursion (Above Belongs n) b → AreSideBySide alike (a ++ (m ++ b))
  middle_beside n a m b ahead middle after below own above =
      let rest = all_both (In (λ j. n ≤ j)) m b (all_map (λ p o. (n, omega arith, o)) m own) (all_map (λ p k. (k.0, omega (arith, k.1), k.2)) b above) in
      join_beside alike a (m ++ b) ahead
      (join_beside alike m b middle after (in_others (λ j. j ≡ n) (λ j. n < j) (λ i e less. omega (arith, e, less)) m b (all_map (λ p o. (n, refl, o)) m own) above))
      (in_others (λ j. j < n) (λ j. n ≤ j) (λ i less more. omega (arith, less, more)) a (m ++ b) below rest)

-- MEMBERS WITH EQUAL KEYS belong in one chain, because the hashes of their keys are equal
pub keys_together : {V K : Type 0} (eq : K → K → Bool) (key_of : V → K) (slots : Slots) (hash : V → ℕ) → ((v w : V) → eq (key_of v) (key_of w) ≡ true → hash v ≡ hash w)
    → (objects : Objects V) → BelongTogether (BelongsIn slots hash objects) (same_key eq key_of objects)
keys_together {V} eq key_of slots hash alike objects i j x y in_i in_j e = by (object_at objects x) (object_at objects y) refl refl e where
  by : (o r : Option V) → object_at objects x ≡ o → object_at objects y ≡ r → passes (λ value. passes (λ other. eq (key_of value) (key_of other)) r) o ≡ true → i ≡ j
  by None r at_x at_y e = absurd (true≢false (sym e))
  by (Some v) None at_x at_y e = absurd (true≢false (sym e))
  by (Some v) (Some w) at_x at_y e = sym (in_i v at_x) ∙ ap (slot_of slots) (alike v w e) ∙ in_j w at_y
