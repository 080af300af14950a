-- The facts in this file help callers that compare the sizes of two maps whose keys are numbers.
use Rattle.std.proofs.Common.{◌≡◌, ℕ, zero, suc, ◌≤◌, ◌-◌, true, false, cond, List, [], ◌∷◌, length, Some, None, is_some, inl, inr, refl, sym, ap, ◌∙◌, arith, nat_cmp}
use Rattle.std.proofs.lemmas.Bool.{cases_eq}
use Rattle.std.specs.Cmp.{nat_cmp_total}
use Rattle.std.specs.FinMap as map
use Rattle.std.specs.FinMap.{find, get-empty, get-entries, get-remove, len-entries, len-remove, empty_of_len}
use Rattle.ic_unsafe_ref.proofs.ObjectLemmas.{tied, apart}

module _ {X : Type 0} where
  -- If a map is not empty, it has a key.
  a_key : (m : map.FinMap nat_cmp X) (n : ℕ) → map.len m ≡ suc n → (i : ℕ) × (map.contains_key m i ≡ true)
  a_key m n e = by (map.entries m) refl where
    by : (es : List (ℕ × X)) → map.entries m ≡ es → (i : ℕ) × (map.contains_key m i ≡ true)
    by [] h = absurd (omega (arith, e, len-entries m, ap length h))
    by (x ∷ es) h = (x.0, ap is_some (get-entries m x.0 ∙ ap (find nat_cmp x.0) h ∙ ap (λ b. cond b (Some x.1) (find nat_cmp x.0 es)) (tied x.0 x.0 refl)))

  -- If a map has a key, the map is not empty.
  pub some_key : (m : map.FinMap nat_cmp X) (i : ℕ) → map.contains_key m i ≡ true → 1 ≤ map.len m
  some_key m i is = by (map.len m) refl where
    by : (n : ℕ) → map.len m ≡ n → 1 ≤ n
    by zero e = let never : false ≡ true = ap is_some (sym (ap (λ a. map.get a i) (empty_of_len m e) ∙ get-empty nat_cmp i)) ∙ is in absurd (cc)
    by (suc n) e = omega arith

-- If each key of the map a is a key of the map b, a has at most as many keys as b.
pub fewer_keys : {X Y : Type 0} (n : ℕ) (a : map.FinMap nat_cmp X) (b : map.FinMap nat_cmp Y) → map.len a ≡ n
    → ((i : ℕ) → map.contains_key a i ≡ true → map.contains_key b i ≡ true) → n ≤ map.len b
fewer_keys zero a b e within = omega arith
fewer_keys {X} {Y} (suc n) a b e within =
    let key = a_key a n e in
    let less : map.len (map.remove a key.0) ≡ n = len-remove nat_cmp_total a key.0 ∙ ap (λ c. cond c (map.len a - 1) (map.len a)) key.1 ∙ omega (arith, e) in
    let fewer : map.len (map.remove b key.0) ≡ map.len b - 1 = len-remove nat_cmp_total b key.0 ∙ ap (λ c. cond c (map.len b - 1) (map.len b)) (within key.0 key.1) in
    omega (arith, fewer_keys n (map.remove a key.0) (map.remove b key.0) less (still key.0), fewer, some_key b key.0 (within key.0 key.1)) where
      still : (k i : ℕ) → map.contains_key (map.remove a k) i ≡ true → map.contains_key (map.remove b k) i ≡ true
      still k i is = elim (cases_eq i k) [
        | inl same ↦ let never : false ≡ true = sym (ap is_some (get-remove nat_cmp_total a k i ∙ ap (λ c. cond c None (map.get a i)) (tied i k same))) ∙ is in absurd (cc)
        | inr other ↦
            let was = ap is_some (sym (get-remove nat_cmp_total a k i ∙ ap (λ c. cond c None (map.get a i)) (apart i k other))) ∙ is in
            ap is_some (get-remove nat_cmp_total b k i ∙ ap (λ c. cond c None (map.get b i)) (apart i k other)) ∙ within i was
      ]
