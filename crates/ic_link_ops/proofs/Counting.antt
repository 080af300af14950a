-- This file counts the numbers below a bound that pass a test.
use Rattle.std.proofs.Common.{◌≡◌, ◌≢◌, ℕ, zero, suc, ◌+◌, ◌<◌, ◌≤◌, Bool, true, false, arith, refl, ap, sym, ◌∙◌, inl, inr, eq-or-lt_of_le}
use Rattle.ic_link_ops.specs.TreeWords.{one_if}

-- `count f n` is the number of numbers below n that pass the test f.
pub count : (ℕ → Bool) → ℕ → ℕ
count f zero = 0
count f (suc n) = one_if (f n) + count f n

-- If two tests differ only at the number p, and p is not below the bound n, both counts are equal.
pub count_same : (f f' : ℕ → Bool) (p : ℕ) (n : ℕ) → ((q : ℕ) → q ≢ p → f' q ≡ f q) → n ≤ p → count f' n ≡ count f n
unfolding count
count_same f f' p zero same h = refl
count_same f f' p (suc n) same h =
    let e : f' n ≡ f n = same n (λ k. absurd (omega (arith, h, k))) in
    let r = count_same f f' p n same (omega arith) in
    omega (arith, r, ap one_if e)

-- If the number p below n passes the test f but not the test f', and the tests differ only at p, the count of f' is less than the
-- count of f.
pub count_falls : (f f' : ℕ → Bool) (p : ℕ) (n : ℕ) → ((q : ℕ) → q ≢ p → f' q ≡ f q) → f p ≡ true → f' p ≡ false → p < n → count f' n < count f n
unfolding count
count_falls f f' p zero same on off h = absurd (omega arith)
count_falls f f' p (suc n) same on off h =
    elim (eq-or-lt_of_le {n = p} {m = n} (omega (arith, h))) [
      | inl e ↦
          let a : f n ≡ true = ap f (sym e) ∙ on in
          let b : f' n ≡ false = ap f' (sym e) ∙ off in
          omega (arith, count_same f f' p n same (omega arith), ap one_if a, ap one_if b)
      | inr l ↦
          let e : f' n ≡ f n = same n (λ k. absurd (omega (arith, l, k))) in
          let r = count_falls f f' p n same on off l in
          omega (arith, r, ap one_if e)
    ]

pub count_at_most : (f : ℕ → Bool) (n : ℕ) → count f n ≤ n
unfolding count
count_at_most f zero = omega arith
count_at_most f (suc n) =
    elim (f n) as (λ b. one_if b + count f n ≤ suc n) [
      | true ↦ omega (arith, count_at_most f n)
      | false ↦ omega (arith, count_at_most f n)
    ]
