-- A text begins with a name if the bytes that are compared are the same.
use Rattle.std.proofs.Common.{◌≡◌, ℕ, ◌+◌, ◌-◌, ◌<◌, ◌≤◌, ◌↔◌, List, length, take, drop, get_or, IsTrue, nat_eq, w32, w64, sym, ap, ◌∙◌, arith, eq-eqb, eqb-true, inl, inr}
use Rattle.std.specs.Int.{from_le_bytes, to_le_bytes}
use Rattle.std.proofs.lemmas.Nat.{le_bytes_4, le_bytes_8}
use Rattle.std.proofs.lemmas.Bool.{cases_lt}
use Rattle.std.proofs.lemmas.List.{ext_get_or, get_or-take, get_or-drop, get_or_past, take-take, drop-take, length-take, length-drop}

abbrev AreBytes : List ℕ → Type 0
AreBytes bs = (i : ℕ) → get_or bs i 0 < 256

part_bytes : (bs : List ℕ) (at n : ℕ) → AreBytes bs → AreBytes (take n (drop at bs))
part_bytes bs at n are i =
    elim (cases_lt i n) [
      | inl low ↦ omega (arith, get_or-take n (drop at bs) i 0 low, get_or-drop at bs i 0, are (at + i))
      | inr high ↦ omega (arith, get_or_past (take n (drop at bs)) i 0 (omega (arith, high, length-take n (drop at bs))))
    ]

part_length : (bs : List ℕ) (at n : ℕ) → at + n ≤ length bs → length (take n (drop at bs)) ≡ n
part_length bs at n in_bounds = omega (arith, in_bounds, length-take n (drop at bs), length-drop at bs)

-- four or eight bytes are the same exactly if they are the same number
module _ (xs ys : List ℕ) (at m n : ℕ) (bytes_xs : AreBytes xs) (bytes_ys : AreBytes ys) where
  pub same_four : at + 4 ≤ length xs → at + 4 ≤ length ys → m ≡ from_le_bytes w32 (take 4 (drop at xs)) → n ≡ from_le_bytes w32 (take 4 (drop at ys))
      → IsTrue (nat_eq m n) ↔ (take 4 (drop at xs) ≡ take 4 (drop at ys))
  same_four within_xs within_ys m_is n_is = (
    λ same.
        sym (le_bytes_4 (take 4 (drop at xs)) m (part_length xs at 4 within_xs) (part_bytes xs at 4 bytes_xs) m_is)
        ∙ ap (to_le_bytes w32) (eqb-true m n same)
        ∙ le_bytes_4 (take 4 (drop at ys)) n (part_length ys at 4 within_ys) (part_bytes ys at 4 bytes_ys) n_is,
    λ same. eq-eqb m n (m_is ∙ ap (from_le_bytes w32) same ∙ sym n_is),
  )

  pub same_eight : at + 8 ≤ length xs → at + 8 ≤ length ys → m ≡ from_le_bytes w64 (take 8 (drop at xs)) → n ≡ from_le_bytes w64 (take 8 (drop at ys))
      → IsTrue (nat_eq m n) ↔ (take 8 (drop at xs) ≡ take 8 (drop at ys))
  same_eight within_xs within_ys m_is n_is = (
    λ same.
        sym (le_bytes_8 (take 8 (drop at xs)) m (part_length xs at 8 within_xs) (part_bytes xs at 8 bytes_xs) m_is)
        ∙ ap (to_le_bytes w64) (eqb-true m n same)
        ∙ le_bytes_8 (take 8 (drop at ys)) n (part_length ys at 8 within_ys) (part_bytes ys at 8 bytes_ys) n_is,
    λ same. eq-eqb m n (m_is ∙ ap (from_le_bytes w64) same ∙ sym n_is),
  )

-- the text and the name have the same n bytes from the index `at` on
abbrev pub Alike : List ℕ → List ℕ → ℕ → ℕ → Type 0
Alike text name at n = take n (drop at text) ≡ take n (drop at name)

part_at : (text : List ℕ) (at n k : ℕ) → at ≤ k → k < at + n → get_or (take n (drop at text)) (k - at) 0 ≡ get_or text k 0
part_at text at n k low high =
    let here : k - at < n = omega (arith, low, high) in
    let sum : at + (k - at) ≡ k = omega (arith, low) in
    get_or-take n (drop at text) (k - at) 0 here ∙ get_or-drop at text (k - at) 0 ∙ ap (λ i. get_or text i 0) sum

alike_at : (text name : List ℕ) (at n k : ℕ) → Alike text name at n → at ≤ k → k < at + n → get_or text k 0 ≡ get_or name k 0
alike_at text name at n k same low high = sym (part_at text at n k low high) ∙ ap (λ (l : List ℕ). get_or l (k - at) 0) same ∙ part_at name at n k low high

begins : (text name : List ℕ) (n : ℕ) → length name ≡ n → n ≤ length text → ((k : ℕ) → k < n → get_or text k 0 ≡ get_or name k 0) → take n text ≡ name
begins text name n long in_bounds same =
    let as_long : length (take n text) ≡ length name = omega (arith, long, in_bounds, length-take n text) in
    ext_get_or 0 (take n text) name as_long
    (λ k low. let here : k < n = omega (arith, low, long, in_bounds, length-take n text) in get_or-take n text k 0 here ∙ same k here)

pub alike_within : (text name : List ℕ) (n at m : ℕ) → take n text ≡ name → at + m ≤ n → Alike text name at m
alike_within text name n at m is in_bounds =
    let sum : at + (n - at) ≡ n = omega (arith, in_bounds) in
    let front : drop at (take n text) ≡ take (n - at) (drop at text) = ap (λ i. drop at (take i text)) (sym sum) ∙ drop-take at (n - at) text in
    sym (ap (λ (l : List ℕ). take m (drop at l)) (sym is) ∙ ap (take m) front ∙ take-take m (n - at) (drop at text) (omega (arith, in_bounds)))

-- A NAME OF 4 TO 7 BYTES is found by its first four and its last four bytes. A name of 8 to 24 bytes is found by two or three groups of eight bytes
module _ (text name : List ℕ) (n : ℕ) (long : length name ≡ n) (in_bounds : n ≤ length text) where
  pub short_name : 4 ≤ n → n < 8 → Alike text name 0 4 → Alike text name (n - 4) 4 → take n text ≡ name
  short_name low high first last =
      begins text name n long in_bounds (λ k here. elim (cases_lt k 4) [
        | inl before ↦ alike_at text name 0 4 k first (omega arith) (omega (arith, before))
        | inr after ↦ alike_at text name (n - 4) 4 k last (omega (arith, after, high)) (omega (arith, here, low))
      ])

  pub long_name : 8 ≤ n → n ≤ 24 → Alike text name 0 8 → (16 < n → Alike text name 8 8) → Alike text name (n - 8) 8 → take n text ≡ name
  long_name low high first mid last =
      begins text name n long in_bounds (λ k here. elim (cases_lt k 8) [
        | inl before ↦ alike_at text name 0 8 k first (omega arith) (omega (arith, before))
        | inr after ↦ elim (cases_lt k (n - 8)) [
          | inl between ↦ alike_at text name 8 8 k (mid (omega (arith, after, between))) after (omega (arith, between, high))
          | inr last_part ↦ alike_at text name (n - 8) 8 k last last_part (omega (arith, here, low))
        ]
      ])
