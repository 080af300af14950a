-- Lemmas on where a place with a given index can be in a rising list.
use Rattle.std.proofs.Common.{◌≡◌, ◌<◌, ◌≤◌, ◌+◌, ℕ, zero, suc, Bool, true, false, cond, eqb, ◌||◌, List, [], ◌∷◌, ◌++◌, take, drop, length, refl, sym, ap, ◌∙◌, arith, eq-eqb, ne_eqb, Vec, All, slice_index_or}
use Rattle.std.proofs.lemmas.Bool.{lt-ltb, le-ltb, or_from}
use Rattle.ic_link_ops.specs.Prelude.{Place, index_of}
use Rattle.ic_workers.specs.SharedOut.{has, Rises, places_in}
use Rattle.ic_workers.specs.Doubles.{times, doubles_below}

or_true : (b : Bool) → (b || true) ≡ true
or_true true = refl
or_true false = refl

-- each place of a rising list has at least the index `low`
at_least : (low high : ℕ) (s : List Place) → Rises low high s → (k : ℕ) (d : Place) → k < length s → low ≤ index_of (slice_index_or s k d)
at_least low high [] r k d inside = absurd (omega (arith, inside))
at_least low high (p ∷ s) r zero d inside = r.0
at_least low high (p ∷ s) r (suc k) d inside = let i = r.0 in let j = at_least (index_of p + 1) high s r.2 k d (omega (arith, inside)) in omega (arith, i, j)

-- an index below `low` is not in a rising list
not_below : (low high : ℕ) (s : List Place) → Rises low high s → (n : ℕ) → n < low → has s n ≡ false
not_below low high [] r n less = refl
not_below low high (p ∷ s) r n less =
    let i = r.0 in
    or_from _ (has s n) (ne_eqb n (index_of p) (λ e. absurd (omega (arith, e, i, less)))) (not_below (index_of p + 1) high s r.2 n (omega (arith, i, less)))

-- an index that is larger than the index of a place of a rising list is not among the places up to this place
pub not_before : (low high : ℕ) (s : List Place) → Rises low high s → (m : ℕ) (d : Place) → m < length s → (n : ℕ) → index_of (slice_index_or s m d) < n → has (take (suc m) s) n ≡ false
not_before low high [] r m d inside n more = absurd (omega (arith, inside))
not_before low high (p ∷ s) r zero d inside n more = or_from _ false (ne_eqb n (index_of p) (λ e. absurd (omega (arith, e, more)))) refl
not_before low high (p ∷ s) r (suc m) d inside n more =
    let j = at_least (index_of p + 1) high s r.2 m d (omega (arith, inside)) in
    or_from _ (has (take (suc m) s) n) (ne_eqb n (index_of p) (λ e. absurd (omega (arith, e, j, more)))) (not_before (index_of p + 1) high s r.2 m d (omega (arith, inside)) n more)

-- an index that is smaller than the index of a place of a rising list is not among the places from this place on
pub not_after : (low high : ℕ) (s : List Place) → Rises low high s → (m : ℕ) (d : Place) → m < length s → (n : ℕ) → n < index_of (slice_index_or s m d) → has (drop m s) n ≡ false
not_after low high [] r m d inside n less = absurd (omega (arith, inside))
not_after low high (p ∷ s) r zero d inside n less = not_below (index_of p) high (p ∷ s) (omega arith, r.1, r.2) n less
not_after low high (p ∷ s) r (suc m) d inside n less = not_after (index_of p + 1) high s r.2 m d (omega (arith, inside)) n less

pub stands_there : (s : List Place) (m : ℕ) (d : Place) → m < length s → (n : ℕ) → index_of (slice_index_or s m d) ≡ n → has s n ≡ true
stands_there [] m d inside n is = absurd (omega (arith, inside))
stands_there (p ∷ s) zero d inside n is = ap (λ b. b || has s n) (eq-eqb n (index_of p) (sym is))
stands_there (p ∷ s) (suc m) d inside n is = ap (λ b. eqb n (index_of p) || b) (stands_there s m d (omega (arith, inside)) n is) ∙ or_true _

-- an index that is in neither of two parts of a list is not in the list
pub stands_nowhere : (s : List Place) (m n : ℕ) → has (take m s) n ≡ false → has (drop m s) n ≡ false → has s n ≡ false
stands_nowhere [] m n e f = refl
stands_nowhere (p ∷ s) zero n e f = f
stands_nowhere (p ∷ s) (suc m) n e f = by_first (eqb n (index_of p)) e (λ g. stands_nowhere s m n g f)
  where
    by_first : (b : Bool) → (b || has (take m s) n) ≡ false → (has (take m s) n ≡ false → has s n ≡ false) → (b || has s n) ≡ false
    by_first true g h = g
    by_first false g h = h g

-- if the list s is added, the number of lists that contain the index n grows by 1 if s contains n, and otherwise stays the same
pub times_more : (ls : List (List Place)) (s : List Place) (n : ℕ) → times (ls ++ s ∷ []) n ≡ times ls n + (cond (has s n) 1 0)
times_more [] s n = omega arith
times_more (t ∷ ls) s n = let e = times_more ls s n in omega (arith, e)

-- if all lists rise, the list at each index rises
pub rises_at : {A : Type 0} (high : ℕ) (lists : List (Vec Place A)) → All (Rises 0 high) (places_in lists) → (k : ℕ) (d : Vec Place A) → k < length lists
    → Rises 0 high (slice_index_or lists k d).items
rises_at high [] all k d inside = absurd (omega (arith, inside))
rises_at high (l ∷ lists) all zero d inside = all 0 [] (omega arith)
rises_at high (l ∷ lists) all (suc k) d inside = rises_at high lists (λ j e low. all (suc j) e (omega (arith, low))) k d (omega (arith, inside))

-- the index n adds 1 to the count if more than one list contains it, and otherwise nothing
pub found_one : (n : ℕ) (lists : List (List Place)) → 1 < times lists n → doubles_below (n + 1) lists ≡ doubles_below n lists + 1
found_one n lists more =
    let up : n + 1 ≡ suc n = omega arith in
    let e = ap {B = ℕ} (λ (b : Bool). cond b 1 0) (lt-ltb 1 (times lists n) more) in
    ap (λ (k : ℕ). doubles_below k lists) up ∙ omega (arith, e)

pub found_none : (n : ℕ) (lists : List (List Place)) → times lists n ≤ 1 → doubles_below (n + 1) lists ≡ doubles_below n lists
found_none n lists few =
    let up : n + 1 ≡ suc n = omega arith in
    let e = ap {B = ℕ} (λ (b : Bool). cond b 1 0) (le-ltb 1 (times lists n) few) in
    ap (λ (k : ℕ). doubles_below k lists) up ∙ omega (arith, e)
