-- Lemmas on a row of places with neighboring indexes, the record of one claim of each, and the places whose claims succeeded.
use Rattle.std.proofs.Common.{◌≡◌, ◌<◌, ◌≤◌, ◌+◌, ℕ, zero, suc, Bool, true, false, true≢false, cond, eqb, ◌||◌, List, [], ◌∷◌, ◌++◌, length, refl, sym, ap, ◌∙◌, subst, arith, eq-eqb, ne_eqb, slice_index_or}
use Rattle.std.proofs.lemmas.Bool.{or_left, or_right}
use mathlib.Core.Logic.{dite}
use native.Mathlib.Decide.{ℕ_discrete}
use Rattle.ic_link_ops.specs.Prelude.{Place, index_of}
use Rattle.ic_atomic.specs.Records.{held_from, holds}
use Rattle.ic_atomic.specs.Gathering.{claims_of_each, chosen}
use Rattle.ic_workers.specs.SharedOut.{has, Rises}
use Rattle.ic_workers.specs.Claimed.{IsRow}
use Rattle.ic_workers.proofs.OnlyClaims.{OnlyClaims, asks}

-- a row of places, followed by the place with the next index, is a row
pub row_more : (from : ℕ) (ps : List Place) (p : Place) → IsRow from ps → index_of p ≡ from + length ps → IsRow from (ps ++ p ∷ [])
row_more from [] p row e = (omega (arith, e), tt)
row_more from (q ∷ ps) p row e = (row.0, row_more (from + 1) ps p row.1 (omega (arith, e)))

-- for each index in the range of a row, the row has a place with this index
pub row_place : (from : ℕ) (ps : List Place) → IsRow from ps → (n : ℕ) → from ≤ n → n < from + length ps → (p : Place) × (index_of p ≡ n)
row_place from [] row n low high = absurd (omega (arith, low, high))
row_place from (p ∷ ps) row n low high = dite (ℕ_discrete n from)
    (λ e. (p, row.0 ∙ sym e))
    (λ ne. row_place (from + 1) ps row.1 n (omega (arith, low, ne)) (omega (arith, high)))

-- the place at position k of a row has the index `from` + k
pub row_inside : (from : ℕ) (ps : List Place) → IsRow from ps → (k : ℕ) (d : Place) → k < length ps → index_of (slice_index_or ps k d) ≡ from + k
row_inside from [] row k d low = absurd (omega (arith, low))
row_inside from (p ∷ ps) row zero d low = omega (arith, row.0)
row_inside from (p ∷ ps) row (suc k) d low = let e = row_inside (from + 1) ps row.1 k d (omega (arith, low)) in omega (arith, e)

-- lemmas for `holds_chosen`: after one claim of each place, the holder holds exactly the places whose claims succeeded
or_false : (b : Bool) → b ≡ (b || false)
or_false true = refl
or_false false = refl

had_one : (b held h : Bool) → (cond b (held || true) held || h) ≡ (held || (b || h))
had_one true true h = refl
had_one true false h = refl
had_one false held h = refl

had_none : (b held h : Bool) → (cond b (held || false) held || h) ≡ (held || h)
had_none true true h = refl
had_none true false h = refl
had_none false held h = refl

held_chosen : (p : Place) (held : Bool) (ps : List Place) (got : List Bool) → length got ≡ length ps
    → held_from p held (claims_of_each ps got) ≡ (held || has (chosen ps got) (index_of p))
held_chosen p held [] got e = or_false held
held_chosen p held (q ∷ ps) [] e = absurd (omega (arith, e))
held_chosen p held (q ∷ ps) (true ∷ got) e = let b : Bool = eqb (index_of p) (index_of q) in
    held_chosen p (cond b (held || true) held) ps got (omega (arith, e)) ∙ had_one b held (has (chosen ps got) (index_of p))
held_chosen p held (q ∷ ps) (false ∷ got) e = let b : Bool = eqb (index_of p) (index_of q) in
    held_chosen p (cond b (held || false) held) ps got (omega (arith, e)) ∙ had_none b held (has (chosen ps got) (index_of p))

pub holds_chosen : (p : Place) (ps : List Place) (got : List Bool) → length got ≡ length ps → holds p (claims_of_each ps got) ≡ has (chosen ps got) (index_of p)
holds_chosen p ps got e = held_chosen p false ps got e

-- the record of one claim of each place has only claims, and has a claim of each of the places
pub only_each : (ps : List Place) (got : List Bool) → OnlyClaims (claims_of_each ps got)
only_each [] got = tt
only_each (p ∷ ps) [] = tt
only_each (p ∷ ps) (b ∷ got) = (tt, only_each ps got)

pub asks_each : (from : ℕ) (ps : List Place) (got : List Bool) → IsRow from ps → length got ≡ length ps → (n : ℕ) → from ≤ n → n < from + length ps
    → asks n (claims_of_each ps got) ≡ true
asks_each from [] got row e n low high = absurd (omega (arith, low, high))
asks_each from (p ∷ ps) [] row e n low high = absurd (omega (arith, e))
asks_each from (p ∷ ps) (b ∷ got) row e n low high = dite (ℕ_discrete n (index_of p))
    (λ is. or_left (eqb n (index_of p)) (asks n (claims_of_each ps got)) (eq-eqb n (index_of p) is))
    (λ ne. let i = row.0 in or_right (eqb n (index_of p)) (asks n (claims_of_each ps got)) (asks_each (from + 1) ps got row.1 (omega (arith, e)) n (omega (arith, low, ne, i)) (omega (arith, high))))

-- lemmas for `rises_chosen`: the places of a row whose claims succeeded are a rising list
rises_less : (low more high : ℕ) (s : List Place) → low ≤ more → Rises more high s → Rises low high s
rises_less low more high [] less rises = tt
rises_less low more high (p ∷ s) less rises = let r = rises.0 in (omega (arith, less, r), rises.1, rises.2)

pub rises_chosen : (from high : ℕ) (ps : List Place) (got : List Bool) → IsRow from ps → from + length ps ≤ high → Rises from high (chosen ps got)
rises_chosen from high [] got row fits = tt
rises_chosen from high (p ∷ ps) [] row fits = tt
rises_chosen from high (p ∷ ps) (true ∷ got) row fits =
    let i = row.0 in
    (omega (arith, i), omega (arith, i, fits), subst (λ (m : ℕ). Rises (m + 1) high (chosen ps got)) (sym i) (rises_chosen (from + 1) high ps got row.1 (omega (arith, fits))))
rises_chosen from high (p ∷ ps) (false ∷ got) row fits =
    rises_less from (from + 1) high (chosen ps got) (omega arith) (rises_chosen (from + 1) high ps got row.1 (omega (arith, fits)))

-- if a list contains an index, it contains a place with this index
pub has_place : (s : List Place) (n : ℕ) → has s n ≡ true → (p : Place) × (index_of p ≡ n)
has_place [] n e = absurd (true≢false (sym e))
has_place (p ∷ s) n e = dite (ℕ_discrete n (index_of p)) (λ is. (p, sym is)) (λ ne. has_place s n (sym (ap (λ (b : Bool). b || has s n) (ne_eqb n (index_of p) ne)) ∙ e))
