-- These lemmas are about the numbers of places that cross to C.
use Rattle.std.proofs.Common.{◌≡◌, ◌<◌, ◌+◌, ◌*◌, ◌%◌, ℕ, Some, None, ap, ◌∙◌, arith}
use Rattle.ic_link_ops.specs.Prelude.{Place, index_of, place_at, word_of}
use Rattle.ic_unsafe_ref.proofs.PlaceLemmas.{place_at_word}
use Rattle.ic_raw.specs.Words.{place_of}

-- the number 4,294,967,295 names no place
pub none_named : place_of 4294967295 ≡ None
none_named = place_at_word None

-- each number below 4,294,967,295 names the place with this index
pub index_named : (p : Place) (i : ℕ) → i ≡ index_of p → i < 4294967295 → place_of i ≡ Some p
index_named p i is small =
    let same : 8 * ((i + 1) % 4294967296) ≡ word_of (Some p) = omega (arith, is, small) in
    ap place_at same ∙ place_at_word (Some p)
