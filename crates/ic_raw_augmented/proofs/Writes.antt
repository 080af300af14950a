-- A lemma on what changes if one sum is written.
use Rattle.std.proofs.Common.{◌≡◌, ◌≢◌, ℕ, List, slice_set, ap}
use Rattle.ic_link_ops.specs.Prelude.{Place, index_of}
use Rattle.ic_link_ops.proofs.EntryLemmas.{others_same}
use Rattle.ic_raw_augmented.specs.declared.sums.RawSum.{RawSum}
use Rattle.ic_raw_augmented.specs.Sums.{sum_at}

pub other_sums : (sums : List RawSum) (p : Place) (new : RawSum) (i : ℕ) → i ≡ index_of p → (q : Place) → q ≢ p → sum_at (slice_set sums i new) q ≡ sum_at sums q
other_sums sums p new i at_p q apart = ap (λ (k : RawSum). k.sum) (others_same (record { value = 0; sum = 0 }) sums p new i at_p q apart)
