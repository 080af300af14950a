use Rattle.std.proofs.Common.{Some, ◌∙◌, arith}
use Rattle.ic_unsafe_ref.proofs.PlaceLemmas.{word_fits}
use Rattle.ic_raw_augmented.proofs.Recomputing.{names_place}
use Rattle.ic_raw_augmented.proofs.recompute.place_at.Goals as goal

pub returns : goal.returns
returns c q e = let fits = word_fits (Some q) in c.place_in.ensures ∙ names_place q _ (omega (arith, e, fits.0, fits.1))
