use Rattle.std.proofs.Common.{arith}
use Rattle.ic_unsafe_ref.proofs.PlaceLemmas.{place_at_other}
use Rattle.keyed_tests.proofs.hash_table.words.a_table_over_words.Goals as goal

pub found_again-found-requires-clause-none : goal.found_again-found-requires-clause-none
found_again-found-requires-clause-none g c = (
  place_at_other 0 (λ h. absurd (omega (arith, h.0))),
  (
    place_at_other 7 (λ h. absurd (omega (arith, h.0))),
    (
      place_at_other 20 (λ h. absurd (omega (arith, h.2))),
      (place_at_other 1099511627776 (λ h. absurd (omega (arith, h.1))), tt),
    ),
  ),
)
