use Rattle.std.proofs.Common.{arith}
use Rattle.ic_unsafe_ref.proofs.PlaceLemmas.{place_at_other}
use Rattle.keyed_tests.proofs.hash_table.narrow.a_table_of_lent_narrow_words.Goals as goal

pub new-table-requires-clause-empty : goal.new-table-requires-clause-empty
new-table-requires-clause-empty g c =
    (place_at_other 0 (λ h. absurd (omega (arith, h.0))), (place_at_other 7 (λ h. absurd (omega (arith, h.0))), (place_at_other 20 (λ h. absurd (omega (arith, h.2))), (place_at_other 0 (λ h. absurd (omega (arith, h.0))), tt))))
