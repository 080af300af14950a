use Rattle.std.proofs.Common.{◌∙◌, sym}
use Rattle.ic_hash_table.proofs.SlotLemmas.{one_slots}
use Rattle.ic_hash_table.proofs.table.HashTable.from_buckets.Goals as goal

pub returns-clause-slots : goal.returns-clause-slots
returns-clause-slots g c slots well_formed used = one_slots c.all.result slots c.all.ensures.well_formed well_formed (used ∙ sym c.all.ensures.used)
