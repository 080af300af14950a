use Rattle.std.proofs.Common.{◌≤◌, length}
use Rattle.ic_link_ops.specs.DoublyEntries.{plain_table}
use Rattle.structure_tests.proofs.check.read_links.Given as goal

abbrev pub invariant-loop-index : goal.invariant-loop-index
invariant-loop-index l = record { covered : length l.words ≤ (plain_table l.links).extent.places }
