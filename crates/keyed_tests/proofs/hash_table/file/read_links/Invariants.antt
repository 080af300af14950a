use Rattle.std.proofs.Common.{◌≡◌}
use Rattle.ic_link_ops.specs.OneWord.{no_word}
use Rattle.ic_link_ops.specs.Prelude.{table, wide}
use Rattle.keyed_tests.proofs.hash_table.file.read_links.Given as goal

abbrev pub invariant-loop-index : goal.invariant-loop-index
invariant-loop-index l = record { covers : (table wide no_word l.links).extent.places ≡ 8 }
