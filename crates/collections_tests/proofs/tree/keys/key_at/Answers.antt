use Rattle.ic_unsafe_ref.proofs.IndexLemmas.{placed_in_range}
use Rattle.collections_tests.proofs.tree.keys.key_at.Goals as goal

pub value-requires : goal.value-requires
value-requires c = record { placed = placed_in_range c.args.keys.now _ c.requires.in_range }
