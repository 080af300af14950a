use Rattle.std.proofs.Common.{◌≡◌, ℕ, ◌<◌, Some, slice_get}
use Rattle.ic_link_ops.specs.Sequences.{IsMember}
use Rattle.ic_any_collection.specs.AnyTables.{table_in}
use Rattle.ic_any_collection.specs.AnyCollection.{members_in}
use Rattle.ic_world.specs.declared.collections_by_number.Numbered.{Numbered}
use Rattle.ic_world.proofs.collections_by_number.contains_in.Given as goal

abbrev pub invariant-loop-one : goal.invariant-loop-one
invariant-loop-one g l = (i : ℕ) → i < l.one-index → (n : Numbered _) → slice_get l.list i ≡ Some n → IsMember l.object (members_in (table_in l.links) n.members) → ⊥
