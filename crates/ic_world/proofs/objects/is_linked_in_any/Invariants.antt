use Rattle.std.proofs.Common.{◌≡◌, false, map, take}
use Rattle.std.specs.List.{list_any}
use Rattle.std.specs.FinSet as set
use Rattle.ic_unsafe_ref.specs.Places.{index_of}
use Rattle.ic_world.specs.Prelude.{LinkField, table_of, field_in}
use Rattle.ic_world.proofs.objects.is_linked_in_any.Given as goal

abbrev pub invariant-loop-f : goal.invariant-loop-f
invariant-loop-f g l = record { none : list_any (λ (x : LinkField). set.contains x.linked (index_of l.object)) (take l.f (map field_in (map table_of l.tables))) ≡ false }
