use Rattle.std.proofs.Common.{take}
use Rattle.ic_link_ops.specs.DoublyEntries.{is_linked, neighbors_of, plain_table}
use Rattle.ic_linked_list.specs.ListedValues.{HasValues}
use Rattle.uses.proofs.first_objects.first_objects.Given as goal

abbrev pub invariant-loop-value : goal.invariant-loop-value
invariant-loop-value g l = HasValues neighbors_of is_linked (plain_table l.pool.links) l.list l.pool.objects (take l.value-index l.value-items)
