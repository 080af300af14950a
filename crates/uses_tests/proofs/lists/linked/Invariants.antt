use Rattle.ic_link_ops.specs.DoublyEntries.{PlainRepresents}
use Rattle.ic_link_ops.specs.PlacedObjects.{RepresentsPlaced}
use Rattle.uses_tests.proofs.lists.linked.Given as goal

abbrev pub invariant-loop-index : goal.invariant-loop-index
invariant-loop-index g l = RepresentsPlaced (PlainRepresents l.links l.list) l.objects
