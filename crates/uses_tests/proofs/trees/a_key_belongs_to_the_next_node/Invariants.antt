use Rattle.ic_rbtree.specs.Prelude.{PlainRepresents, root_of, RepresentsSorted}
use Rattle.uses.specs.Ring.{point}
use Rattle.uses_tests.proofs.trees.a_key_belongs_to_the_next_node.Given as goal

abbrev pub invariant-loop-index : goal.invariant-loop-index
invariant-loop-index g l = record { ring : RepresentsSorted point (PlainRepresents l.links (root_of l.ring)) l.objects }

abbrev pub invariant-loop-hash : goal.invariant-loop-hash
invariant-loop-hash g l = record { ring : RepresentsSorted point (PlainRepresents l.links (root_of l.ring)) l.objects }
