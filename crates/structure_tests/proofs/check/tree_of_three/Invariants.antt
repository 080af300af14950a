use Rattle.ic_rbtree.specs.Prelude.{PlainRepresentsSome, root_of}
use Rattle.structure_tests.proofs.check.tree_of_three.Given as goal

abbrev pub invariant-loop-index : goal.invariant-loop-index
invariant-loop-index l = record { shown : PlainRepresentsSome l.links (root_of l.tree) }
