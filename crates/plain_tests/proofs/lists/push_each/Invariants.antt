use Rattle.ic_link_ops.specs.LinkedList.{RepresentsSome}
use Rattle.ic_link_ops.specs.PlainTables.{table}
use Rattle.ic_link_ops.specs.Readings.{neighbors_of}
use Rattle.plain_tests.proofs.lists.push_each.Given as goal

abbrev pub invariant-loop-index : goal.invariant-loop-index
invariant-loop-index g l = record {
  shown : RepresentsSome (neighbors_of g.W.NextWord.next_word g.W.Words.is_linked g.W.PrevPlace.prev) (table g.W.Words.width g.W.Words.unlinked l.links) l.list;
}
