use Rattle.std.proofs.Common.{ap}
use Rattle.ic_link_ops.proofs.XorLists.{joined_symmetric}
use Rattle.ic_link_ops.proofs.RepresentedLists.{represents_reversed}
use Rattle.ic_xor_linked_list.proofs.laws.reversed_is_represented.Goals as goal

pub returns : goal.returns
returns g c = record {
  shown = λ s shown.
      represents_reversed (joined_symmetric g.met.L.XorLinkedListOps.symmetric) shown (ap (λ list. list.head) c.reverse.ensures) (ap (λ list. list.tail) c.reverse.ensures);
}
