use Rattle.ic_link_ops.proofs.CollectionLaws.{others_stay}
use Rattle.ic_link_ops.proofs.SinglyLists.{singly_lists}
use Rattle.uses.proofs.free_list.take.Goals as goal

pub returns-clause-others : goal.returns-clause-others
returns-clause-others g c s t other shown beside apart =
    others_stay (singly_lists g.met.L.SinglyLinkedListOps.linked_alike) s beside apart (c.pop_front.ensures.frame s shown)
