use Rattle.std.proofs.Common.{◌≡◌, inl, inr, []}
use Rattle.std.proofs.lemmas.Result.{on_ok_weaker}
use Rattle.ic_link_ops.proofs.DoublyLists.{doubly_lists}
use Rattle.ic_chain.specs.IntoIter.{rest_of}
use Rattle.ic_link_ops.proofs.Taking.{two_ended_taking}
use Rattle.ic_link_ops.proofs.SequenceLemmas.{nothing_first, nothing_last}
use Rattle.uses.proofs.Dealing.{gained_is}
use Rattle.uses.proofs.deal.deal.Goals as goal

pub returns-clause-dealt : goal.returns-clause-dealt
returns-clause-dealt g c s shown =
    let e = c.in_turns.ensures.dealt in
    let kind = doubly_lists {n = g.L.LinkedListOps.neighbors} {linked = g.L.LinkOps.linked} g.met.L.LinkedListOps.linked_alike in
    on_ok_weaker c.in_turns.result (λ over.
    let rest = over.0 in
    let none : rest.0 ≡ [] = elim over.2 [ inl takes ↦ nothing_first rest.0 (takes.answer rest.0 rest.1) | inr takes ↦ nothing_last rest.0 (takes.answer rest.0 rest.1) ] in
    rw (gained_is _ _ _ e.1.at_fronts, gained_is _ _ _ e.1.at_backs)
    (two_ended_taking kind g.L.LinkOps.table g.L.LinkOps.Trace rest_of c.into_iter.result e.0 s e.1.items
    (rw (c.into_iter.ensures.links, c.into_iter.ensures.list) shown) e.1.leads (rw none at rest.1))) e.2
