use Rattle.std.proofs.Common.{◌≡◌, inl, inr, [], ◌∙◌}
use Rattle.std.proofs.lemmas.Result.{on_ok_weaker}
use Rattle.ic_link_ops.specs.LinkedList.{next_of}
use Rattle.ic_chain.specs.Iter.{objects_left}
use Rattle.ic_link_ops.proofs.BothEnds.{from_front_map, from_back_map}
use Rattle.ic_link_ops.proofs.WalkLaws.{two_ended_walk}
use Rattle.uses.proofs.Dealing.{gained_is}
use Rattle.uses.proofs.deal.show.Goals as goal

pub returns-clause-shows : goal.returns-clause-shows
returns-clause-shows g c s shown =
    let left = objects_left (next_of g.L.LinkedListOps.neighbors) g.L.LinkOps.table (λ objects. objects) in
    let e = c.in_turns.ensures.dealt in
    on_ok_weaker c.in_turns.result (λ over.
    let none : left e.0 ≡ [] = elim over.2 [ inl gives ↦ gives.0.0 | inr gives ↦ gives.0.0 ] in
    rw (gained_is _ _ _ e.1.at_fronts, gained_is _ _ _ e.1.at_backs, from_front_map _ e.1.items, from_back_map _ e.1.items)
    (two_ended_walk left c.iter.result e.0 e.1.items e.1.leads none ∙ c.iter.ensures.walks s shown)) e.2
