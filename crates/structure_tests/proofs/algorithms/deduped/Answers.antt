use Rattle.ic_list_algorithms.proofs.RunLemmas.{no_test}
use Rattle.structure_tests.proofs.PlacedChains.{placed_members, still_of_eight}
use Rattle.structure_tests.proofs.algorithms.deduped.Goals as goal

pub dedup_by-requires-clause-placed : goal.dedup_by-requires-clause-placed
dedup_by-requires-clause-placed g c = placed_members (λ q b a k. g.met.L.LinkOps.linked_is_covered c.args.links.now q (g.met.K.ForwardLinks.between_linked _ b a k)) c.requires.held

pub len-requires : goal.len-requires
len-requires g c =
    let h = c.requires.held in
    let k = c.dedup_by.ensures.firsts_stay h.shown.0 no_test h.shown.1 in
    record { shown = (k.kept, k.shown) }

pub returns : goal.returns
returns g c =
    let h = c.requires.held in
    let k = c.dedup_by.ensures.firsts_stay h.shown.0 no_test h.shown.1 in
    record { held = still_of_eight h k.frame.extent (k.kept, k.shown) }
