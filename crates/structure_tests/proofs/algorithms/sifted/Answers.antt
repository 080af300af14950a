use Rattle.std.proofs.Common.{true}
use Rattle.structure_tests.proofs.PlacedChains.{placed_members, still_of_eight}
use Rattle.structure_tests.proofs.algorithms.sifted.Goals as goal

pub retain-requires-clause-placed : goal.retain-requires-clause-placed
retain-requires-clause-placed g c = placed_members (λ q b a k. g.met.L.LinkOps.linked_is_covered c.args.links.now q (g.met.K.ForwardLinks.between_linked _ b a k)) c.requires.held

pub returns : goal.returns
returns g c =
    let h = c.requires.held in
    let k = c.retain.ensures.retained h.shown.0 (λ value. true) h.shown.1 in
    record { held = still_of_eight h k.frame.extent (k.kept, k.shown) }
