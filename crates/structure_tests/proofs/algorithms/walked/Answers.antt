use Rattle.structure_tests.proofs.PlacedChains.{placed_members}
use Rattle.structure_tests.proofs.algorithms.walked.Goals as goal

pub is_sorted_by-requires-clause-placed : goal.is_sorted_by-requires-clause-placed
is_sorted_by-requires-clause-placed g c = placed_members (λ q b a k. g.met.L.LinkOps.linked_is_covered c.args.links.now q (g.met.K.ForwardLinks.between_linked _ b a k)) c.requires.held

pub len-requires : goal.len-requires
len-requires g c = record { shown = c.requires.held.shown }

pub nth-requires : goal.nth-requires
nth-requires g c = record { shown = c.requires.held.shown }

pub position-requires-clause-placed : goal.position-requires-clause-placed
position-requires-clause-placed g c = placed_members (λ q b a k. g.met.L.LinkOps.linked_is_covered c.args.links.now q (g.met.K.ForwardLinks.between_linked _ b a k)) c.requires.held

pub find-requires-clause-placed : goal.find-requires-clause-placed
find-requires-clause-placed g c = placed_members (λ q b a k. g.met.L.LinkOps.linked_is_covered c.args.links.now q (g.met.K.ForwardLinks.between_linked _ b a k)) c.requires.held
