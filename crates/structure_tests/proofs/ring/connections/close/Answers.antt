use Rattle.std.proofs.Common.{refl}
use Rattle.structure_tests.proofs.ring.connections.close.Goals as goal

pub returns-clause-extent : goal.returns-clause-extent
returns-clause-extent g c = let ring = c.requires.queued in (c.remove.ensures.frame _ (ring.1, λ out. out.0 refl)).extent
