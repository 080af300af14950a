use Rattle.std.proofs.Common.{refl}
use Rattle.structure_tests.proofs.ring.connections.touch.Goals as goal

pub returns-clause-extent : goal.returns-clause-extent
returns-clause-extent g c =
    let q = c.requires.idle in
    let ring = c.requires.queued in
    (c.move_to_back.ensures.frame q.0 _ q.1 (ring.1, λ out. out.0 refl)).extent
