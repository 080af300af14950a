use Rattle.std.proofs.Common.{[], ◌∷◌}
use Rattle.ic_link_ops.specs.LinkSteps.{acquires}
use Rattle.ic_ring.proofs.Circles.{free_outside}
use Rattle.structure_tests.proofs.Rings.{places_of}
use Rattle.structure_tests.proofs.ring.opened.Goals as goal

pub returns-clause-covers : goal.returns-clause-covers
returns-clause-covers g c = places_of c.open-opened.ensures.frame.extent c.requires.covers

pub returns-clause-shown : goal.returns-clause-shown
returns-clause-shown g c =
    let k = rw c.expect-ring.ensures at c.open-opened.ensures.opened in
    rw (c.from_head.ensures, c.head.ensures, k.0) k.1

pub returns-clause-ring : goal.returns-clause-ring
returns-clause-ring g c =
    let k = rw c.expect-ring.ensures at c.open-opened.ensures.opened in
    rw (c.from_head.ensures, c.head.ensures, k.0) ([], k.1)

pub returns-clause-others : goal.returns-clause-others
returns-clause-others g c r circle =
    let k = rw c.expect-ring.ensures at c.open-opened.ensures.opened in
    let did = rw c.expect-ring.ensures at c.open-opened.ensures.acquired in
    let off = (g.met.L.LinkOps.does_replay _ _ (acquires c.place_at.result ∷ []) did).was in
    (c.open-opened.ensures.others.rings r circle tt, rw (c.from_head.ensures, c.head.ensures, k.0) (free_outside g.met.L.LinkedListOps.linked_alike circle off))
