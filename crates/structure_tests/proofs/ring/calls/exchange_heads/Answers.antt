use Rattle.std.proofs.Common.{refl}
use Rattle.structure_tests.proofs.Rings.{places_of, joined_heads}
use Rattle.structure_tests.proofs.ring.calls.exchange_heads.Goals as goal

pub exchange-requires-clause-first : goal.exchange-requires-clause-first
exchange-requires-clause-first g c = rw c.head.ensures c.requires.two.shown

pub exchange-requires-clause-second : goal.exchange-requires-clause-second
exchange-requires-clause-second g c = let a = c.requires.two.apart in rw c.head-2.ensures (a.0, a.1)

pub returns-clause-covers : goal.returns-clause-covers
returns-clause-covers g c =
    let q = c.requires.two.shown in
    let a = c.requires.two.apart in
    places_of ((rw (c.head.ensures, c.head-2.ensures) at c.exchange.ensures.frame) _ _ (q.1, λ out. out.0 refl) (a.1, λ out. out.0 refl)).extent c.requires.two.covers

pub returns-clause-shown : goal.returns-clause-shown
returns-clause-shown g c =
    let q = c.requires.two.shown in
    let a = c.requires.two.apart in
    joined_heads g.L.LinkedListOps.neighbors (g.L.LinkOps.table c.args.links.now) (g.L.LinkOps.table c.exchange.new.links) q.0 a.0 q.1 a.1 a.2 (rw (c.head.ensures, c.head-2.ensures) at c.exchange.ensures.joins)
