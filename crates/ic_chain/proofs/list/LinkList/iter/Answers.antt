use Rattle.std.proofs.Common.{ap}
use Rattle.ic_link_ops.specs.PlacedObjects.{values_at}
use Rattle.ic_link_ops.proofs.Walks.{stretch_of}
use Rattle.ic_chain.proofs.Walking.{walks_over}
use Rattle.ic_chain.proofs.list.LinkList.iter.Goals as goal

pub returns-clause-walks : goal.returns-clause-walks
returns-clause-walks g c s shown =
    rw (c.first.ensures, c.kept_last.ensures, shown.tail)
    (ap (values_at (g.O.Values.values c.args.objects.now))
    (walks_over g.K.ForwardLinks.step g.met.K.ForwardLinks.leads (g.L.LinkOps.table c.args.links.now)
    (λ q b a h. g.met.L.LinkOps.linked_is_covered _ q (g.met.K.ForwardLinks.between_linked _ b a h)) g.K.ListKind.keeps_last _ (stretch_of shown) (g.met.K.ListKind.tells_last _)))

pub returns-clause-can_walk : goal.returns-clause-can_walk
returns-clause-can_walk g c =
    let r = c.requires.placed in
    (r.members, (rw c.first.ensures (stretch_of r.shown), rw (c.kept_last.ensures, r.shown.tail) (g.met.K.ListKind.tells_last _)), r.placed)
