use Rattle.std.proofs.Common.{subst, sym}
use Rattle.ic_link_ops.specs.LinkedList.{Represents, members}
use Rattle.ic_container.proofs.HoldsLemmas.{list_reading}
use Rattle.ic_container.proofs.lists.push_front.Goals as goal

pub returns : goal.returns
returns g c =
    let links = c.args.links.now in
    let t = g.L.LinkOps.table links in
    let e = rw c.new.ensures at c.push_front.ensures in
    let reading = list_reading {table = g.L.LinkOps.table} (record { alike = g.met.L.LinkedListOps.linked_alike; covered = g.met.L.LinkOps.linked_is_covered }) in
    let s = members g.L.LinkedListOps.neighbors t c.args.list.now in
    let shown = subst (Represents g.L.LinkedListOps.neighbors t c.args.list.now) (sym (reading.members_are links c.args.list.now _ c.requires.shown.1)) c.requires.shown.1 in
    record { was = shown; is = e.shown s shown; also = e.linked; frame = e.frame s shown }
