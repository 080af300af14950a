use Rattle.ic_container.proofs.HoldsLemmas.{list_reading, holds_off, stands}
use Rattle.ic_container.proofs.list_array.move_to_back.Goals as goal

pub remove-requires-clause-member : goal.remove-requires-clause-member
remove-requires-clause-member g c =
    let reading = list_reading (record { alike = g.met.L.LinkedListOps.linked_alike; covered = g.met.L.LinkOps.linked_is_covered }) in
    let h = c.requires.owner in stands reading h.1 c.args.index c.args.place h.2

pub push_back-requires-clause-shown : goal.push_back-requires-clause-shown
push_back-requires-clause-shown g c =
    let reading = list_reading (record { alike = g.met.L.LinkedListOps.linked_alike; covered = g.met.L.LinkOps.linked_is_covered }) in
    let e = c.remove.ensures.2 in (_, (holds_off reading c.requires.owner.1 c.args.index c.remove.new.links e.others e.edit).shown c.args.other)
