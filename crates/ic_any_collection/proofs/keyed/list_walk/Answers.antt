use Rattle.ic_any_collection.proofs.Common.{sym, ap, Some, ◌∙◌, walk_count, lists_first, lists_all, lists_next, lists_stands, is_there}
use Rattle.ic_any_collection.proofs.keyed.list_walk.Goals as goal

pub loop-places-init : goal.loop-places-init
loop-places-init g c =
    let e = c.cursor_from_ptr-cursor.ensures in
    let count = walk_count g.L.RBTreeOps.node g.L.LinkOps.table g.O.Values.values (λ t q h. g.met.L.LinkOps.linked_is_covered t q (sym (g.met.L.RBTreeOps.linked_alike _) ∙ h)) c.args.walk c.requires.can_walk in
    rw (e.tree, e.links, c.new-places.ensures.items) (lists_first c.requires.shown c.in-Some.ensures (e.position ∙ ap Some c.new.ensures) count)

pub unwrap-requires : goal.unwrap-requires
unwrap-requires g c = rw c.get_ptr-in-Some-next.ensures (is_there c.loop-places.invariant c.in-Some-next.ensures.steps.0)

pub move_next-requires : goal.move_next-requires
move_next-requires g c = record { stands = lists_stands c.loop-places.invariant }

pub loop-places-preserved : goal.loop-places-preserved
loop-places-preserved g c =
    let e = c.move_next.ensures in
    rw (e.list, e.links) (lists_next c.loop-places.invariant c.in-Some-next.ensures.steps.0 (sym c.get_ptr-in-Some-next.ensures ∙ c.unwrap.ensures) c.in_ok-push.ensures.items e.moved.leads)

pub returns : goal.returns
returns g c = lists_all c.loop-places.invariant c.in_default-next.ensures.steps.0.0
