use Rattle.std.proofs.Common.{◌≡◌, true, rules, subst}
use Rattle.ic_link_ops.specs.Prelude.{Place, HasMember}
use Rattle.ic_link_ops.proofs.Calling.{has_member}
use Rattle.ic_rbtree.specs.Prelude.{PlainRepresents, root_of}
use Rattle.ic_rbtree.proofs.SortedKeys.{new_is_sorted}
use Rattle.uses_tests.specs.declared.trees.Timer.{Timer}
use Rattle.uses_tests.proofs.trees.the_earliest_timer_is_taken_first.Goals as goal

pub loop-index-init : goal.loop-index-init
loop-index-init g c = record { queue = new_is_sorted (λ (timer : Timer). timer.deadline) _ c.new-timers.ensures.empty }

pub cancel-requires : goal.cancel-requires
cancel-requires g c =
    let s = c.loop-index.invariant.queue.placed in
    let shows = PlainRepresents c.loop-index.links (root_of c.loop-index.timers) in
    let there : c.contains.result ≡ true = search rules in
    record { member = subst (λ (q : Place). HasMember shows q) c.place.ensures (has_member shows s.members s.shown ((c.contains.ensures s.members s.shown).0 there)) }

pub take_all_due-refused-requires : goal.take_all_due-refused-requires
take_all_due-refused-requires g c = record { queue = c.cancel.ensures.queue c.placed-objects.result c.loop-index.invariant.queue }
