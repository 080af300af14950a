use Rattle.std.proofs.Common.{[], ◌∙◌}
use Rattle.ic_link_ops.specs.Chains.{list_head}
use Rattle.ic_link_ops.proofs.RepresentedLists.{represents_remove}
use Rattle.ic_link_ops.proofs.Naming.{end_named}
use Rattle.ic_chain.proofs.list.LinkList.bypass.Goals as goal

pub set_prev_or_tail-requires-clause-linked : goal.set_prev_or_tail-requires-clause-linked
set_prev_or_tail-requires-clause-linked g c names q e = g.met.L.LinkOps.does_replay _ _ [] c.set_next_or_head.ensures.trace_stays q ∙ c.requires.after names q e

pub set_prev_or_tail-requires-clause-to : goal.set_prev_or_tail-requires-clause-to
set_prev_or_tail-requires-clause-to g c =
    let L = g.met.L.LinkOps in
    end_named _ _ (λ q e. L.covered_has_name _ q (L.linked_is_covered _ q (c.requires.before q e)))

pub returns-clause-shows : goal.returns-clause-shows
returns-clause-shows g c front back shown before after =
    represents_remove {t2 = g.L.LinkOps.table c.set_prev_or_tail.new.links} {list' = list_head c.set_next_or_head.new.head c.set_prev_or_tail.new.tail}
    front back c.args.out before after (rw (← c.self.view_is) at shown) c.set_next_or_head.ensures.turns c.set_prev_or_tail.ensures.turns
    c.set_next_or_head.ensures.head c.set_prev_or_tail.ensures.tail

pub returns-clause-trace_stays : goal.returns-clause-trace_stays
returns-clause-trace_stays g c = g.met.L.LinkOps.does_on _ _ _ _ _ c.set_next_or_head.ensures.trace_stays c.set_prev_or_tail.ensures.trace_stays

pub returns-clause-ends : goal.returns-clause-ends
returns-clause-ends g c = rw (← c.self.view_is) (record { head = c.set_next_or_head.ensures.head; tail = c.set_prev_or_tail.ensures.tail })
