use Rattle.std.proofs.Common.{[], ◌∙◌, rules}
use Rattle.ic_link_ops.specs.Chains.{list_head}
use Rattle.ic_link_ops.proofs.RepresentedLists.{represents_replace}
use Rattle.ic_link_ops.proofs.Naming.{end_named}
use Rattle.ic_chain.proofs.list.LinkList.replace_linked.Goals as goal

pub set_prev_or_tail-requires-clause-linked : goal.set_prev_or_tail-requires-clause-linked
set_prev_or_tail-requires-clause-linked g c names q e = g.met.L.LinkOps.does_replay _ _ [] c.set_next_or_head.ensures.trace_stays q ∙ c.requires.after names q e

pub set_neighbors-requires-clause-prev : goal.set_neighbors-requires-clause-prev
set_neighbors-requires-clause-prev g c =
    let L = g.met.L.LinkOps in
    end_named _ _ (λ q e. L.covered_has_name _ q (L.linked_is_covered _ q (c.requires.before q e)))

pub returns : goal.returns
returns g c = record {
  shows = λ front back shown before after free.
      represents_replace {t3 = g.L.LinkOps.table c.set_neighbors.new.links} {list' = list_head c.set_next_or_head.new.head c.set_prev_or_tail.new.tail}
      front back c.args.out before after (rw (← c.self.view_is) at shown) free c.set_next_or_head.ensures.turns c.set_prev_or_tail.ensures.turns
      c.set_neighbors.ensures.set c.set_neighbors.ensures.frame.others c.set_next_or_head.ensures.head c.set_prev_or_tail.ensures.tail;
  ends = rw (← c.self.view_is) (record { head = c.set_next_or_head.ensures.head; tail = c.set_prev_or_tail.ensures.tail });
  trace_stays =
      let L = g.met.L.LinkOps in
      L.does_on _ _ _ _ _ (L.does_on _ _ _ _ _ c.set_next_or_head.ensures.trace_stays c.set_prev_or_tail.ensures.trace_stays) c.set_neighbors.ensures.trace_stays;
  extent = search rules;
  others = search rules;
}
