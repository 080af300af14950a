use Rattle.std.proofs.Common.{[], ◌∙◌, refl}
use Rattle.ic_link_ops.specs.Chains.{list_head}
use Rattle.ic_link_ops.proofs.SequenceLemmas.{gap_not}
use Rattle.ic_link_ops.proofs.RepresentedLists.{represents_split}
use Rattle.ic_link_ops.proofs.Naming.{end_named}
use Rattle.ic_chain.proofs.list.LinkList.split_between.Goals as goal

pub set_prev_or_tail-requires-clause-linked : goal.set_prev_or_tail-requires-clause-linked
set_prev_or_tail-requires-clause-linked g c names q e = g.met.L.LinkOps.does_replay _ _ [] c.set_next_or_head.ensures.trace_stays q ∙ c.requires.after names q e

pub set_prev_or_tail-requires-clause-from : goal.set_prev_or_tail-requires-clause-from
set_prev_or_tail-requires-clause-from g c =
    let L = g.met.L.LinkOps in
    end_named _ _ (λ q e. L.covered_has_name _ q (L.linked_is_covered _ q (c.requires.before q e)))

pub returns-clause-split : goal.returns-clause-split
returns-clause-split g c gap shown before after =
    let parts = represents_split {t2 = g.L.LinkOps.table c.set_prev_or_tail.new.links} {fronts = list_head c.set_next_or_head.new.head c.keep.result} {backs = list_head c.args.after c.set_prev_or_tail.new.tail}
    gap.front gap.back before after (rw (← c.self.view_is) at shown) c.set_next_or_head.ensures.turns c.set_prev_or_tail.ensures.turns
    c.set_next_or_head.ensures.head c.keep.ensures refl c.set_prev_or_tail.ensures.tail in
    record {
      keeps = rw c.replace.ensures.after parts.0;
      hands_out = rw (c.of.ensures, c.replace.ensures.value) parts.1;
      frame = record {
        extent = c.set_prev_or_tail.ensures.extent ∙ c.set_next_or_head.ensures.extent;
        others = λ q out.
            let beside = gap_not gap.front gap.back before after out in
            c.set_prev_or_tail.ensures.turns.others q beside.1 ∙ c.set_next_or_head.ensures.turns.others q beside.0;
      };
    }

pub returns-clause-trace_stays : goal.returns-clause-trace_stays
returns-clause-trace_stays g c = g.met.L.LinkOps.does_on _ _ _ _ _ c.set_next_or_head.ensures.trace_stays c.set_prev_or_tail.ensures.trace_stays

pub returns-clause-ends : goal.returns-clause-ends
returns-clause-ends g c =
    rw (← c.self.view_is) (record {
      head = c.set_next_or_head.ensures.head;
      tail = c.replace.ensures.after ∙ c.keep.ensures;
      rest_head = c.of.ensures;
      rest_tail = λ last is. c.replace.ensures.value ∙ c.set_prev_or_tail.ensures.tail last is;
    })
