use Rattle.std.proofs.Common.{refl, sym, ◌∙◌}
use Rattle.ic_link_ops.proofs.SequenceLemmas.{gap_not}
use Rattle.ic_link_ops.proofs.RepresentedLists.{represents_beside, represents_insert, free_absent, gap_linked, gap_after_linked}
use Rattle.ic_link_ops.specs.Chains.{list_head}
use Rattle.ic_link_ops.proofs.Naming.{end_named}
use Rattle.ic_chain.proofs.list.LinkList.insert_between.Goals as goal

pub link_between-requires-clause-prev : goal.link_between-requires-clause-prev
link_between-requires-clause-prev g c =
    let L = g.met.L.LinkOps in
    let r = c.requires.shown in
    end_named _ _ (λ q e. L.covered_has_name _ q (L.linked_is_covered _ q (gap_linked g.met.K.ForwardLinks.between_linked r.0.front r.0.back r.1 (sym e ∙ r.2))))

pub link_between-requires-clause-next : goal.link_between-requires-clause-next
link_between-requires-clause-next g c =
    let L = g.met.L.LinkOps in
    let r = c.requires.shown in
    end_named _ _ (λ q e. L.covered_has_name _ q (L.linked_is_covered _ q (gap_after_linked g.met.K.ForwardLinks.between_linked r.0.front r.0.back r.1 (sym e ∙ r.3))))

pub set_next_or_head-requires-clause-from : goal.set_next_or_head-requires-clause-from
set_next_or_head-requires-clause-from g c =
    let L = g.met.L.LinkOps in
    let r = c.requires.shown in
    end_named _ _ (λ q e. L.covered_has_name _ q (L.linked_is_covered _ q (gap_after_linked g.met.K.ForwardLinks.between_linked r.0.front r.0.back r.1 (sym e ∙ r.3))))

pub set_prev_or_tail-requires-clause-from : goal.set_prev_or_tail-requires-clause-from
set_prev_or_tail-requires-clause-from g c =
    let L = g.met.L.LinkOps in
    let r = c.requires.shown in
    end_named _ _ (λ q e. L.covered_has_name _ q (L.linked_is_covered _ q (gap_linked g.met.K.ForwardLinks.between_linked r.0.front r.0.back r.1 (sym e ∙ r.2))))

pub set_next_or_head-requires-clause-linked : goal.set_next_or_head-requires-clause-linked
set_next_or_head-requires-clause-linked g c q e =
    let r = c.requires.shown in
    let a = c.if-not-link_between.ensures in
    let out = free_absent g.met.K.ForwardLinks.between_linked r.1 (g.met.L.LinkOps.does_replay _ _ _ a.acquired).was in
    gap_linked g.met.K.ForwardLinks.between_linked r.0.front r.0.back (represents_beside {new = g.L.LinkOps.table c.link_between.new.links} r.1 out a.frame.others) (sym e ∙ r.2)

pub set_prev_or_tail-requires-clause-linked : goal.set_prev_or_tail-requires-clause-linked
set_prev_or_tail-requires-clause-linked g c names q e =
    let r = c.requires.shown in
    let a = c.if-not-link_between.ensures in
    let out = free_absent g.met.K.ForwardLinks.between_linked r.1 (g.met.L.LinkOps.does_replay _ _ _ a.acquired).was in
    g.met.L.LinkOps.does_replay _ _ _ c.set_next_or_head.ensures.trace_stays q
    ∙ gap_after_linked g.met.K.ForwardLinks.between_linked r.0.front r.0.back (represents_beside {new = g.L.LinkOps.table c.link_between.new.links} r.1 out a.frame.others) (sym e ∙ r.3)

pub returns-clause-frame : goal.returns-clause-frame
returns-clause-frame g c gap shown before after =
    let a = c.if-not-link_between.ensures in record {
      extent = c.set_prev_or_tail.ensures.extent ∙ c.set_next_or_head.ensures.extent ∙ a.frame.extent;
      others = λ q out.
          let beside = gap_not gap.front gap.back before after out.1 in
          c.set_prev_or_tail.ensures.turns.others q beside.1 ∙ c.set_next_or_head.ensures.turns.others q beside.0 ∙ a.frame.others q out.0;
    }

pub returns-clause-acquired : goal.returns-clause-acquired
returns-clause-acquired g c =
    let L = g.met.L.LinkOps in
    L.does_on _ _ _ _ _ (L.does_on _ _ _ _ _ c.if-not-link_between.ensures.acquired c.set_next_or_head.ensures.trace_stays) c.set_prev_or_tail.ensures.trace_stays

pub returns-clause-inserted : goal.returns-clause-inserted
returns-clause-inserted g c gap shown before after =
    let a = c.if-not-link_between.ensures in
    let links = g.met.L.LinkOps.does_replay _ _ _ a.acquired in
    let out = free_absent g.met.K.ForwardLinks.between_linked shown links.was in
    let apart = gap_not gap.front gap.back before after out in
    let was = rw (← c.self.view_is) at shown in
    record {
      shows = represents_insert {t3 = g.L.LinkOps.table c.set_prev_or_tail.new.links} {list' = list_head c.set_next_or_head.new.head c.set_prev_or_tail.new.tail}
          gap.front gap.back before after (represents_beside {new = g.L.LinkOps.table c.link_between.new.links} was out a.frame.others) out
          c.set_next_or_head.ensures.turns c.set_prev_or_tail.ensures.turns
          (rw (c.set_prev_or_tail.ensures.turns.others _ apart.1, c.set_next_or_head.ensures.turns.others _ apart.0) a.set) (λ q other. refl)
          c.set_next_or_head.ensures.head c.set_prev_or_tail.ensures.tail;
      frame = returns-clause-frame g c gap shown before after;
    }
