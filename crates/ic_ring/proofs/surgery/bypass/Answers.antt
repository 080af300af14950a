use Rattle.std.proofs.Common.{Some, [], ◌++◌, ◌∙◌}
use Rattle.ic_link_ops.specs.Sequences.{first, last, last_or}
use Rattle.ic_link_ops.proofs.DoublyLists.{next_turns, prev_turns}
use Rattle.ic_ring.proofs.Circles.{circle_closed, circle_bypassed}
use Rattle.ic_ring.proofs.Turning.{turned}
use Rattle.ic_ring.proofs.surgery.bypass.Goals as goal

pub set_prev-requires : goal.set_prev-requires
set_prev-requires g c = record { linked = g.met.L.LinkOps.does_replay _ _ [] c.set_next.ensures.trace_stays c.args.after ∙ c.requires.after; prev = g.met.L.LinkOps.covered_has_name _ _ (g.met.L.LinkOps.linked_is_covered _ _ c.requires.before) }

pub returns-clause-closed : goal.returns-clause-closed
returns-clause-closed g c p r circle before after =
    circle_closed p r circle
    (rw (before, after) at (next_turns {n = g.L.LinkedListOps.neighbors} (Some p) c.set_next.ensures.frame c.set_next.ensures.set))
    (rw (before, after) at (prev_turns {n = g.L.LinkedListOps.neighbors} (Some p) c.set_prev.ensures.frame c.set_prev.ensures.set))

pub returns-clause-stretch : goal.returns-clause-stretch
returns-clause-stretch g c out r circle before after =
    circle_bypassed out r circle
    (rw (before, after) at (next_turns {n = g.L.LinkedListOps.neighbors} (first (out ++ r)) c.set_next.ensures.frame c.set_next.ensures.set))
    (rw (before, after) at (prev_turns {n = g.L.LinkedListOps.neighbors} (last_or (last (out ++ r)) out) c.set_prev.ensures.frame c.set_prev.ensures.set))

pub returns-clause-turned : goal.returns-clause-turned
returns-clause-turned g c = turned g.L.LinkedListOps.neighbors c.set_next.ensures.frame c.set_next.ensures.set c.set_prev.ensures.frame c.set_prev.ensures.set

pub returns-clause-trace_stays : goal.returns-clause-trace_stays
returns-clause-trace_stays g c = g.met.L.LinkOps.does_on _ _ _ _ _ c.set_next.ensures.trace_stays c.set_prev.ensures.trace_stays

pub returns-clause-others : goal.returns-clause-others
returns-clause-others g c q before after = c.set_prev.ensures.frame.others q after ∙ c.set_next.ensures.frame.others q before
