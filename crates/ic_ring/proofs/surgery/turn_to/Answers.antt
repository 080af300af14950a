use Rattle.std.proofs.Common.{[], ◌∙◌}
use Rattle.ic_link_ops.specs.Sequences.{first, last}
use Rattle.ic_link_ops.proofs.DoublyLists.{next_turns, prev_turns}
use Rattle.ic_ring.proofs.Circles.{circle_filled}
use Rattle.ic_ring.proofs.Turning.{turned}
use Rattle.ic_ring.proofs.surgery.turn_to.Goals as goal

pub set_prev-requires : goal.set_prev-requires
set_prev-requires g c = record { linked = g.met.L.LinkOps.does_replay _ _ [] c.set_next.ensures.trace_stays c.args.after ∙ c.requires.after; prev = c.requires.place }

pub returns-clause-filled : goal.returns-clause-filled
returns-clause-filled g c r circle out before after stands =
    circle_filled c.args.place r after circle out (rw (before, after) at stands)
    (rw before at (next_turns {n = g.L.LinkedListOps.neighbors} (first r) c.set_next.ensures.frame c.set_next.ensures.set))
    (rw after at (prev_turns {n = g.L.LinkedListOps.neighbors} (last r) c.set_prev.ensures.frame c.set_prev.ensures.set))

pub returns-clause-turned : goal.returns-clause-turned
returns-clause-turned g c = turned g.L.LinkedListOps.neighbors c.set_next.ensures.frame c.set_next.ensures.set c.set_prev.ensures.frame c.set_prev.ensures.set

pub returns-clause-trace_stays : goal.returns-clause-trace_stays
returns-clause-trace_stays g c = g.met.L.LinkOps.does_on _ _ _ _ _ c.set_next.ensures.trace_stays c.set_prev.ensures.trace_stays

pub returns-clause-others : goal.returns-clause-others
returns-clause-others g c q before after = c.set_prev.ensures.frame.others q after ∙ c.set_next.ensures.frame.others q before
