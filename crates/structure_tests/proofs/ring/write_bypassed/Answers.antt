use Rattle.std.proofs.Common.{[], ◌∙◌}
use Rattle.ic_ring.proofs.Circles.{head_linked}
use Rattle.structure_tests.proofs.ring.write_bypassed.Goals as goal

pub bypass-requires : goal.bypass-requires
bypass-requires g c = record {
  before = head_linked g.met.L.LinkedListOps.linked_alike c.prev-before.ensures.ring.1;
  after = head_linked g.met.L.LinkedListOps.linked_alike c.next-after.ensures.ring.1;
}

pub next-requires : goal.next-requires
next-requires g c = record {
  linked = rw c.head-head.ensures (g.met.L.LinkOps.does_replay _ _ [] c.bypass.ensures.trace_stays _ ∙ head_linked g.met.L.LinkedListOps.linked_alike c.requires.1);
}

pub turn_to-requires : goal.turn_to-requires
turn_to-requires g c = record {
  before = g.met.L.LinkOps.does_replay _ _ [] c.bypass.ensures.trace_stays _ ∙ head_linked g.met.L.LinkedListOps.linked_alike c.prev-before.ensures.ring.1;
  after = g.met.L.LinkOps.does_replay _ _ [] c.bypass.ensures.trace_stays _ ∙ head_linked g.met.L.LinkedListOps.linked_alike c.next-after.ensures.ring.1;
  place = g.met.L.LinkOps.covered_has_name _ _ (g.met.L.LinkOps.linked_is_covered _ _ (head_linked g.met.L.LinkedListOps.linked_alike c.next-first.ensures.ring.1));
}

pub next-requires-2 : goal.next-requires-2
next-requires-2 g c = record {
  linked = rw c.head-head.ensures
      (g.met.L.LinkOps.does_replay _ _ [] c.turn_to.ensures.trace_stays _
      ∙ (g.met.L.LinkOps.does_replay _ _ [] c.bypass.ensures.trace_stays _ ∙ head_linked g.met.L.LinkedListOps.linked_alike c.requires.1));
}
