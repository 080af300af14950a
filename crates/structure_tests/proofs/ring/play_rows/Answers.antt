use Rattle.structure_tests.proofs.ring.play_rows.Goals as goal
use Rattle.structure_tests.proofs.ring.play_rows.Goals.{in-Ring, in-Cursor, in-Both, in-Ends, in-Second}

pub write_rings-requires-clause-two : goal.write_rings-requires-clause-two
write_rings-requires-clause-two g c = elim c.match-row.branch [
  | in-Ring w ↦ rw w.links-is (w.call_ring-back.ensures.two _ c.loop-row.invariant.two)
  | in-Cursor w ↦ rw w.links-is w.call_by_cursor-back.ensures.two
  | in-Both w ↦ rw w.links-is w.call_both-back.ensures.two
  | in-Ends w ↦ rw w.links-is c.loop-row.invariant.two
  | in-Second w ↦ rw w.links-is c.loop-row.invariant.two
]

pub loop-row-preserved : goal.loop-row-preserved
loop-row-preserved g c = record {
  placed = c.requires.placed;
  two = elim c.match-row.branch [
    | in-Ring w ↦ rw w.links-is (w.call_ring-back.ensures.two _ c.loop-row.invariant.two)
    | in-Cursor w ↦ rw w.links-is w.call_by_cursor-back.ensures.two
    | in-Both w ↦ rw w.links-is w.call_both-back.ensures.two
    | in-Ends w ↦ rw w.links-is c.loop-row.invariant.two
    | in-Second w ↦ rw w.links-is c.loop-row.invariant.two
  ];
}
