use Rattle.std.proofs.Common.{◌≡◌, ◌<◌}
use Rattle.ic_raw.specs.Fills.{run_faults, first_fault}
use Rattle.ic_raw.specs.Tables.{nameable_table, place_fault}
use Rattle.ic_raw.proofs.fill.run_fault.Given as goal

-- before each step, the first fault of the run is the first fault of the places that are left, because the places before them have no fault
abbrev pub invariant-loop-left : goal.invariant-loop-left
invariant-loop-left g l = record {
  small : l.number < 4294967296;
  same : first_fault (run_faults (place_fault g.W.Words.is_linked (nameable_table g.W.Words.width g.W.Words.unlinked l.fn.links)) l.fn.first l.fn.count)
      ≡ first_fault (run_faults (place_fault g.W.Words.is_linked (nameable_table g.W.Words.width g.W.Words.unlinked l.fn.links)) l.number l.left);
}

abbrev pub decreases-loop-left : goal.decreases-loop-left
decreases-loop-left g l = l.left
