use Rattle.std.proofs.Common.{◌≡◌, take}
use Rattle.ic_workers.specs.SharedOut.{places_in}
use Rattle.ic_program.specs.Printed.{worker_lines}
use Rattle.ic_program.proofs.workers.workers_text_of.Given as goal

abbrev pub invariant-loop-before : goal.invariant-loop-before
invariant-loop-before g l = l.text.items ≡ worker_lines 1 (places_in (take l.before l.lists))
