use Rattle.std.proofs.Common.{◌≡◌, ◌++◌, take}
use Rattle.ic_program.specs.Printed.{items_of}
use Rattle.ic_program.proofs.answers.push_items.Given as goal

abbrev pub invariant-loop-place : goal.invariant-loop-place
invariant-loop-place g l = l.lines.items ≡ l.fn.lines.items ++ items_of (take l.place-index l.places)
