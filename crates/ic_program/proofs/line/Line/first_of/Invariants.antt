use Rattle.std.proofs.Common.{ℕ, ◌<◌}
use Rattle.ic_program.specs.Slots.{IsNoCallAt}
use Rattle.ic_program.specs.Text.{words_in}
use Rattle.ic_program.proofs.line.Line.first_of.Given as goal

-- the line is no call with a slot below the current slot
abbrev pub invariant-loop-slot : goal.invariant-loop-slot
invariant-loop-slot l = (s : ℕ) → s < l.slot → IsNoCallAt s (words_in l.start)
