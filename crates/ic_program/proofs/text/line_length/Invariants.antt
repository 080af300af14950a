use Rattle.std.proofs.Common.{◌≡◌, ◌++◌, take, drop}
use Rattle.ic_program.specs.Text.{line_in}
use Rattle.ic_program.proofs.text.line_length.Given as goal

-- the bytes before the current index belong to the first line
abbrev pub invariant-loop-at : goal.invariant-loop-at
invariant-loop-at l = line_in l.text ≡ take l.at l.text ++ line_in (drop l.at l.text)
