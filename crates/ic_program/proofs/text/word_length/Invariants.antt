use Rattle.std.proofs.Common.{◌≡◌, ◌++◌, take, drop}
use Rattle.ic_program.specs.Text.{word_in}
use Rattle.ic_program.proofs.text.word_length.Given as goal

-- the bytes before the current index belong to the first word
abbrev pub invariant-loop-at : goal.invariant-loop-at
invariant-loop-at l = word_in l.text ≡ take l.at l.text ++ word_in (drop l.at l.text)
