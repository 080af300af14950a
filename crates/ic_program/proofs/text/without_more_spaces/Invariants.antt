use Rattle.std.proofs.Common.{◌≡◌, length}
use Rattle.ic_program.specs.Text.{after_spaces}
use Rattle.ic_program.proofs.text.without_more_spaces.Given as goal

abbrev pub invariant-loop-rest : goal.invariant-loop-rest
invariant-loop-rest l = after_spaces l.rest ≡ after_spaces l.text

abbrev pub decreases-loop-rest : goal.decreases-loop-rest
decreases-loop-rest l = length l.rest
