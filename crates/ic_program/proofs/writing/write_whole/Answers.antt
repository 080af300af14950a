use Rattle.std.proofs.KnownBytes.{Keeps-refl, Keeps-trans}
use Rattle.ic_program.proofs.writing.write_whole.Goals as goal

pub loop-turn-init : goal.loop-turn-init
loop-turn-init g c = Keeps-refl _

pub loop-turn-preserved : goal.loop-turn-preserved
loop-turn-preserved g c = Keeps-trans _ _ _ c.loop-turn.invariant c.in_ok-rest.ensures.written
