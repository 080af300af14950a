use Rattle.ic_lock_free_stack.proofs.CountLemmas.{nothing_lost}
use Rattle.ic_lock_free_stack.proofs.laws.nothing_is_lost.Goals as goal

pub returns : goal.returns
returns c order parties was k p = nothing_lost order parties k p was
