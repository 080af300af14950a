use Rattle.ic_lock_free_stack.proofs.CountLemmas.{in_turn}
use Rattle.ic_lock_free_stack.proofs.laws.calls_go_in_turn.Goals as goal

pub returns : goal.returns
returns c = in_turn
