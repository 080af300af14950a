use Rattle.ic_lock_free_stack.proofs.OrderLemmas.{comes_in_turn}
use Rattle.ic_lock_free_stack.proofs.laws.places_come_in_order.Goals as goal

pub returns : goal.returns
returns c = comes_in_turn
