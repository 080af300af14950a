use Rattle.ic_unsafe_ref.proofs.OrderLemmas.{orders_by_word}
use Rattle.ic_unsafe_ref.proofs.place.Place.order_is_total.Goals as goal

pub returns : goal.returns
returns c = orders_by_word
