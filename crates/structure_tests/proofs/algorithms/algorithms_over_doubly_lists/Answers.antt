use Rattle.structure_tests.proofs.PlacedChains.{two_lists}
use Rattle.structure_tests.proofs.algorithms.algorithms_over_doubly_lists.Goals as goal

pub append-requires : goal.append-requires
append-requires g c = record { two = two_lists c.new-other.ensures c.play-list.ensures.held.shown }
