use Rattle.structure_tests.proofs.PlacedChains.{two_lists}
use Rattle.structure_tests.proofs.algorithms.algorithms_over_singly_lists.Goals as goal

pub append_walking-requires : goal.append_walking-requires
append_walking-requires g c = record { two = two_lists c.new-other.ensures c.play-list.ensures.held.shown }
