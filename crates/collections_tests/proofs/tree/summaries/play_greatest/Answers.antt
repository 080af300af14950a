use Rattle.collections_tests.proofs.tree.summaries.play_greatest.Goals as goal

pub over_tens-summed-requires : goal.over_tens-summed-requires
over_tens-summed-requires g c = record { empty = c.requires.empty; room = c.eight_summaries-summaries.ensures.room }
