use Rattle.std.proofs.Common.{◌≡◌, length, rules}
use Rattle.ic_rbtree.specs.KeyedTrees.{keys_of}
use Rattle.ic_rbtree.proofs.SortedKeys.{new_is_sorted}
use Rattle.ic_augmented.specs.Augmented.{links_of}
use Rattle.keyed_tests.proofs.Intervals.{own}
use Rattle.keyed_tests.proofs.augmented.intervals.intervals_at_random.Goals as goal

pub play-requires : goal.play-requires
play-requires g c =
    let e = c.empty_tree-tree.ensures in
    let covers : length (links_of c.empty_tree-tree.result.1).entries.items ≡ 100 = search rules in
    record { covers = covers; intervals = record { ready = e.ready; sorted = new_is_sorted own (keys_of (links_of c.empty_tree-tree.result.1)) e.empty } }
