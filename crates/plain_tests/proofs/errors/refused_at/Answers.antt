use Rattle.ic_rbtree.specs.PlainTrees.{plain_table}
use Rattle.ic_plain.specs.SortedTrees.{IsInOrder}
use Rattle.plain_tests.proofs.errors.refused_at.Goals as goal

pub entry-requires : goal.entry-requires
unfolding IsInOrder
entry-requires g c = record { placed = (c.new-timers.ensures.sorted (plain_table c.args.links.now) c.args.objects.now).placed }
