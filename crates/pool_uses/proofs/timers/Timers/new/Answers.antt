use Rattle.std.proofs.Common.{◌≡◌, [], ap}
use Rattle.ic_rbtree.specs.Prelude.{root_of, plain_table, members_of}
use Rattle.ic_rbtree.proofs.PlainTrees.{plain_members, plain_trees}
use Rattle.ic_container.proofs.TreeLemmas.{all_first}
use Rattle.pool_uses.specs.KeptTimers.{deadline_of, waiting_at}
use Rattle.pool_uses.proofs.timers.Timers.new.Goals as goal

pub invariant_of-result : goal.invariant_of-result
invariant_of-result g c =
    let pool = c.new-2.ensures in
    all_first deadline_of c.new-2.result.objects c.new-2.result.links (root_of c.new-4.result) (rw pool.links c.new.ensures) c.new-4.ensures.empty pool.vacant

pub returns-clause-waiting : goal.returns-clause-waiting
returns-clause-waiting g c =
    let none : members_of c.new-2.result.links (root_of c.new-4.result) ≡ [] = plain_members c.new-2.result.links (rw c.new-4.ensures.empty (plain_trees.nothing (plain_table c.new-2.result.links))) in
    ap (waiting_at c.new-2.result.objects) none
