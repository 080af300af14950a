use Rattle.std.proofs.Common.{◌≡◌, Result, Ok, Global}
use Rattle.ic_link_ops.specs.declared.errors.AlreadyLinked.{AlreadyLinked}
use Rattle.ic_rbtree.specs.PlainTrees.{plain_table}
use Rattle.ic_rbtree.proofs.SortedKeys.{new_is_sorted, sorted_inserted}
use Rattle.uses.specs.Ring.{point}
use Rattle.uses.specs.declared.ring.Node.{Node}
use Rattle.uses.specs.declared.ring.ByPoint.{ByPoint}
use Rattle.uses_tests.proofs.trees.a_key_belongs_to_the_next_node.Goals as goal

pub loop-index-init : goal.loop-index-init
loop-index-init g c = record { ring = new_is_sorted point _ c.new-ring.ensures.empty }

pub loop-index-preserved : goal.loop-index-preserved
loop-index-preserved g c =
    let l = c.loop-index in
    let q = l.invariant.ring in
    let put = rw c.expect.ensures at c.insert.ensures.inserted in
    let r : Result Unit (AlreadyLinked Node) = Ok tt in
    let more = sorted_inserted point c.placed-objects.result {A = ByPoint} {table = plain_table {A = Global}} {Refused = λ a b p. plain_table b ≡ plain_table a} (λ a b p same. same) {old = l.links} {new = c.insert.new.links}
    l.ring c.insert.new.self c.object-node.result c.object-node.ensures.placed q r (put q.placed.members q.placed.shown) tt tt in
    record { ring = more }

pub node_before-hand-requires : goal.node_before-hand-requires
node_before-hand-requires g c = record { ring = rw (c.into_inner.ensures, c.owner_of-hand.ensures.ring) c.loop-hash.invariant.ring }
