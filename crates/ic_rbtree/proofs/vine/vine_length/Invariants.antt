use Rattle.std.proofs.Common.{◌≡◌, ◌+◌, List, length}
use Rattle.ic_unsafe_ref.specs.declared.place.Place.{Place}
use Rattle.ic_link_ops.specs.SinglyLinkedList.{IsWalk}
use Rattle.ic_rbtree.specs.Vines.{along}
use Rattle.ic_rbtree.proofs.vine.vine_length.Given as goal

abbrev pub invariant-loop-count : goal.invariant-loop-count
invariant-loop-count g l =
    let s = along g.N.NodeStore.node in
    let v = g.N.NodeStore.table l.links in
    (w : List Place) → IsWalk s v.entry l.fn.first w → (r : List Place) × IsWalk s v.entry l.at r × (l.count + length r ≡ length w)
