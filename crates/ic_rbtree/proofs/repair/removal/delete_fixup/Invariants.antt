use Rattle.std.proofs.Common.{◌-◌, ◌<◌, Bool, List, length}
use Rattle.ic_link_ops.specs.Prelude.{Place, Tree}
use Rattle.ic_link_ops.specs.Frames.{Frame}
use Rattle.ic_rbtree.specs.Prelude.{turns, IsIn, IsClosed, Short}
use Rattle.ic_rbtree.specs.Focus.{Focus}
use Rattle.ic_rbtree.proofs.repair.removal.delete_fixup.Given as goal

abbrev pub invariant-loop : goal.invariant-loop
invariant-loop g l =
    let n = g.N.NodeStore.node in
    let old = g.N.NodeStore.table l.fn.links in
    let now = g.N.NodeStore.table l.links in
    record {
      each : (k : Focus g.row.N-Entry.Denot) → Short n old l.fn.root l.fn.parent l.fn.side k → length k.frames < turns
          → (gs : List Frame) × (u : Tree) × Short n now l.root l.parent l.side (record k { frames = gs; subtree = u }) × (length gs < turns - l.counter);
      safe : (S : Place → Bool) → IsClosed n old l.fn.root S → IsIn S l.fn.parent → IsClosed n now l.root S × IsIn S l.parent;
      keeps_links : g.N.NodeStore.KeepsLinks l.fn.links l.links;
    }
