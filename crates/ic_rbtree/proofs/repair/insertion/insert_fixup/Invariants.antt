use Rattle.std.proofs.Common.{◌≡◌, ◌+◌, ◌-◌, ◌<◌, Some, List, [], ◌∷◌, length}
use Rattle.ic_link_ops.specs.Prelude.{Tree, weight, blacks}
use Rattle.ic_link_ops.specs.Frames.{Frame, above, plug}
use Rattle.ic_rbtree.specs.Prelude.{turns, StaysClosed, RedAt, wanted}
use Rattle.ic_rbtree.specs.Focus.{Focus}
use Rattle.ic_rbtree.proofs.repair.insertion.insert_fixup.Given as goal

abbrev pub invariant-loop : goal.invariant-loop
invariant-loop g l =
    let n = g.N.NodeStore.node in
    let old = g.N.NodeStore.table l.fn.links in
    let now = g.N.NodeStore.table l.links in
    record {
      each : (k : Focus g.row.N-Entry.Denot) → RedAt n old l.fn.root l.fn.place k → l.fn.parent ≡ above k.frames → length k.frames < turns
          → (gs : List Frame) × (u : Tree) × RedAt n now l.root l.place (record k { frames = gs; subtree = u }) × (l.parent ≡ above gs) × (length gs < turns - l.counter)
          × (blacks (plug gs u) + weight (wanted k.frames) ≡ blacks (plug k.frames k.subtree) + weight (wanted gs));
      safe : StaysClosed n old now l.fn.root l.root (Some l.fn.place ∷ l.fn.parent ∷ []) (Some l.place ∷ l.parent ∷ []);
      keeps_links : g.N.NodeStore.KeepsLinks l.fn.links l.links;
    }
