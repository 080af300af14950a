use Rattle.std.proofs.Common.{◌≡◌, ◌+◌, ◌≤◌}
use Rattle.ic_link_ops.specs.Prelude.{blacks, Tree}
use Rattle.ic_rbtree.specs.Height.{height}
use Rattle.ic_rbtree.specs.Join.{IsRootOf}
use Rattle.ic_rbtree.proofs.join.roots.black_height.Given as goal

abbrev pub invariant-loop : goal.invariant-loop
invariant-loop g l =
    let n = g.N.NodeStore.node in
    let v = g.N.NodeStore.table l.links in
    record {
      each : (t : Tree) → IsRootOf n v l.fn.root t → (u : Tree) × IsRootOf n v l.at u × (l.count + blacks u ≡ blacks t) × (height u + l.counter ≤ height t);
      small : l.count ≤ l.counter;
    }
