use Rattle.std.proofs.Common.{◌≡◌, true, Bool, Some, List}
use Rattle.ic_unsafe_ref.specs.declared.place.Place.{Place}
use Rattle.ic_rbtree.specs.Closed.{IsIn}
use Rattle.ic_augmented.specs.Beside.{IsWrittenIn, IsSameBeside}
use Rattle.ic_augmented.specs.Prelude.{IsConsistentBut, WritesNoSummary}
use Rattle.ic_augmented.proofs.stale.invalidate_up_to.Given as goal

abbrev pub invariant-loop-from : goal.invariant-loop-from
invariant-loop-from g l =
    let n = g.N.NodeStore.node in
    let v = g.N.NodeStore.table l._links in
    let z = g.M.Summaries.summaries l.summaries in
    record {
      consistent : (s : List Place) → IsConsistentBut n v (g.M.Summaries.summaries l.fn.summaries) s (Some l.fn.edge) → IsConsistentBut n v z s l.from;
      beside : (inside : Place → Bool) → IsWrittenIn (g.M.Summaries.summaries l.fn.summaries) inside → inside l.fn.edge ≡ true → IsIn inside l.from × IsSameBeside (g.M.Summaries.summaries l.fn.summaries) z inside;
      marks : WritesNoSummary (g.M.Summaries.summaries l.fn.summaries) z;
      covers : (q : Place) → g.M.Summaries.Covers l.fn.summaries q → g.M.Summaries.Covers l.summaries q;
      join : z.join ≡ (g.M.Summaries.summaries l.fn.summaries).join;
    }

abbrev pub decreases-loop-from : goal.decreases-loop-from
decreases-loop-from g l = g.M.Summaries.count l.summaries
