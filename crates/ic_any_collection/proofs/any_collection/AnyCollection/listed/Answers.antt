use Rattle.ic_any_collection.proofs.Common.{table_in, distinct, gap_at, walks_next, walks_fewer}
use Rattle.ic_any_collection.proofs.any_collection.AnyCollection.listed.Goals as goal

pub after-current-requires-clause-member : goal.after-current-requires-clause-member
after-current-requires-clause-member g c = gap_at (rw c.in-Some.is at c.loop-current.invariant.walks)

pub loop-current-smaller : goal.loop-current-smaller
loop-current-smaller g c =
    let was = rw c.in-Some.is at c.loop-current.invariant.walks in
    rw c.in-Some.is (walks_fewer (distinct (table_in c.args.links.now) c.args.self.now _ c.requires.held.shown) was (walks_next was c.after-current.ensures))

pub loop-current-preserved : goal.loop-current-preserved
loop-current-preserved g c = record { walks = rw c.in_ok-push.ensures.items (walks_next (rw c.in-Some.is at c.loop-current.invariant.walks) c.after-current.ensures) }
