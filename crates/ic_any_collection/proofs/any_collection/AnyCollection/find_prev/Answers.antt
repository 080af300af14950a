use Rattle.ic_any_collection.proofs.Common.{[], ◌∷◌, ◌++◌, sym, table_in, distinct, gap_at, same_place, other_place, walks_first, walks_next, walks_fewer}
use Rattle.ic_link_ops.proofs.SequenceLemmas.{absent_both}
use Rattle.ic_any_collection.proofs.any_collection.AnyCollection.find_prev.Goals as goal

pub loop-current-init : goal.loop-current-init
loop-current-init g c = record { sought = ([], walks_first c.front-current.ensures, tt) }

pub returns-then-eq-clause-member : goal.returns-then-eq-clause-member
returns-then-eq-clause-member g c = let same = same_place c.in-Some.member c.args.place (sym c.if-eq.ensures) in rw same at (gap_at (rw c.in-Some.is at c.loop-current.invariant.sought.1))

pub after-current-requires-clause-member : goal.after-current-requires-clause-member
after-current-requires-clause-member g c = gap_at (rw c.in-Some.is at c.loop-current.invariant.sought.1)

pub loop-current-smaller : goal.loop-current-smaller
loop-current-smaller g c =
    let was = rw c.in-Some.is at c.loop-current.invariant.sought.1 in
    rw c.in-Some.is (walks_fewer (distinct (table_in c.args.links.now) c.args.self.now _ c.requires.held.shown) was (walks_next was c.after-current.ensures))

pub loop-current-preserved : goal.loop-current-preserved
loop-current-preserved g c =
    let so = c.loop-current.invariant.sought in let out = absent_both c.args.place so.0 (c.in-Some.member ∷ []) so.2 (other_place c.in-Some.member c.args.place (sym c.if-eq.ensures), tt) in
    record { sought = (so.0 ++ c.in-Some.member ∷ [], walks_next (rw c.in-Some.is at so.1) c.after-current.ensures, out) }
