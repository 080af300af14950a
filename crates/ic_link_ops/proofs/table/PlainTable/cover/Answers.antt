use Rattle.std.proofs.Common.{arith}
use Rattle.ic_unsafe_ref.specs.Places.{index_of}
use Rattle.ic_link_ops.specs.Links.{link_with}
use Rattle.ic_link_ops.specs.PlainTables.{entries}
use Rattle.ic_link_ops.proofs.WidthLemmas.{nameable_count, nameable_fits, nameable_stays, nameable_grown, nameable_enough}
use Rattle.ic_link_ops.proofs.table.PlainTable.cover.Goals as goal

pub returns-then-count-len-clause-covers : goal.returns-then-count-len-clause-covers
returns-then-count-len-clause-covers g c =
    let w = g.W.Words.width in
    let es = entries c.args.self.now in
    rw (nameable_count w es)
    (nameable_enough w _ c.args.count (omega (arith, c.if-count-most_places.false, c.most_places.ensures)) (omega (arith, c.if-count-len.true, c.len.ensures, c.args.self.now.entries.ok.0)))

pub returns-clause-covers : goal.returns-clause-covers
returns-clause-covers g c =
    let w = g.W.Words.width in
    rw (nameable_count w (entries c.grow.new.self), nameable_count w (entries c.args.self.now), c.if-not-grow.ensures.grown)
    (nameable_grown w _ c.args.count (omega (arith, c.if-count-most_places.false, c.most_places.ensures)) (omega (arith, c.if-count-len.false, c.len.ensures, c.args.self.now.entries.ok.0)))

pub returns-clause-stays : goal.returns-clause-stays
returns-clause-stays g c q =
    nameable_stays g.W.Words.width (link_with g.W.Words.unlinked g.V.LinkValue.initial) (entries c.args.self.now) (entries c.grow.new.self) (index_of q) (c.grow.ensures.stays q)

pub returns-clause-covered : goal.returns-clause-covered
returns-clause-covered g c q covered = let e = returns-clause-covers g c in omega (arith, covered, e)

pub returns-then-not-grow-clause-enough : goal.returns-then-not-grow-clause-enough
returns-then-not-grow-clause-enough g c few most =
    absurd (omega (arith, few, nameable_fits g.W.Words.width (entries c.args.self.now), c.if-count-len.false, c.len.ensures, c.args.self.now.entries.ok.0))
