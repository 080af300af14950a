use Rattle.std.proofs.Common.{◌∙◌, refl, sym}
use Rattle.ic_any_collection.specs.AnyTables.{table_in}
use Rattle.ic_any_collection.specs.AnyCollection.{members_in, kind_in}
use Rattle.ic_any_collection.proofs.AllKinds.{unlinked_absent}
use Rattle.ic_world.proofs.Neighbors.{member_gap, contains_tells, not_among}
use Rattle.ic_world.proofs.Seeking.{pointer_not_xor}
use Rattle.ic_world.proofs.Tested.{goes_on, stops}
use Rattle.ic_world.proofs.calls.seek.seek_on.Goals as goal

pub returns-then-not-is_linked : goal.returns-then-not-is_linked
returns-then-not-is_linked g c =
    let t = table_in c.args.links.now in
    let out = not_among (members_in t c.args.members.now) c.args.object
    (unlinked_absent t c.args.members.now _ c.requires.held.shown (sym c.is_linked.ensures ∙ c.if-not-is_linked.true)) in
    record { tested = stops _ _ _ out; moved = tt; unchanged = refl }

pub returns-then-not-contains : goal.returns-then-not-contains
returns-then-not-contains g c =
    let out = contains_tells (members_in (table_in c.args.links.now) c.args.members.now) c.args.object c.contains.result c.contains.ensures ∙ c.if-not-contains.true in
    record { tested = stops _ _ _ out; moved = tt; unchanged = refl }

pub stand_on-requires-clause-member : goal.stand_on-requires-clause-member
stand_on-requires-clause-member g c =
    let gap = member_gap (members_in (table_in c.args.links.now) c.args.members.now) c.args.object (c.contains.ensures.0 c.if-not-contains.false) in
    (gap.0, gap.1, (gap.2, λ is. absurd (pointer_not_xor (kind_in c.args.members.now) c.requires.can is)))

pub returns : goal.returns
returns g c =
    let there = contains_tells (members_in (table_in c.args.links.now) c.args.members.now) c.args.object c.contains.result c.contains.ensures ∙ c.if-not-contains.false in
    record { tested = goes_on _ _ _ there refl; moved = c.stand_on.ensures; unchanged = tt }
