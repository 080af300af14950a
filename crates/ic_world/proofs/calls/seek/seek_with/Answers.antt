use Rattle.std.proofs.Common.{◌∙◌, refl, sym, ap}
use Rattle.ic_any_collection.specs.AnyTables.{table_in}
use Rattle.ic_any_collection.specs.AnyCollection.{members_in}
use Rattle.ic_any_collection.proofs.AllKinds.{unlinked_absent}
use Rattle.ic_world.specs.Family.{same_position}
use Rattle.ic_world.proofs.Neighbors.{not_among, among_gap}
use Rattle.ic_world.proofs.Tested.{goes_on, stops}
use Rattle.ic_world.proofs.calls.seek.seek_with.Goals as goal

pub returns-then-not-is_linked : goal.returns-then-not-is_linked
returns-then-not-is_linked g c =
    let t = table_in c.args.links.now in
    let out = not_among (members_in t c.args.members.now) c.args.object
    (unlinked_absent t c.args.members.now _ c.requires.held.shown (sym c.is_linked.ensures ∙ c.if-not-is_linked.true)) in
    record { tested = stops _ _ _ out; moved = tt; unchanged = refl }

pub returns-in_default : goal.returns-in_default
returns-in_default g c =
    let out = not_among (members_in (table_in c.args.links.now) c.args.members.now) c.args.object c.in_default.ensures.none in
    record { tested = stops _ _ _ out; moved = tt; unchanged = refl }

pub returns-then-not-same_position : goal.returns-then-not-same_position
returns-then-not-same_position g c =
    let e = c.in-Some.ensures.member in
    let other = ap (same_position c.args.beside) (sym c.neighbor.ensures) ∙ sym c.same_position.ensures ∙ c.if-not-same_position.true in
    record { tested = goes_on _ _ _ (among_gap e.0 e.1 e.2.1) (stops _ _ _ other); moved = tt; unchanged = refl }

pub returns : goal.returns
returns g c =
    let e = c.in-Some.ensures.member in
    let same = ap (same_position c.args.beside) (sym c.neighbor.ensures) ∙ sym c.same_position.ensures ∙ c.if-not-same_position.false in
    record { tested = goes_on _ _ _ (among_gap e.0 e.1 e.2.1) (goes_on _ _ _ same refl); moved = c.stand_on.ensures; unchanged = tt }
