use Rattle.ic_any_collection.specs.AnyTables.{table_in}
use Rattle.ic_any_collection.specs.AnyCollection.{members_in}
use Rattle.ic_any_collection.proofs.AllKinds.{lawful}
use Rattle.ic_world.proofs.Parted.{hands_all, hands_after, hands_before}
use Rattle.ic_world.proofs.taken_part.TakenPart.hand_out.Goals as goal

pub returns-in-All : goal.returns-in-All
returns-in-All g c =
    let t = table_in c.args.links.now in
    let s = members_in t c.args.members.now in
    let e = c.take.ensures in
    rw c.in-All.is
    (hands_all (lawful c.args.links.now) (e.empty t s c.requires.held) (e.whole t s c.requires.held) e.empty_alike e.whole_alike e.empty_null e.whole_null)

pub returns-in-After : goal.returns-in-After
returns-in-After g c =
    let e = c.split_after.ensures in
    rw c.in-After.is (hands_after (lawful c.args.links.now) (lawful c.split_after.new.links) c.requires.held e.0 e.1 e.2.0 e.2.1)

pub returns-in-Before : goal.returns-in-Before
returns-in-Before g c =
    let e = c.split_before.ensures in
    rw c.in-Before.is (hands_before (lawful c.args.links.now) (lawful c.split_before.new.links) c.requires.held e.0 e.1 e.2.0 e.2.1)
