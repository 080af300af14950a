use Rattle.ic_any_collection.specs.AnyTables.{table_in}
use Rattle.ic_world.proofs.Live.{one_held, some_has, none_more, none_has}
use Rattle.ic_world.proofs.collections_by_number.contains_in.Goals as goal

pub contains-requires-clause-held : goal.contains-requires-clause-held
contains-requires-clause-held g c =
    one_held (table_in c.args.links.now) c.args.object c.args.list.now c.requires.held c.loop-one.one-index c.one-item.result c.loop-one-test.true c.one-item.is

pub returns-then-contains : goal.returns-then-contains
returns-then-contains g c =
    some_has (table_in c.args.links.now) c.args.object c.args.list.now c.loop-one.one-index c.one-item.result c.loop-one-test.true c.one-item.is (c.contains.ensures.0 c.if-contains.true)

pub loop-one-preserved : goal.loop-one-preserved
loop-one-preserved g c =
    none_more (table_in c.args.links.now) c.args.object c.args.list.now c.loop-one.one-index c.one-item.result c.loop-one-test.true c.one-item.is
    (λ member. let yes = c.contains.ensures.1 member in let no = c.if-contains.false in cc) c.loop-one.invariant

pub returns : goal.returns
returns g c = none_has (table_in c.args.links.now) c.args.object c.args.list.now c.loop-one.one-index c.loop-one-test.false c.loop-one.invariant
