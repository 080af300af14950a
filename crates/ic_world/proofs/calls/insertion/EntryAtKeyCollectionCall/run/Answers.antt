use Rattle.std.proofs.Common.{sym, ap, ◌∙◌}
use Rattle.ic_any_collection.specs.AnyCollection.{is_tree}
use Rattle.ic_world.specs.declared.calls.collection_call.Call.TheVariants.{Enter as enter}
use Rattle.ic_rbtree.specs.KeyProbe.{looks_of}
use Rattle.ic_world.proofs.Keyed.{entered, not_entered}
use Rattle.ic_world.proofs.Looks.{few_asked}
use Rattle.ic_world.proofs.Seeking.{ran_not}
use Rattle.ic_world.proofs.calls.insertion.EntryAtKeyCollectionCall.run.Goals as goal

pub returns-then-not-is_tree : goal.returns-then-not-is_tree
returns-then-not-is_tree g c = ran_not (enter c.args.self.now.key c.args.self.now.object) c.requires.held (ap is_tree (sym c.kind.ensures) ∙ sym c.is_tree.ensures ∙ c.if-not-is_tree.true)

pub entry_by-requires-clause-can : goal.entry_by-requires-clause-can
entry_by-requires-clause-can g c = ap is_tree (sym c.kind.ensures) ∙ sym c.is_tree.ensures ∙ c.if-not-is_tree.false

pub returns-in-Some : goal.returns-in-Some
returns-in-Some g c =
    let e = c.in-Some.ensures in
    let probe = c.new-probe.ensures in
    let occupied = rw (probe.adapter, probe.key) at e.occupied in
    let vacant = rw (probe.adapter, probe.key) at e.vacant in
    rw c.looks.ensures
    (entered g.A.Key.Ord.cmp (g.A.KeyAdapter.key_of c.args.adapter) c.args.objects.now c.args.self.now.key c.args.self.now.object c.args.links.now c.entry_by.new.links c.args.members.now c.entry_by.new.self
    c.in-Some.is_member c.in-Some.place (looks_of c.entry_by.new.probe) occupied vacant (few_asked _ probe.none c.entry_by.ensures.looks) (ap is_tree (sym c.kind.ensures) ∙ sym c.is_tree.ensures ∙ c.if-not-is_tree.false))

pub returns-in-None : goal.returns-in-None
returns-in-None g c =
    let probe = c.new-probe.ensures in
    not_entered g.A.Key.Ord.cmp (g.A.KeyAdapter.key_of c.args.adapter) c.args.objects.now c.args.self.now.key c.args.self.now.object c.args.links.now c.entry_by.new.links c.args.members.now c.entry_by.new.self
    (rw (probe.adapter, probe.key) at c.in-None.ensures.refused) (ap is_tree (sym c.kind.ensures) ∙ sym c.is_tree.ensures ∙ c.if-not-is_tree.false)
