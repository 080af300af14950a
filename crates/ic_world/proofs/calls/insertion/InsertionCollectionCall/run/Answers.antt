use Rattle.std.proofs.Common.{sym, ap, ◌∙◌}
use Rattle.ic_any_collection.specs.AnyCollection.{is_tree}
use Rattle.ic_world.specs.declared.calls.collection_call.Call.TheVariants.{Insertion as insertion}
use Rattle.ic_rbtree.specs.KeyProbe.{looks_of}
use Rattle.ic_world.proofs.Keyed.{inserted}
use Rattle.ic_world.proofs.Looks.{few_done}
use Rattle.ic_world.proofs.Seeking.{ran_not}
use Rattle.ic_world.proofs.calls.insertion.InsertionCollectionCall.run.Goals as goal

pub returns-then-not-is_tree : goal.returns-then-not-is_tree
returns-then-not-is_tree g c = ran_not {K = g.row.A-Key.Denot} (insertion c.args.self.now) c.requires.held (ap is_tree (sym c.kind.ensures) ∙ sym c.is_tree.ensures ∙ c.if-not-is_tree.true)

pub insert_by-acquired-requires-clause-can : goal.insert_by-acquired-requires-clause-can
insert_by-acquired-requires-clause-can g c = ap is_tree (sym c.kind.ensures) ∙ sym c.is_tree.ensures ∙ c.if-not-is_tree.false

pub returns-in-Insert : goal.returns-in-Insert
returns-in-Insert g c =
    let e = c.insert_by-acquired.ensures in
    let probe = c.own_probe-probe.ensures in
    let acquired = c.insert_by-acquired.result in
    let tree = ap is_tree (sym c.kind.ensures) ∙ sym c.is_tree.ensures ∙ c.if-not-is_tree.false in
    rw (c.in-Insert.is, c.looked.ensures)
    (inserted _ _ c.in-Insert.object acquired (looks_of c.insert_by-acquired.new.probe) tree (rw probe.order at e.inserted) (few_done _ _ _ _ acquired probe.none e.looks)
    (λ few gap cut border same. ((gap, cut, (border, same)), few)) e.refused)

pub cursor_insert_by-acquired-requires-clause-can : goal.cursor_insert_by-acquired-requires-clause-can
cursor_insert_by-acquired-requires-clause-can g c = ap is_tree (sym c.kind.ensures) ∙ sym c.is_tree.ensures ∙ c.if-not-is_tree.false

pub returns-in-CursorInsert : goal.returns-in-CursorInsert
returns-in-CursorInsert g c =
    let e = c.cursor_insert_by-acquired.ensures in
    let probe = c.own_probe-probe-in-CursorInsert.ensures in
    let acquired = c.cursor_insert_by-acquired.result in
    let tree = ap is_tree (sym c.kind.ensures) ∙ sym c.is_tree.ensures ∙ c.if-not-is_tree.false in
    rw (c.in-CursorInsert.is, c.looked-in-CursorInsert.ensures)
    (inserted _ _ c.in-CursorInsert.object acquired (looks_of c.cursor_insert_by-acquired.new.probe) tree (rw probe.order at e.inserted) (few_done _ _ _ _ acquired probe.none e.looks)
    (λ few gap cut border same. ((gap, cut, (border, same)), few)) e.refused)
