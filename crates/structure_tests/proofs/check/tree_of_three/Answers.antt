use Rattle.std.proofs.Common.{[], rules}
use Rattle.ic_link_ops.specs.Prelude.{node_of, join}
use Rattle.ic_link_ops.proofs.Prelude.{stands_null, represents_nothing}
use Rattle.ic_rbtree.specs.Prelude.{plain_table, PlainRepresentsSome, root_of}
use Rattle.structure_tests.proofs.check.tree_of_three.Goals.{then-index-covers, else-index-covers}
use Rattle.structure_tests.proofs.check.tree_of_three.Goals as goal

pub loop-index-init : goal.loop-index-init
loop-index-init c = record { shown = ([], rw c.new-tree.ensures.empty (represents_nothing {n = node_of} (plain_table c.args.links.now))) }

pub insert_before-requires-clause-stands : goal.insert_before-requires-clause-stands
insert_before-requires-clause-stands c =
    let s = c.loop-index.invariant.shown in
    let e = c.cursor_mut-cursor.ensures in
    stands_null s.0 (rw (e.borrows.2, e.borrows.3) s.1) e.null

pub loop-index-preserved : goal.loop-index-preserved
loop-index-preserved c =
    elim c.if-index-covers.branch [
      | then-index-covers w ↦
          let k = w.insert_before.ensures.kept in
          let shown : PlainRepresentsSome w.insert_before.new.self.links.now (root_of w.insert_before.new.self.list.now) = (join k.stands.gap, k.stands.shown) in
          let names = k.borrows in
          record { shown = search rules }
      | else-index-covers w ↦ record { shown = rw (w.tree-is, w.links-is) c.loop-index.invariant.shown }
    ]
