use Rattle.ic_any_collection.proofs.Common.{tree_table_in, of_field, to_own, placed_in, put_stays, puts_and_stays}
use Rattle.ic_any_collection.specs.declared.any_table.AnyTable.TheVariants.{WithPrev}
use Rattle.ic_any_collection.specs.declared.table_with_prev.TableWithPrev.TheVariants.{Tree}
use Rattle.ic_any_collection.proofs.any_collection.AnyCollection.cursor_insert_by.Goals as goal

pub put_in_order-requires-clause-placed : goal.put_in_order-requires-clause-placed
put_in_order-requires-clause-placed g c =
    let held = rw (c.in-Tree.is, c.tree_mut.ensures.inner) at c.requires.held in placed_in held.shown (rw (c.in-Tree.is, c.tree_mut.ensures.inner) at c.requires.placed)

pub returns : goal.returns
returns g c =
    let held = rw (c.in-Tree.is, c.tree_mut.ensures.inner) at c.requires.held in let e = c.put_in_order.ensures in let acquired = c.put_in_order.result in
    rw (c.in-Tree.is, c.tree_mut.ensures.inner) (record {
      inserted = puts_and_stays acquired _ _ _ _ _ _ _ held e.inserted e.acquired;
      looks = e.looks _ (to_own held.shown);
      refused = put_stays acquired (λ l. of_field (tree_table_in l)) (λ l. WithPrev (Tree l)) _ _ _ _ _ _ _ held e.refused e.unchanged;
    })
