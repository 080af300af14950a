use Rattle.ic_any_collection.proofs.Common.{refl, ap, puts_and_goes, to_own, placed_in}
use Rattle.ic_any_collection.specs.declared.any_table.AnyTable.TheVariants.{WithPrev}
use Rattle.ic_any_collection.specs.declared.table_with_prev.TableWithPrev.TheVariants.{Tree}
use Rattle.ic_any_collection.proofs.any_collection.AnyCollection.insert_by.Goals as goal

pub put_in_order-requires-clause-placed : goal.put_in_order-requires-clause-placed
put_in_order-requires-clause-placed g c =
    let held = rw (c.in-Tree.is, c.tree_mut.ensures.inner) at c.requires.held in placed_in held.shown (rw (c.in-Tree.is, c.tree_mut.ensures.inner) at c.requires.placed)

pub returns-then-not-put_in_order : goal.returns-then-not-put_in_order
returns-then-not-put_in_order g c =
    let held = rw (c.in-Tree.is, c.tree_mut.ensures.inner) at c.requires.held in let e = c.if-not-put_in_order.ensures in
    rw (c.in-Tree.is, c.tree_mut.ensures.inner) (record {
      inserted = tt;
      looks = tt;
      refused = (e.refused.0, e.refused.1, (ap (λ l. WithPrev (Tree l)) e.unchanged.1, record { kept = rw e.unchanged.0 held; alike = refl; cursor_is = refl }));
    })

pub returns : goal.returns
returns g c =
    let held = rw (c.in-Tree.is, c.tree_mut.ensures.inner) at c.requires.held in let e = c.if-not-put_in_order.ensures in
    rw (c.in-Tree.is, c.tree_mut.ensures.inner) (record {
      inserted = puts_and_goes held _ _ (e.inserted _ (to_own held.shown)) e.acquired c.of.ensures;
      looks = e.looks _ (to_own held.shown);
      refused = tt;
    })
