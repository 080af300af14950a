use Rattle.ic_any_collection.proofs.Common.{ap, refl, Some, ◌∙◌, moves_to_key, puts_at_key, to_own, placed_in}
use Rattle.ic_any_collection.specs.declared.any_table.AnyTable.TheVariants.{WithPrev}
use Rattle.ic_any_collection.specs.declared.table_with_prev.TableWithPrev.TheVariants.{Tree}
use Rattle.ic_any_collection.proofs.any_collection.AnyCollection.entry_by.Goals as goal

pub put_at_key-requires-clause-placed : goal.put_at_key-requires-clause-placed
put_at_key-requires-clause-placed g c =
    let held = rw (c.in-Tree.is, c.tree_mut.ensures.inner) at c.requires.held in placed_in held.shown (rw (c.in-Tree.is, c.tree_mut.ensures.inner) at c.requires.placed)

pub returns-in_default-put_at_key-clause-refused : goal.returns-in_default-put_at_key-clause-refused
returns-in_default-put_at_key-clause-refused g c =
    let held = rw (c.in-Tree.is, c.tree_mut.ensures.inner) at c.requires.held in let e = c.in_default-put_at_key.ensures in
    rw (c.in-Tree.is, c.tree_mut.ensures.inner) (
      e.unchanged.0,
      e.refused _ (to_own held.shown),
      (ap (λ l. WithPrev (Tree l)) e.unchanged.2, record { kept = rw e.unchanged.1 held; alike = refl; cursor_is = refl }),
    )

pub returns-clause-occupied : goal.returns-clause-occupied
returns-clause-occupied g c had =
    let held = rw (c.in-Tree.is, c.tree_mut.ensures.inner) at c.requires.held in let e = c.in-Some.ensures in
    let same = e.stays had in let found = e.found _ (to_own held.shown) had in
    rw (c.in-Tree.is, c.tree_mut.ensures.inner) (found, ap (λ l. WithPrev (Tree l)) same.1, moves_to_key held found same.0 c.of.ensures)

pub returns-clause-vacant : goal.returns-clause-vacant
returns-clause-vacant g c new =
    let held = rw (c.in-Tree.is, c.tree_mut.ensures.inner) at c.requires.held in let e = c.in-Some.ensures in
    let links = e.links new in let put = e.put _ (to_own held.shown) new in
    rw (c.in-Tree.is, c.tree_mut.ensures.inner) (links.0, puts_at_key _ held put links.1 (c.of.ensures ∙ ap Some links.0))

pub returns-in_default-put_at_key-clause-looks : goal.returns-in_default-put_at_key-clause-looks
returns-in_default-put_at_key-clause-looks g c =
    let held = rw (c.in-Tree.is, c.tree_mut.ensures.inner) at c.requires.held in rw (c.in-Tree.is, c.tree_mut.ensures.inner) (c.in_default-put_at_key.ensures.looks _ (to_own held.shown))

pub returns-clause-looks : goal.returns-clause-looks
returns-clause-looks g c = let held = rw (c.in-Tree.is, c.tree_mut.ensures.inner) at c.requires.held in rw (c.in-Tree.is, c.tree_mut.ensures.inner) (c.in-Some.ensures.looks _ (to_own held.shown))
