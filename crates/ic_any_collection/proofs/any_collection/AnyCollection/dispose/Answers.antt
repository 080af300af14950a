use Rattle.ic_any_collection.proofs.OwnTrees.{to_own, frame_in_field, trace_in_field}
use Rattle.ic_any_collection.proofs.any_collection.AnyCollection.dispose.Goals as goal

pub dispose-requires-in-Tree : goal.dispose-requires-in-Tree
dispose-requires-in-Tree g c = let held = rw (c.in-Tree.is, c.tree_mut.ensures.inner) at c.requires.held in record { shown = (_, to_own held.shown) }

pub returns-in-Tree : goal.returns-in-Tree
returns-in-Tree g c =
    let held = rw (c.in-Tree.is, c.tree_mut.ensures.inner) at c.requires.held in let e = c.dispose-in-Tree.ensures in
    rw (c.in-Tree.is, c.tree_mut.ensures.inner) (record { released = trace_in_field _ _ _ (e.released _ (to_own held.shown)); frame = frame_in_field (e.frame _ (to_own held.shown)) })
