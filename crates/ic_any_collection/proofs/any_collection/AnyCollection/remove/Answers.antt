use Rattle.ic_any_collection.proofs.Common.{refl, singly_made, doubly_made, xor_made, tree_made, at_null, removes_there, at_start, at_cursor, removed_before, removes}
use Rattle.ic_any_collection.proofs.any_collection.AnyCollection.remove.Goals as goal

pub remove_after-requires-clause-stands : goal.remove_after-requires-clause-stands
remove_after-requires-clause-stands g c = at_start singly_made _ c.args.gap (rw c.in-Singly.is at c.requires.held) (λ s. at_null refl)

pub returns-in-Singly : goal.returns-in-Singly
returns-in-Singly g c = let held = rw c.in-Singly.is at c.requires.held in rw c.in-Singly.is (removes singly_made c.remove_after.ensures held)

pub remove-requires-clause-stands : goal.remove-requires-clause-stands
remove-requires-clause-stands g c = at_cursor doubly_made (rw (c.in-Doubly.is, c.with_prev_mut.ensures.inner) at c.requires.held)

pub returns-in-Doubly : goal.returns-in-Doubly
returns-in-Doubly g c =
    let held = rw (c.in-Doubly.is, c.with_prev_mut.ensures.inner) at c.requires.held in rw (c.in-Doubly.is, c.with_prev_mut.ensures.inner) (removes doubly_made c.remove.ensures held)

pub remove-requires-in-Xor-clause-stands : goal.remove-requires-in-Xor-clause-stands
remove-requires-in-Xor-clause-stands g c = at_cursor xor_made (rw c.in-Xor.is at c.requires.held)

pub returns-in-Xor : goal.returns-in-Xor
returns-in-Xor g c = let held = rw c.in-Xor.is at c.requires.held in rw c.in-Xor.is (removes xor_made c.remove-in-Xor.ensures held)

pub returns-in-Tree : goal.returns-in-Tree
returns-in-Tree g c =
    let held = rw (c.in-Tree.is, c.tree_mut.ensures.inner) at c.requires.held in let gap = removed_before c.args.gap (rw c.in-Tree.is at c.requires.can) in
    let e = c.remove_at.ensures in rw (c.in-Tree.is, c.tree_mut.ensures.inner) (removes tree_made (removes_there gap e.removed e.removed.stands) held)

pub remove_at-requires : goal.remove_at-requires
remove_at-requires g c = record { stands = at_cursor tree_made {links = c.tree_mut.result.now} (rw (c.in-Tree.is, c.tree_mut.ensures.inner) at c.requires.held) }
