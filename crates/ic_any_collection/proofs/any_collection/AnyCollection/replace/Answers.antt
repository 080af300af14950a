use Rattle.ic_any_collection.proofs.Common.{refl, singly_made, doubly_made, xor_made, tree_made, at_cursor, replaced_before, replaced_after, replaces, replaces_after}
use Rattle.ic_any_collection.specs.declared.kind.Kind.TheVariants as kind
use Rattle.ic_any_collection.proofs.any_collection.AnyCollection.replace.Goals as goal

pub replace_next_at-requires-clause-stands : goal.replace_next_at-requires-clause-stands
replace_next_at-requires-clause-stands g c = at_cursor singly_made (rw c.in-Singly.is at c.requires.held)

pub returns-in-Singly : goal.returns-in-Singly
returns-in-Singly g c =
    let held = rw c.in-Singly.is at c.requires.held in let gap = replaced_after c.args.gap (rw c.in-Singly.is at c.requires.can) in
    let e = c.replace_next_at.ensures in rw c.in-Singly.is (replaces_after singly_made held e.kept.stands gap _ _ e.replaced)

pub replace-requires-clause-stands : goal.replace-requires-clause-stands
replace-requires-clause-stands g c = at_cursor doubly_made (rw (c.in-Doubly.is, c.with_prev_mut.ensures.inner) at c.requires.held)

pub returns-in-Doubly : goal.returns-in-Doubly
returns-in-Doubly g c =
    let held = rw (c.in-Doubly.is, c.with_prev_mut.ensures.inner) at c.requires.held in
    let gap = replaced_before c.args.gap kind.Doubly refl (rw c.in-Doubly.is at c.requires.can) in let e = c.replace.ensures in
    rw (c.in-Doubly.is, c.with_prev_mut.ensures.inner) (replaces doubly_made held e.kept.stands gap _ _ e.out e.replaced)

pub replace-requires-in-Xor-clause-stands : goal.replace-requires-in-Xor-clause-stands
replace-requires-in-Xor-clause-stands g c = at_cursor xor_made (rw c.in-Xor.is at c.requires.held)

pub returns-in-Xor : goal.returns-in-Xor
returns-in-Xor g c =
    let held = rw c.in-Xor.is at c.requires.held in let gap = replaced_before c.args.gap kind.Xor refl (rw c.in-Xor.is at c.requires.can) in
    let e = c.replace-in-Xor.ensures in rw c.in-Xor.is (replaces xor_made held e.kept.stands gap _ _ e.out e.replaced)

pub replace-requires-in-Tree-clause-stands : goal.replace-requires-in-Tree-clause-stands
replace-requires-in-Tree-clause-stands g c = at_cursor tree_made (rw (c.in-Tree.is, c.tree_mut.ensures.inner) at c.requires.held)

pub returns-in-Tree : goal.returns-in-Tree
returns-in-Tree g c =
    let held = rw (c.in-Tree.is, c.tree_mut.ensures.inner) at c.requires.held in
    let gap = replaced_before c.args.gap kind.Tree refl (rw c.in-Tree.is at c.requires.can) in let e = c.replace-in-Tree.ensures in
    rw (c.in-Tree.is, c.tree_mut.ensures.inner) (replaces tree_made held e.replaced.stands gap _ _ e.out e.replaced)
