use Rattle.ic_any_collection.proofs.Common.{refl, singly_made, doubly_made, xor_made, tree_made, at_null, xor_null, at_start, inserted_after, inserts}
use Rattle.ic_any_collection.proofs.any_collection.AnyCollection.insert.Goals as goal

pub insert_after-requires-clause-after : goal.insert_after-requires-clause-after
insert_after-requires-clause-after g c = inserted_after c.args.gap (rw c.in-Singly.is at c.requires.can)

pub insert_after-requires-clause-stands : goal.insert_after-requires-clause-stands
insert_after-requires-clause-stands g c = at_start singly_made _ c.args.gap (rw c.in-Singly.is at c.requires.held) (λ s. at_null refl)

pub returns-in-Singly : goal.returns-in-Singly
returns-in-Singly g c = let put = inserts singly_made c.insert_after.ensures (rw c.in-Singly.is at c.requires.held) in rw c.in-Singly.is (record { inserted = put.0; refused = put.1 })

pub insert-requires-clause-stands : goal.insert-requires-clause-stands
insert-requires-clause-stands g c = at_start doubly_made _ c.args.gap (rw (c.in-Doubly.is, c.with_prev_mut.ensures.inner) at c.requires.held) (λ s. at_null refl)

pub returns-in-Doubly : goal.returns-in-Doubly
returns-in-Doubly g c =
    let put = inserts doubly_made c.insert.ensures (rw (c.in-Doubly.is, c.with_prev_mut.ensures.inner) at c.requires.held) in
    rw (c.in-Doubly.is, c.with_prev_mut.ensures.inner) (record { inserted = put.0; refused = put.1 })

pub insert-requires-in-Xor-clause-stands : goal.insert-requires-in-Xor-clause-stands
insert-requires-in-Xor-clause-stands g c = at_start xor_made _ c.args.gap (rw c.in-Xor.is at c.requires.held) (λ s. xor_null s refl)

pub returns-in-Xor : goal.returns-in-Xor
returns-in-Xor g c = let put = inserts xor_made c.insert-in-Xor.ensures (rw c.in-Xor.is at c.requires.held) in rw c.in-Xor.is (record { inserted = put.0; refused = put.1 })

pub insert-requires-in-Tree-clause-stands : goal.insert-requires-in-Tree-clause-stands
insert-requires-in-Tree-clause-stands g c = at_start tree_made _ c.args.gap (rw (c.in-Tree.is, c.tree_mut.ensures.inner) at c.requires.held) (λ s. at_null refl)

pub returns-in-Tree : goal.returns-in-Tree
returns-in-Tree g c =
    let put = inserts tree_made c.insert-in-Tree.ensures (rw (c.in-Tree.is, c.tree_mut.ensures.inner) at c.requires.held) in
    rw (c.in-Tree.is, c.tree_mut.ensures.inner) (record { inserted = put.0; refused = put.1 })
