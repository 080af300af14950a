use Rattle.ic_any_collection.proofs.Common.{refl, doubly_made, xor_made, at_null, xor_null, gap_before_cursor, at_cursor, parts}
use Rattle.ic_any_collection.proofs.any_collection.AnyCollection.split_before.Goals as goal

pub split_before_at-requires : goal.split_before_at-requires
split_before_at-requires g c = record { stands = at_cursor doubly_made (rw (c.in-Doubly.is, c.with_prev_mut.ensures.inner) at c.requires.held) }

pub returns-in-Doubly : goal.returns-in-Doubly
returns-in-Doubly g c =
    let held = rw (c.in-Doubly.is, c.with_prev_mut.ensures.inner) at c.requires.held in let e = c.split_before_at.ensures in
    rw (c.in-Doubly.is, c.with_prev_mut.ensures.inner) (parts doubly_made held e.kept.stands e.split c.null.ensures.null (λ s. at_null c.null.ensures.null) (gap_before_cursor _ held))

pub split_before_at-requires-in-Xor : goal.split_before_at-requires-in-Xor
split_before_at-requires-in-Xor g c = record { stands = at_cursor xor_made (rw (c.in-Xor.is) at c.requires.held) }

pub returns-in-Xor : goal.returns-in-Xor
returns-in-Xor g c =
    let held = rw (c.in-Xor.is) at c.requires.held in let e = c.split_before_at-in-Xor.ensures in
    rw (c.in-Xor.is) (parts xor_made held e.kept.stands e.split (rw c.null-in-Xor.ensures.null refl) (λ s. xor_null s c.null-in-Xor.ensures.null) (gap_before_cursor _ held))
