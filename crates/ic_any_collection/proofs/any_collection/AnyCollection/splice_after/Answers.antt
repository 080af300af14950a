use Rattle.ic_any_collection.proofs.Common.{singly_made, doubly_made, xor_made, gap_after_cursor, at_cursor, puts_all}
use Rattle.ic_any_collection.proofs.any_collection.AnyCollection.splice_after.Goals as goal

pub splice_after_at-requires-clause-stands : goal.splice_after_at-requires-clause-stands
splice_after_at-requires-clause-stands g c = at_cursor singly_made (rw (c.in-Singly-self.is) at c.requires.held)

pub returns-in-Singly-self : goal.returns-in-Singly-self
returns-in-Singly-self g c =
    let held = rw (c.in-Singly-self.is) at c.requires.held in let given = rw (c.in-Singly.is) at c.requires.given in
    let apart = rw (c.in-Singly.is, c.in-Singly-self.is) at c.requires.apart in let e = c.splice_after_at.ensures in
    rw (c.in-Singly.is, c.in-Singly-self.is) (puts_all singly_made held given apart e.spliced e.kept (gap_after_cursor _ held))

pub splice_after_at-requires-in-Doubly-self-clause-stands : goal.splice_after_at-requires-in-Doubly-self-clause-stands
splice_after_at-requires-in-Doubly-self-clause-stands g c = at_cursor doubly_made (rw (c.in-Doubly-self.is, c.with_prev_mut.ensures.inner) at c.requires.held)

pub returns-in-Doubly-self : goal.returns-in-Doubly-self
returns-in-Doubly-self g c =
    let held = rw (c.in-Doubly-self.is, c.with_prev_mut.ensures.inner) at c.requires.held in let given = rw (c.in-Doubly.is, c.with_prev_mut.ensures.inner) at c.requires.given in
    let apart = rw (c.in-Doubly.is, c.in-Doubly-self.is, c.with_prev_mut.ensures.inner) at c.requires.apart in let e = c.splice_after_at-in-Doubly-self.ensures in
    rw (c.in-Doubly.is, c.in-Doubly-self.is, c.with_prev_mut.ensures.inner) (puts_all doubly_made held given apart e.spliced e.kept (gap_after_cursor _ held))

pub splice_after_at-requires-in-Xor-self-clause-stands : goal.splice_after_at-requires-in-Xor-self-clause-stands
splice_after_at-requires-in-Xor-self-clause-stands g c = at_cursor xor_made (rw (c.in-Xor-self.is) at c.requires.held)

pub returns-in-Xor-self : goal.returns-in-Xor-self
returns-in-Xor-self g c =
    let held = rw (c.in-Xor-self.is) at c.requires.held in let given = rw (c.in-Xor.is) at c.requires.given in
    let apart = rw (c.in-Xor.is, c.in-Xor-self.is) at c.requires.apart in let e = c.splice_after_at-in-Xor-self.ensures in
    rw (c.in-Xor.is, c.in-Xor-self.is) (puts_all xor_made held given apart e.spliced e.kept (gap_after_cursor _ held))
