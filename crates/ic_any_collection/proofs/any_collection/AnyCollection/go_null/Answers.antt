use Rattle.ic_any_collection.proofs.Made.{at_null, xor_null}
use Rattle.ic_any_collection.proofs.any_collection.AnyCollection.go_null.Goals as goal

pub returns-in-Singly-clause-kept : goal.returns-in-Singly-clause-kept
returns-in-Singly-clause-kept g c t s kept = let k = rw c.in-Singly.is at kept in record { carried = k.carried; shown = k.shown; stands = at_null c.of-null.ensures }

pub returns-in-Doubly-clause-kept : goal.returns-in-Doubly-clause-kept
returns-in-Doubly-clause-kept g c t s kept = let k = rw c.in-Doubly.is at kept in record { carried = k.carried; shown = k.shown; stands = at_null c.of-null.ensures }

pub returns-in-Xor-clause-kept : goal.returns-in-Xor-clause-kept
returns-in-Xor-clause-kept g c t s kept = let k = rw c.in-Xor.is at kept in record { carried = k.carried; shown = k.shown; stands = xor_null s c.null.ensures.null }

pub returns-in-Tree-clause-kept : goal.returns-in-Tree-clause-kept
returns-in-Tree-clause-kept g c t s kept = let k = rw c.in-Tree.is at kept in record { carried = k.carried; shown = k.shown; stands = at_null c.of-null.ensures }
