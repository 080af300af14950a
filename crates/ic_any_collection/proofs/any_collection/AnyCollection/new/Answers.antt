use Rattle.ic_any_collection.proofs.Common.{[], singly_kind, doubly_kind, xor_kind, tree_kind, at_null, xor_null}
use Rattle.ic_any_collection.proofs.any_collection.AnyCollection.new.Goals as goal

pub returns-in-Singly-clause-kept : goal.returns-in-Singly-clause-kept
returns-in-Singly-clause-kept g c t carried = record { carried = rw c.in-Singly.is at carried; shown = rw c.new.ensures (singly_kind.nothing t); stands = at_null c.of-null.ensures }

pub returns-in-Doubly-clause-kept : goal.returns-in-Doubly-clause-kept
returns-in-Doubly-clause-kept g c t carried = record { carried = rw c.in-Doubly.is at carried; shown = rw c.new-in-Doubly.ensures (doubly_kind.nothing t); stands = at_null c.of-null.ensures }

pub returns-in-Xor-clause-kept : goal.returns-in-Xor-clause-kept
returns-in-Xor-clause-kept g c t carried = record { carried = rw c.in-Xor.is at carried; shown = rw c.new-in-Xor.ensures (xor_kind.nothing t); stands = xor_null [] c.null.ensures.null }

pub returns-in-Tree-clause-kept : goal.returns-in-Tree-clause-kept
returns-in-Tree-clause-kept g c t carried = record { carried = rw c.in-Tree.is at carried; shown = rw c.new-in-Tree-2.ensures.empty (tree_kind.nothing t); stands = at_null c.of-null.ensures }
