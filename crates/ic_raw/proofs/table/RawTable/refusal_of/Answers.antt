use Rattle.std.proofs.Common.{[]}
use Rattle.ic_raw.proofs.Faults.{by_first, by_others}
use Rattle.ic_raw.proofs.table.RawTable.refusal_of.Goals as goal

pub returns-then-fault-ne-OK-clause-refusal : goal.returns-then-fault-ne-OK-clause-refusal
returns-then-fault-ne-OK-clause-refusal g c = by_first [] c.member_fault-fault.ensures.fault c.if-fault-ne-OK.true

pub returns-clause-refusal : goal.returns-clause-refusal
returns-clause-refusal g c = by_others [] c.member_fault-fault.ensures.fault c.if-fault-ne-OK.false
