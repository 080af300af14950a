use Rattle.std.proofs.Common.{Some, ◌∙◌}
use Rattle.ic_raw_trees.proofs.MarkedViews.{fault_at_back}
use Rattle.ic_raw_trees.proofs.faults.member_fault.Goals as goal

pub returns-clause-fault : goal.returns-clause-fault
returns-clause-fault c = c.member_fault.ensures.fault ∙ fault_at_back c.new.result c.new.ensures.1 (Some c.args.member)
