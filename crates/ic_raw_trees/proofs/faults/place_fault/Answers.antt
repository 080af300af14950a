use Rattle.std.proofs.Common.{Some, ◌∙◌}
use Rattle.ic_raw_trees.proofs.MarkedViews.{fault_of_back}
use Rattle.ic_raw_trees.proofs.faults.place_fault.Goals as goal

pub returns-clause-fault : goal.returns-clause-fault
returns-clause-fault c = c.place_fault.ensures.fault ∙ fault_of_back c.new.result c.new.ensures.1 (Some c.args.place)
