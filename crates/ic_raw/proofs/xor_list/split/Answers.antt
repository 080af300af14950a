use Rattle.ic_raw.proofs.Ends.{cut_at}
use Rattle.ic_raw.proofs.Touches.{touches_split}
use Rattle.ic_raw.proofs.xor_list.split.Goals as goal

pub returns-clause-touched : goal.returns-clause-touched
returns-clause-touched c made = let cut = c.split_between.ensures in touches_split cut.trace_stays cut.others

pub returns-clause-own : goal.returns-clause-own
returns-clause-own c made = cut_at c.split_between.ensures.ends
