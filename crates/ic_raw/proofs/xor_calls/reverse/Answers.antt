use Rattle.std.proofs.Common.{rules}
use Rattle.ic_raw.proofs.Xor.{turned}
use Rattle.ic_raw.proofs.xor_calls.reverse.Goals as goal

pub returns-clause-reversed : goal.returns-clause-reversed
returns-clause-reversed c t s shown = turned shown (search rules) (search rules)
