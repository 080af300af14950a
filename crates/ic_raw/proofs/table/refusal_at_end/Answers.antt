use Rattle.ic_raw.specs.Words.{place_of}
use Rattle.ic_raw.proofs.Faults.{end_fault}
use Rattle.ic_raw.proofs.table.refusal_at_end.Goals as goal

pub returns-clause-refusal : goal.returns-clause-refusal
returns-clause-refusal g c = end_fault g.W.Words.is_linked g.W.Words.width g.W.Words.unlinked c.new.result (place_of c.args.place) c.new.ensures.1 c.refusal.ensures.refusal
