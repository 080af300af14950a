use Rattle.std.proofs.Common.{sym, ◌∙◌}
use Rattle.ic_raw.proofs.Entries.{same_word}
use Rattle.ic_raw.proofs.list.leads.Goals as goal

pub returns-in-None-clause-next : goal.returns-in-None-clause-next
returns-in-None-clause-next g c same = rw c.in-None.is (sym c.first.ensures ∙ same_word _ _ c.to_word.ensures.value c.to_word-in-None.ensures.value same)
