use Rattle.std.proofs.Common.{sym, ◌∙◌}
use Rattle.ic_raw.proofs.Entries.{same_word}
use Rattle.ic_raw.proofs.list.follows.Goals as goal

pub returns-clause-prev : goal.returns-clause-prev
returns-clause-prev g c same = sym c.prev_of.ensures ∙ same_word _ _ c.to_word.ensures.value c.to_word-2.ensures.value same
