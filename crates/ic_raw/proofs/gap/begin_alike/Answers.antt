use Rattle.std.proofs.Common.{sym, ◌∙◌}
use Rattle.ic_raw.proofs.Entries.{same_word}
use Rattle.ic_raw.proofs.gap.begin_alike.Goals as goal

pub returns-clause-alike : goal.returns-clause-alike
returns-clause-alike g c same =
    let one = same_word _ _ c.to_word.ensures.value c.to_word-2.ensures.value same in (c.in-Some.first, sym c.first.ensures ∙ c.in-Some.is, sym c.first-2.ensures ∙ one)
