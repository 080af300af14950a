use Rattle.std.proofs.Common.{◌∙◌}
use Rattle.ic_raw.proofs.Entries.{named}
use Rattle.ic_raw.proofs.words.RawTwoListWords.is_after.Goals as goal

pub returns-then-self-to_word-clause-prev : goal.returns-then-self-to_word-clause-prev
returns-then-self-to_word-clause-prev c linked = named c.args.self.now.prev c.args.prev (c.if-self-to_word.true ∙ c.to_word.ensures.value)
