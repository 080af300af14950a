use Rattle.std.proofs.Common.{sym, ◌∙◌, eqb-true}
use Rattle.ic_raw.proofs.Entries.{narrow_named}
use Rattle.ic_raw.proofs.words.is_word.Goals as goal

pub returns : goal.returns
returns c is =
    narrow_named c.args.word c.args.place c.ranges.word.fits (sym c.from.ensures ∙ eqb-true c.from.result c.to_word.result is ∙ c.to_word.ensures.value)
