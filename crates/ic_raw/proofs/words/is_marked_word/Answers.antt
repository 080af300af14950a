use Rattle.std.proofs.Common.{◌+◌, sym, ap, ◌∙◌, eqb-true}
use Rattle.ic_raw.proofs.Entries.{narrow_named_marked}
use Rattle.ic_raw.proofs.words.is_marked_word.Goals as goal

pub returns-clause-linked : goal.returns-clause-linked
returns-clause-linked c is =
    (narrow_named_marked c.args.word c.args.next c.ranges.word.fits
    (sym c.from.ensures ∙ eqb-true c.from.result (c.to_word.result + 1) is ∙ ap (λ n. n + 1) c.to_word.ensures.value)).0

pub returns-clause-next : goal.returns-clause-next
returns-clause-next c is =
    (narrow_named_marked c.args.word c.args.next c.ranges.word.fits
    (sym c.from.ensures ∙ eqb-true c.from.result (c.to_word.result + 1) is ∙ ap (λ n. n + 1) c.to_word.ensures.value)).1
