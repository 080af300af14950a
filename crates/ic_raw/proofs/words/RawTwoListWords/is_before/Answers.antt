use Rattle.std.proofs.Common.{◌+◌, ap, ◌∙◌, eqb-true}
use Rattle.ic_raw.proofs.Entries.{named_marked}
use Rattle.ic_raw.proofs.words.RawTwoListWords.is_before.Goals as goal

pub returns-clause-next : goal.returns-clause-next
returns-clause-next c is =
    let v = c.args.self.now.next in (named_marked v c.args.next (eqb-true v (c.to_word.result + 1) is ∙ ap (λ n. n + 1) c.to_word.ensures.value)).1

pub returns-clause-linked : goal.returns-clause-linked
returns-clause-linked c is =
    let v = c.args.self.now.next in (named_marked v c.args.next (eqb-true v (c.to_word.result + 1) is ∙ ap (λ n. n + 1) c.to_word.ensures.value)).0
