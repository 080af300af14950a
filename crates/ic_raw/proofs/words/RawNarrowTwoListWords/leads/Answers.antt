use Rattle.std.proofs.Common.{◌+◌, sym, ap, ◌∙◌, eqb-true, eq-eqb}
use Rattle.ic_raw.specs.Words.{narrow_number_in}
use Rattle.ic_raw.proofs.Entries.{narrow_number_fits, is_led, leads}
use Rattle.ic_raw.proofs.words.RawNarrowTwoListWords.leads.Goals as goal

pub returns-clause-linked : goal.returns-clause-linked
returns-clause-linked c same =
    let v = c.args.self.now.next in (is_led v (narrow_number_in v) c.args.next (narrow_number_fits v) (sym c.from.ensures ∙ eqb-true c.from.result (c.to_word.result + 1) same ∙ ap (λ n. n + 1) c.to_word.ensures.value)).0

pub returns-clause-next : goal.returns-clause-next
returns-clause-next c same =
    let v = c.args.self.now.next in (is_led v (narrow_number_in v) c.args.next (narrow_number_fits v) (sym c.from.ensures ∙ eqb-true c.from.result (c.to_word.result + 1) same ∙ ap (λ n. n + 1) c.to_word.ensures.value)).1

pub returns-clause-leads : goal.returns-clause-leads
returns-clause-leads c linked is =
    let v = c.args.self.now.next in
    eq-eqb c.from.result (c.to_word.result + 1) (c.from.ensures ∙ leads v (narrow_number_in v) c.args.next (narrow_number_fits v) linked is ∙ sym (ap (λ n. n + 1) c.to_word.ensures.value))
