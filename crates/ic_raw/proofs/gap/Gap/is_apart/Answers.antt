use Rattle.std.proofs.Common.{sym, ap, ◌∙◌, eq-eqb}
use Rattle.ic_unsafe_ref.specs.Places.{word_of}
use Rattle.ic_raw.proofs.Gaps.{is_not, not_so}
use Rattle.ic_raw.proofs.Xor.{words_tell}
use Rattle.ic_raw.proofs.gap.Gap.is_apart.Goals as goal

pub returns-then-to_word-word : goal.returns-then-to_word-word
returns-then-to_word-word c =
    let after = words_tell c.to_word-then-to_word-word.ensures.value c.to_word-word.ensures.value in (
      (λ other. (
        (λ e. c.if-to_word-word.true (c.to_word.ensures.value ∙ ap word_of e ∙ sym c.to_word-word.ensures.value)),
        (λ e. not_so _ other (after.1 e)),
      )),
      (λ apart. is_not _ (λ e. apart.1 (after.0 e))),
    )

pub returns-else-to_word-word : goal.returns-else-to_word-word
returns-else-to_word-word c =
    let before = words_tell c.to_word.ensures.value c.to_word-word.ensures.value in (
      (λ other. absurd (not_so _ other (eq-eqb _ _ c.if-to_word-word.false))),
      (λ apart. is_not _ (λ e. apart.0 (before.0 e))),
    )
