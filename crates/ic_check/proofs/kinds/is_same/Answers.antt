use Rattle.std.proofs.Common.{sym, ap, ◌∙◌, eqb-true, eq-eqb}
use Rattle.ic_unsafe_ref.specs.Places.{place_at, word_of}
use Rattle.ic_unsafe_ref.proofs.PlaceLemmas.{place_at_word}
use Rattle.ic_check.proofs.kinds.is_same.Goals as goal

pub returns : goal.returns
returns c = (
  (λ e. sym (place_at_word c.args.a) ∙ ap place_at (sym c.to_word.ensures.value ∙ eqb-true _ _ e ∙ c.to_word-2.ensures.value) ∙ place_at_word c.args.b),
  (λ e. eq-eqb _ _ (c.to_word.ensures.value ∙ ap word_of e ∙ sym c.to_word-2.ensures.value)),
)
