-- Lemmas about two searches on a ring. One finds the first place that passes a test, or the first of all places if none passes. The other finds the last
-- place that passes, or the last of all places if none passes.
use Rattle.std.proofs.Common.{◌≡◌, true, false, Option, None, Some, is_some, List, [], ◌∷◌, sym, ap, ◌∙◌, arith, true≢false}
use Rattle.ic_link_ops.specs.Prelude.{Place, first, first_or, last, last_or}
use Rattle.ic_link_ops.proofs.SequenceLemmas.{last_some}

-- `t` lists the places that pass a test, and `first_or t a` is the first of them, or `a` if `t` is empty. If a search found the first place `o` of `t`,
-- then `o` is `first_or t a`. `last_here` says the same of the last place
pub first_here : (t : List Place) (a o : Option Place) → o ≡ first t → is_some o ≡ true → o ≡ first_or t a
first_here t a o e h = grind arith

pub last_here : (t : List Place) (a o : Option Place) → o ≡ last t → is_some o ≡ true → o ≡ last_or a t
last_here [] a o e h = absurd (true≢false (sym h ∙ ap is_some e))
last_here (x ∷ s) a o e h = e

-- `t` lists the places that pass a test, and a search found none. If the cursor's next step then leads to `a`, this step leads to `first_or t a`
pub first_next : (t : List Place) (a o : Option Place) → o ≡ first t → is_some o ≡ false → {next : Option Place} → (o ≡ None → next ≡ a) → next ≡ first_or t a
first_next t a o e h leads = grind arith

pub last_next : (t : List Place) (a o : Option Place) → o ≡ last t → is_some o ≡ false → {next : Option Place} → (o ≡ None → next ≡ a) → next ≡ last_or a t
last_next [] a o e h leads = leads e
last_next (x ∷ s) a None e h leads = absurd (last_some x s (sym e))
last_next (x ∷ s) a (Some y) e h leads = absurd (true≢false h)
