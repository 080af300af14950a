use Rattle.std.proofs.Common.{◌≡◌, refl, sym, ap, ◌∙◌, arith}
use Rattle.ic_link_ops.specs.declared.side.Side.TheVariants.{Left}
use Rattle.ic_unsafe_ref.specs.Places.{word_of}
use Rattle.ic_raw.specs.declared.words.RawThree.{RawThree}
use Rattle.ic_raw.specs.Prelude.{before, place_in}
use Rattle.ic_raw.proofs.Entries.{same_word}
use Rattle.ic_raw.proofs.Gaps.{never}
use Rattle.ic_raw.proofs.Trees.{root_by_parent}
use Rattle.ic_raw.proofs.tree.may_hold.Goals as goal

pub returns-then-not-stand-clause-shown : goal.returns-then-not-stand-clause-shown
returns-then-not-stand-clause-shown c front back shown = absurd (never c.if-not-stand.true (c.stand.ensures.shown Left (before c.args.member front back) shown refl))

pub returns-in-None-clause-own : goal.returns-in-None-clause-own
returns-in-None-clause-own c same none = sym c.root.ensures ∙ same_word _ _ c.to_word.ensures.value c.to_word-in-None.ensures.value same

pub returns-in-None-clause-shown : goal.returns-in-None-clause-shown
returns-in-None-clause-shown c front back shown =
    let none = ap (λ (w : RawThree). place_in w.parent) (sym c.at.ensures) ∙ sym c.place_in.ensures ∙ c.in-None.is in
    let root = c.root.ensures ∙ root_by_parent front c.args.member back shown none in
    let same : c.to_word.result ≡ c.to_word-in-None.result = c.to_word.ensures.value ∙ ap word_of root ∙ sym c.to_word-in-None.ensures.value in
    grind (arith, same)
