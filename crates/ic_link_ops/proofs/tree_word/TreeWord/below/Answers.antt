use Rattle.std.proofs.Common.{◌≡◌, ◌+◌, sym, ap, ◌∙◌, arith}
use Rattle.ic_unsafe_ref.specs.Places.{word_of}
use Rattle.ic_link_ops.specs.declared.color.Color.TheVariants.{Red, Black}
use Rattle.ic_link_ops.specs.TreeWords.{linked_below, parts_at}
use Rattle.ic_link_ops.proofs.TreeWordLemmas.{parts_below}
use Rattle.ic_link_ops.proofs.tree_word.TreeWord.below.Goals as goal
use Rattle.ic_link_ops.proofs.tree_word.TreeWord.below.Goals.{in-Red, in-Black}

pub returns : goal.returns
returns g c =
    elim c.match-color.branch [
      | in-Red w ↦
          let bits : c.to_word.result + 2 + c.match-color.black ≡ word_of c.args.parent + 2 + 0 = omega (arith, c.to_word.ensures.value, w.black-is) in
          ap parts_at (c.of.ensures ∙ bits) ∙ (parts_below c.args.parent Red ∙ ap (λ x. linked_below c.args.parent x) (sym w.in-Red.is))
      | in-Black w ↦
          let bits : c.to_word.result + 2 + c.match-color.black ≡ word_of c.args.parent + 2 + 1 = omega (arith, c.to_word.ensures.value, w.black-is) in
          ap parts_at (c.of.ensures ∙ bits) ∙ (parts_below c.args.parent Black ∙ ap (λ x. linked_below c.args.parent x) (sym w.in-Black.is))
    ]
