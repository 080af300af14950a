-- These lemmas say how the node of a place changes when a call writes to the words of the place. The words are read as they are.
use Rattle.std.proofs.Common.{◌≡◌, ◌+◌, ◌*◌, ◌/◌, ◌%◌, ℕ, cond, nat_eq, Option, ap, ◌∙◌, arith}
use Rattle.ic_link_ops.specs.Prelude.{Place, word_of}
use Rattle.ic_link_ops.specs.declared.color.Color.{Color}
use Rattle.ic_link_ops.specs.declared.color.Color.TheVariants.{Red, Black}
use Rattle.ic_link_ops.specs.TreeWords.{one_if_black}
use Rattle.ic_raw.specs.declared.words.RawThree.{RawThree}
use Rattle.ic_raw.specs.Prelude.{node, place_in}
use Rattle.ic_raw.proofs.Entries.{place_kept}
use Rattle.ic_raw.proofs.Seen.{place_beside, mark_beside, one_digit, color_kept, same_parent}

module _ (w : RawThree) where
  module _ (o : Option Place) (n : ℕ) (is : n ≡ word_of o) where
    pub left_set : node (record w { left = n + w.left % 2 }) ≡ record (node w) { left = o }
    left_set = λ k. record (node w) { linked = mark_beside o n w.left is k; left = place_beside o n w.left is k }

    pub right_set : node (record w { right = n }) ≡ record (node w) { right = o }
    right_set = ap (λ x. record (node w) { right = x }) (ap place_in is ∙ place_kept o)

    pub parent_set : node (record w { parent = n + w.parent % 2 }) ≡ record (node w) { parent = o }
    parent_set = λ k. record (node w) { parent = place_beside o n w.parent is k; color = cond (mark_beside o n w.parent is k) Black Red }

  pub color_set : (p : Place) (c : Color) (b : ℕ) → b ≡ one_if_black c → node (record w { parent = w.parent / 2 * 2 + b }) ≡ record (node w) { color = c }
  color_set p c b is =
      let digit = one_digit c in
      let mark : (w.parent / 2 * 2 + b) % 2 ≡ one_if_black c = omega (arith, is, digit) in
      let color = ap (λ m. cond (nat_eq m 1) Black Red) mark ∙ color_kept c in
      λ k. record (node w) { parent = same_parent p 0 w c b is k; color = color k }
