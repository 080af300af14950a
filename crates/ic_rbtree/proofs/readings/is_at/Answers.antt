use Rattle.std.proofs.Common.{◌≡◌, ◌*◌, ◌+◌, Option, Some, None, ℕ, nat_eq, sym, ap, ◌∙◌, arith, ne_eqb}
use Rattle.ic_link_ops.specs.Prelude.{Place, index_of, word_of, is_end}
use Rattle.ic_unsafe_ref.proofs.PlaceLemmas.{word_is, word_tells}
use Rattle.ic_rbtree.proofs.readings.is_at.Goals as goal

-- an optional place is the place p exactly if their two words are equal
same_words : (end : Option Place) (p : Place) → nat_eq (word_of end) (word_of (Some p)) ≡ is_end end p
same_words None p = ne_eqb 0 (8 * (index_of p + 1)) (λ e. absurd (omega (arith, e)))
same_words (Some q) p =
    let words : nat_eq (8 * (index_of q + 1)) (8 * (index_of p + 1)) ≡ nat_eq q.word p.word =
    ap (λ (m : ℕ). nat_eq m (8 * (index_of p + 1))) (sym (word_is q)) ∙ ap (λ (m : ℕ). nat_eq q.word m) (sym (word_is p)) in
    words ∙ word_tells q p

pub returns : goal.returns
returns c =
    ap (λ (m : ℕ). nat_eq m c.to_word-2.result) c.to_word.ensures.value
    ∙ ap (λ (m : ℕ). nat_eq (word_of c.args.end) m) c.to_word-2.ensures.value
    ∙ same_words c.args.end c.args.place
