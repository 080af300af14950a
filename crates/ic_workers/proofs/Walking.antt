-- Lemmas on a walk over a list, from its front.
use Rattle.std.proofs.Common.{◌≡◌, ◌++◌, [], ◌∷◌, Option, Some, List, drop, sym, ap, ◌∙◌, append_assoc}
use Rattle.std.proofs.lemmas.List.{append_cancel_left}
use Rattle.ic_link_ops.specs.Prelude.{Place, Cut, join, first, IsAfter, IsBefore}
use Rattle.ic_link_ops.proofs.SequenceLemmas.{first_is, last_of_push}

-- a walk over s has visited the members `seen`, and its position is the first member of s that it has not visited
pub record Seen (seen : List Place) (position : Option Place) (s : List Place) : Type 0 where
  pub rest : List Place
  pub is : s ≡ seen ++ rest
  pub at : position ≡ first rest

-- if the walk moves on from the member p, it has also visited p
pub seen_more : {seen : List Place} {position new_position : Option Place} {s : List Place} (k : Seen seen position s) (p : Place) → Some p ≡ position
    → ((gap : Cut) → s ≡ join gap → IsAfter gap position → IsBefore gap new_position) → Seen (seen ++ p ∷ []) new_position s
seen_more {seen} {s} k p here leads =
    let parts : k.rest ≡ p ∷ drop 1 k.rest = first_is k.rest (here ∙ k.at) in
    let whole : s ≡ (seen ++ p ∷ []) ++ drop 1 k.rest = k.is ∙ (ap (λ (l : List Place). seen ++ l) parts ∙ sym (append_assoc seen (p ∷ []) (drop 1 k.rest))) in
    record {
      rest = drop 1 k.rest;
      is = whole;
      at = leads (record { front = seen ++ p ∷ []; back = drop 1 k.rest }) whole (sym here ∙ sym (last_of_push seen p));
    }

-- if the walk has also visited p, the members that are left are the same without p
pub seen_less : {seen : List Place} {p : Place} {position new_position : Option Place} {s : List Place} (k : Seen seen position s) (m : Seen (seen ++ p ∷ []) new_position s)
    → k.rest ≡ p ∷ m.rest
seen_less {seen} {p} k m = append_cancel_left seen k.rest (p ∷ m.rest) (sym k.is ∙ (m.is ∙ append_assoc seen (p ∷ []) m.rest))
