-- How many places of a chain are left.
use Rattle.std.proofs.Common.{◌≡◌, ℕ, zero, suc, ◌<◌, ◌≤◌, Some, List, [], ◌∷◌, drop, length, refl, ap, ◌∙◌, arith}
use Rattle.ic_unsafe_ref.specs.declared.place.Place.{Place}
use Rattle.ic_lock_free_stack.specs.Prelude.{first, known_of}
use Rattle.ic_lock_free_stack.specs.declared.held.Known.{Known}
use Rattle.ic_lock_free_stack.specs.declared.stacks.Stacks.{Stacks}
use Rattle.ic_lock_free_stack.specs.declared.stacks.Holder.{Holder}
use Rattle.ic_lock_free_stack.specs.declared.stacks.Chain.{Chain}
use Rattle.ic_lock_free_stack.specs.Holders.{account_of, AreKnown, HasChain, left_from, left_of}
use Rattle.ic_lock_free_stack.proofs.HolderLemmas.{link_names}

left_walk : (n : ℕ) (ks : List Known) (s : List Place) → length s ≤ n → AreKnown ks s → left_from n ks (first s) ≡ length s
left_walk zero ks [] low linked = refl
left_walk (suc n) ks [] low linked = refl
left_walk zero ks (p ∷ s) low linked = absurd (omega (arith, low))
left_walk (suc n) ks (p ∷ s) low linked =
    ap (λ o. suc (left_from n ks o)) (link_names (first s) (known_of ks p) linked.0) ∙ ap suc (left_walk n ks s (omega (arith, low)) linked.1)

module _ {A : Type 0} (stacks : Stacks A) where
  pub left_is : (h : Holder) (chain : Chain) (s : List Place) → HasChain stacks h chain s → left_of h chain ≡ length s
  unfolding left_of
  left_is h chain s was = ap (left_from (length (account_of h).known) (account_of h).known) was.starts ∙ left_walk (length (account_of h).known) (account_of h).known s was.known was.linked

  -- after the first place was removed from a chain, fewer places are left
  pub left_fewer : (old new : Holder) (chain rest : Chain) (s : List Place) (p : Place) → HasChain stacks old chain s → Some p ≡ first s → HasChain stacks new rest (drop 1 s) → left_of new rest < left_of old chain
  left_fewer old new chain rest [] p was e now = absurd (cc e)
  left_fewer old new chain rest (q ∷ s) p was e now = let a = left_is old chain (q ∷ s) was in let b = left_is new rest s now in omega (arith, a, b)
