-- If there is an object at each covered place, then there is an object at each member of a list.
use Rattle.std.proofs.Common.{◌≡◌, ℕ, true, Option, Some, None, List, [], ◌∷◌}
use Rattle.ic_link_ops.specs.Prelude.{Place, Objects, is_placed, ArePlaced}
use Rattle.ic_link_ops.specs.Chains.{IsChain}

-- `Between` says which two neighbors an entry names. If there is an object at each place for whose entry `Between` holds, then there is an object at each
-- member of a chain
pub chain_placed : {E : Type 0} (Between : E → Option Place → Option Place → Type 0) (entry : Place → E) (o : Objects ℕ)
    → ((q : Place) (a b : Option Place) → Between (entry q) a b → is_placed o q ≡ true)
    → (before : Option Place) (s : List Place) → IsChain Between entry before s None → ArePlaced o s
chain_placed Between entry o all before [] k = tt
chain_placed Between entry o all before (x ∷ s) k = (all x _ _ k.0, chain_placed Between entry o all (Some x) s k.1)
