-- A link step links or unlinks a place, and this file says what it keeps of the summaries.
use Rattle.std.specs.Prelude.{◌≡◌, ◌⊎◌, Some, List, [], ◌∷◌}
use Rattle.ic_link_ops.specs.Prelude.{Place, Table, LinkStep, acquires, releases, Node}
use Rattle.ic_augmented.specs.Summaries.{Summaries, WritesNoSummary}
use Rattle.ic_augmented.specs.Consistent.{IsJoined}
use Rattle.ic_augmented.specs.Augmented.{links_of, summaries_of}
use Rattle.ic_augmented.specs.declared.augmented.Augmented.{Augmented}

-- one of the steps links the place p
abbrev pub IsAcquired : Place → List LinkStep → Type 0
IsAcquired p [] = ⊥
IsAcquired p (acquires q ∷ s) = (q ≡ p) ⊎ IsAcquired p s
IsAcquired p (releases q ∷ s) = IsAcquired p s

-- if the place q has a fresh summary, it is computed from the present summaries of both children
abbrev pub IsRightAt : {E S : Type 0} → (E → Node) → Table E → Summaries S → Place → Type 0
IsRightAt {S = S} n v z q = (x : S) → z.fresh q ≡ Some x → IsJoined z q (n (v.entry q)).left (n (v.entry q)).right x

module _ {N M E S : Type 0} (Trace : N → N → List LinkStep → Type 0) (n : E → Node) (table : N → Table E) (summaries : M → Summaries S) (Covers : M → Place → Type 0) where
  -- the links made the link steps `steps`, and no summary was written. Fresh summaries that were right still are, and fresh summaries of places that the steps
  -- link are right
  pub record TraceAugmented (old new : Augmented N M) (steps : List LinkStep) : Type 0 where
    pub links : Trace (links_of old) (links_of new) steps
    pub right : (q : Place) → IsAcquired q steps ⊎ IsRightAt n (table (links_of old)) (summaries (summaries_of old)) q → IsRightAt n (table (links_of new)) (summaries (summaries_of new)) q
    pub marks : WritesNoSummary (summaries (summaries_of old)) (summaries (summaries_of new))
    pub covers : (q : Place) → Covers (summaries_of old) q → Covers (summaries_of new) q
    pub join : (summaries (summaries_of new)).join ≡ (summaries (summaries_of old)).join
