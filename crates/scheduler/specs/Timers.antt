-- Definitions for the contracts of calls on waiting timers.
use Rattle.std.specs.Prelude.{◌≡◌, ℕ, ◌≤◌, Bool, false, leb, Option, None, Some, Result, Ok, Err, List, [], ◌∷◌, ◌++◌}
use Rattle.std.specs.List.{AllByRecursion}
use Rattle.std.specs.declared.alloc.AllocFailed.{AllocFailed}
use Rattle.ic_link_ops.specs.Prelude.{Place, Objects, object_at, first, Table, CursorState, RepresentsAt}
use Rattle.ic_link_ops.specs.RedBlackTree.{Node, Represents}
use Rattle.ic_rbtree.specs.SortedObjects.{key_at, RepresentsSorted}

module _ {T : Type 0} (deadline : T → ℕ) where
  -- whether there is a timer that is due: its deadline is at most `now`
  abbrev pub due : ℕ → Option T → Bool
  due now None = false
  due now (Some timer) = leb (deadline timer) now

  -- whether the place `p` has a timer that is due at the time `now`
  abbrev pub is_due : Objects T → ℕ → Place → Bool
  is_due objects now p = due now (object_at objects p)

  -- The sequence `s` consists of the places `taken` and then the places `rest`. The timers at the places of `taken` are all due at the time `now`
  pub record ComesFirst (objects : Objects T) (now : ℕ) (taken rest s : List Place) : Type 0 where
    pub same : taken ++ rest ≡ s
    pub are_due : AllByRecursion (λ p. key_at deadline objects p ≤ now) taken

  -- The position of the cursor state `at` is the first timer of the queue, or null if the queue is empty. The timers are objects, and the queue has
  -- them sorted by their deadlines
  pub record IsAtFront {L E : Type 0} (n : E → Node) (table : L → Table E) (objects : Objects T) (at : CursorState L (Option Place)) : Type 0 where
    pub queue : RepresentsSorted deadline (RepresentsAt (Represents n) table at) objects
    pub first_is : (s : List Place) → RepresentsAt (Represents n) table at s → at.position ≡ first s

-- the timers that a call gives back to its caller: the refused timer if there was no room for it, and none if the call succeeded
abbrev pub handed_back : {T : Type 0} → Result Unit (AllocFailed T) → List T
handed_back (Ok u) = []
handed_back (Err refused) = refused.value ∷ []
