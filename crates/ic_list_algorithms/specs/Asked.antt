-- These definitions say for which members a call used a test, in which order, and what the test returned.
use Rattle.std.specs.Prelude.{◌≡◌, ◌⊎◌, ℕ, Bool, true, false, not, cond, length, Option, Some, None, List, [], ◌∷◌, ◌++◌}
use Rattle.ic_link_ops.specs.Prelude.{Place, Objects, object_at}

-- `asks f x answer g`: one call of the test f for x may return `answer` and leave the state g
module _ {X F : Type 0} (asks : F → X → Bool → F → Type 0) where
  -- `AnswersNo f s g`: the test was called once for each member of s, in order, and returned false each time. Its state was f before, and is g afterwards
  abbrev pub AnswersNo : F → List X → F → Type 0
  AnswersNo f [] g = g ≡ f
  AnswersNo f (x ∷ s) g = (next : F) × asks f x false next × AnswersNo next s g

  -- the test was called once for each member of s up to q, in order, and for no member after q. It returned true only for q, which is at `position`
  pub record FindsFirst (f : F) (s : List X) (after : F) (position : ℕ) (q : X) : Type 0 where
    pub front : List X
    pub back : List X
    pub parts : s ≡ front ++ q ∷ back
    pub index : position ≡ length front
    pub then : F
    pub before : AnswersNo f front then
    pub here : asks then q true after

-- `asks f prev x kept g`: one call of the test f for x may return `kept` and leave the state g. `prev` is the last member that was kept (none at
-- first)
module _ {X F : Type 0} (asks : F → Option X → X → Bool → F → Type 0) where
  -- `KeepsInTurn f prev s kept g`: the test was called once for each member of s, in order, and `kept` has the members that it keeps
  abbrev pub KeepsInTurn : F → Option X → List X → List X → F → Type 0
  KeepsInTurn f prev [] kept g = (kept ≡ []) × (g ≡ f)
  KeepsInTurn f prev (x ∷ s) kept g = (answer : Bool) × (next : F) × asks f prev x answer next
      × (rest : List X) × (kept ≡ cond answer (x ∷ rest) rest) × KeepsInTurn next (cond answer (Some x) prev) s rest g

-- `asks f prev x may g`: one call of the order f for `prev` and x can return `may` and leave the state g. `may` says whether x can come after `prev` (none at
-- first)
module _ {X F : Type 0} (asks : F → Option X → X → Bool → F → Type 0) where
  -- `OrderedInTurn f prev s sorted g`: the order was called once for each member of s, in order, until a member could not come after the member before it. If
  -- there was no such member, `sorted` is true
  abbrev pub OrderedInTurn : F → Option X → List X → Bool → F → Type 0
  OrderedInTurn f prev [] sorted g = (sorted ≡ true) × (g ≡ f)
  OrderedInTurn f prev (x ∷ s) sorted g = (asks f prev x false g × (sorted ≡ false)) ⊎ ((next : F) × asks f prev x true next × OrderedInTurn next (Some x) s sorted g)

-- a test whether two values are the same decides whether the second value is kept. The first value of all is kept without a call of the test
abbrev pub asks_two : {V F : Type 0} → (F → V → V → Bool → F → Type 0) → F → Option V → V → Bool → F → Type 0
asks_two asks f None x kept g = (kept ≡ true) × (g ≡ f)
asks_two asks f (Some p) x kept g = (same : Bool) × asks f p x same g × (kept ≡ not same)

module _ {V F : Type 0} (objects : Objects V) where
  -- an object is at p, and the test was called for this object and returned `answer`
  pub record AsksAt (asks : F → V → Bool → F → Type 0) (f : F) (p : Place) (answer : Bool) (g : F) : Type 0 where
    pub value : V
    pub stands : object_at objects p ≡ Some value
    pub asked : asks f value answer g

  -- the test was called for the object at `last`, which was kept last, and for the object at p, and returned `answer`. The call changes neither place: p' is p,
  -- and last' is last
  pub record AsksBoth (asks : F → V → V → Bool → F → Type 0) (f : F) (p last : Place) (answer : Bool) (g : F) (p' last' : Place) : Type 0 where
    pub before : V
    pub value : V
    pub stood : object_at objects last ≡ Some before
    pub stands : object_at objects p ≡ Some value
    pub asked : asks f before value answer g
    pub same : (p' ≡ p) × (last' ≡ last)

  -- the test was called for the object at p, and for the object that was kept last, if there is one, and returned `answer`
  abbrev pub AsksBeside : (F → Option V → V → Bool → F → Type 0) → F → Option Place → Place → Bool → F → Type 0
  AsksBeside asks f None p answer g = (value : V) × (object_at objects p ≡ Some value) × asks f None value answer g
  AsksBeside asks f (Some last) p answer g = (before : V) × (value : V) × (object_at objects last ≡ Some before) × (object_at objects p ≡ Some value) × asks f (Some before) value answer g

  -- the order was called for the object at p and the object at `last`, and returned whether the object at p is less. If it is not less, it may come after the
  -- object at `last`. The first object may come without a call of the order
  abbrev pub AsksAfter : (F → V → V → Bool → F → Type 0) → F → Option Place → Place → Bool → F → Type 0
  AsksAfter asks f None p may g = (may ≡ true) × (g ≡ f)
  AsksAfter asks f (Some last) p may g = (before : V) × (value : V) × (object_at objects last ≡ Some before) × (object_at objects p ≡ Some value)
      × (less : Bool) × asks f value before less g × (may ≡ not less)
