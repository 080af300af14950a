-- This file defines the steps by which a table links or unlinks a place, and says how each step changes which places are linked.
use Rattle.std.specs.Prelude.{List, [], ◌∷◌, Bool, map}
use Rattle.ic_unsafe_ref.specs.declared.place.Place.{Place}
use Rattle.ic_link_ops.specs.Tables.{Table, LinksAlso, Unlinks, KeepsLinked}

-- A step of a table links one place or unlinks one place.
pub data LinkStep : Type 0 where
  acquires : Place → LinkStep
  releases : Place → LinkStep

-- The list of steps that unlink each place of s, in the order of s.
abbrev pub releases_each : List Place → List LinkStep
releases_each s = map releases s

module _ {E : Type 0} (linked : E → Bool) where
  -- `Makes step old new` says how one step changes which places are linked. A step that links p finds p unlinked, and a step that
  -- unlinks p finds p linked.
  abbrev pub Makes : LinkStep → Table E → Table E → Type 0
  Makes (acquires p) old new = LinksAlso linked old new p
  Makes (releases p) old new = Unlinks linked old new p

  -- `TraceIs old new steps` says how a list of steps changes which places are linked. If the list of steps is empty, the same
  -- places are linked in both tables.
  abbrev pub TraceIs : Table E → Table E → List LinkStep → Type 0
  TraceIs old new [] = KeepsLinked linked old new
  TraceIs old new (step ∷ []) = Makes step old new
  TraceIs old new (step ∷ next ∷ rest) = (mid : Table E) × Makes step old mid × TraceIs mid new (next ∷ rest)
