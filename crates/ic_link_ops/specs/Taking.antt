-- This file describes a walk that removes the members of a collection. Each kind of collection uses the definitions in this file.
use Rattle.std.specs.Prelude.{◌≡◌, Option, List, [], ◌∷◌, IfSome, IfNone, drop}
use Rattle.std.specs.Borrow.{MutBor}
use Rattle.ic_unsafe_ref.specs.declared.place.Place.{Place}
use Rattle.ic_link_ops.specs.Sequences.{first, last, but_last}
use Rattle.ic_link_ops.specs.Tables.{Table, ChangesOnlyIn}
use Rattle.ic_link_ops.specs.LinkSteps.{LinkStep, releases}

-- The state of a walk that removes the members: the head of the part of the collection that is not removed yet, and the table
-- that the walk borrows.
pub record Taking (L H : Type 0) : Type 0 where
  pub head : H
  pub links : MutBor L

-- `Represents t head s` says that the table t represents the sequence s for the collection with this head.
module _ {L E H : Type 0} (Represents : Table E → H → List Place → Type 0) (table : L → Table E) where
  -- In the state t of the walk, w is the sequence of the members that the walk has not returned yet.
  abbrev pub Leaves : Taking L H → List Place → Type 0
  Leaves t w = Represents (table t.links.now) t.head w

  -- Some sequence of members remains for the walk, and this sequence may be empty.
  abbrev pub CanTake : Taking L H → Type 0
  CanTake t = (w : List Place) × Leaves t w

  module _ (Trace : L → L → List LinkStep → Type 0) where
    -- One call of the walk led from the state s to the state t and returned r. If the members w remained, the call returned and
    -- unlinked the member `end w`, and made no other step. The members `others w` then remain. If no member remained, the call
    -- returned none and changed nothing.
    pub record Takes (end : List Place → Option Place) (others : List Place → List Place) (s : Taking L H) (r : Option Place) (t : Taking L H) : Type 0 where
      pub same_links : t.links.ghost_name ≡ s.links.ghost_name
      pub answer : (w : List Place) → Leaves s w → r ≡ end w
      pub removed : (w : List Place) → Leaves s w → Leaves t (others w)
      pub released : IfSome r (λ p. Trace s.links.now t.links.now (releases p ∷ []))
      pub empty : IfNone r ((t.head ≡ s.head) × (t.links.now ≡ s.links.now))
      pub frame : (w : List Place) → Leaves s w → ChangesOnlyIn (table s.links.now) (table t.links.now) w

    -- `TakesFirst` describes a call that removes and returns the first remaining member. `TakesLast` describes a call that
    -- removes and returns the last remaining member.
    abbrev pub TakesFirst : Taking L H → Option Place → Taking L H → Type 0
    TakesFirst = Takes first (drop 1)

    abbrev pub TakesLast : Taking L H → Option Place → Taking L H → Type 0
    TakesLast = Takes last but_last
