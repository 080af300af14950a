-- These definitions describe one edit of a collection, with everything that an invariant needs to know of the edit.
use Rattle.std.specs.Prelude.{◌≡◌, Bool, List, ◌∷◌, ◌++◌}
use Rattle.ic_link_ops.specs.Prelude.{Place, Table, ChangesOnlyIn, KeepsLinked, LinksAlso, Unlinks}

-- `head` is the collection before the edit, and `after` is the collection after the edit
module _ {E H : Type 0} (Represents : Table E → H → List Place → Type 0) (linked : E → Bool) (old new : Table E) (head after : H) where
  -- p HAS JOINED the collection: its position is after the members `front` and before the members `back`
  pub record HasJoined (front : List Place) (p : Place) (back : List Place) : Type 0 where
    pub was : Represents old head (front ++ back)
    pub is : Represents new after (front ++ p ∷ back)
    pub also : LinksAlso linked old new p
    pub frame : ChangesOnlyIn old new (p ∷ (front ++ back))

  -- p HAS LEFT the collection: its position was after the members `front` and before the members `back`
  pub record HasLeft (front : List Place) (p : Place) (back : List Place) : Type 0 where
    pub was : Represents old head (front ++ p ∷ back)
    pub is : Represents new after (front ++ back)
    pub off : Unlinks linked old new p
    pub frame : ChangesOnlyIn old new (front ++ p ∷ back)

  -- p HAS MOVED: it was between the members `front` and `back`, and now it is between the members `before` and `following`
  pub record HasMoved (front : List Place) (p : Place) (back before following : List Place) : Type 0 where
    pub was : Represents old head (front ++ p ∷ back)
    pub rest : front ++ back ≡ before ++ following
    pub is : Represents new after (before ++ p ∷ following)
    pub keeps : KeepsLinked linked old new
    pub frame : ChangesOnlyIn old new (front ++ p ∷ back)
