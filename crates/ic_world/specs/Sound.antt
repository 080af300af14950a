-- WHAT ALWAYS HOLDS of a world: it holds of a new world, and each call keeps it.
use Rattle.std.specs.Prelude.{◌≡◌, ◌<◌, ◌^◌, ℕ, true, Some}
use Rattle.std.specs.FinSet as set
use Rattle.ic_link_ops.specs.Prelude.{Place, index_of, IsMember}
use Rattle.ic_any_collection.specs.Kinds.{carries}
use Rattle.ic_world.specs.Family.{Family, Sequence, collection, field_of, linked_of, has_field, is_placed}
use Rattle.ic_world.specs.Apart.{AreApart}

module _ {A V : Type 0} where
  -- A COLLECTION IS SOUND: its field exists and can have collections of its kind, its members are linked in this field, and its cursor is null or a
  -- member
  pub record IsSoundIn (w : Family A V) (s : Sequence) : Type 0 where
    pub in_field : has_field w s.field ≡ true
    pub carried : carries (field_of w s.field).kind s.kind ≡ true
    pub linked : (p : Place) → IsMember p s.members → set.contains (linked_of w s.field) (index_of p) ≡ true
    pub cursor : (p : Place) → s.cursor ≡ Some p → IsMember p s.members

  -- A FAMILY IS SOUND: only the first 2 ^ 32 places have objects, each linked place has an object, each collection is sound, and no member is shared.
  -- Because of this, each object, linked place and member of a family is at one of the first 2 ^ 32 places
  pub record IsSound (w : Family A V) : Type 0 where
    pub below : (p : Place) → is_placed w p ≡ true → index_of p < 2 ^ 32
    pub placed : (f : ℕ) (p : Place) → set.contains (linked_of w f) (index_of p) ≡ true → is_placed w p ≡ true
    pub collections : (c : ℕ) (s : Sequence) → collection w c ≡ Some s → IsSoundIn w s
    pub apart : AreApart w
