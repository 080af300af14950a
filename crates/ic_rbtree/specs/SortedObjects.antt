-- Objects at the members of a sequence, in the order of their keys, which are numbers.
use Rattle.std.specs.Prelude.{ℕ, Option, None, Some, List, map}
use Rattle.std.specs.Ordering.{nat_cmp}
use Rattle.std.specs.declared.cmp.Ordering.{Ordering}
use Rattle.ic_link_ops.specs.Prelude.{Place, Objects, object_at, RepresentsPlaced}
use Rattle.ic_rbtree.specs.Borders.{IsSorted}
use Rattle.ic_rbtree.specs.Comparing.{compared, own_order}

module _ {T : Type 0} (key : T → ℕ) where
  -- the key of an object, 0 if there is none
  abbrev pub key_or : Option T → ℕ
  key_or None = 0
  key_or (Some object) = key object

  -- the key of the object at a place, 0 if there is none. `keys_at` is the list of the keys at the members of s
  abbrev pub key_at : Objects T → Place → ℕ
  key_at objects p = key_or (object_at objects p)

  abbrev pub keys_at : Objects T → List Place → List ℕ
  keys_at objects s = map (key_at objects) s

  -- how the key of the object at p compares with the key of the object at each place: `Less` if the key at p is less
  abbrev pub against : Objects T → Place → Place → Ordering
  against objects p = compared (own_order nat_cmp key objects p) objects

  -- a sequence is represented, each of its members has an object, and no key is less than the key before it
  pub record RepresentsSorted (shows : List Place → Type 0) (objects : Objects T) : Type 0 where
    pub placed : RepresentsPlaced shows objects
    pub sorted : IsSorted nat_cmp (keys_at objects placed.members)

  -- `old` and `new` state which sequence is represented before and after a call. If the members before the call have objects in the order of their keys, the
  -- members after the call do, too, whatever the objects are
  abbrev pub StaysSorted : (List Place → Type 0) → (List Place → Type 0) → Type 0
  StaysSorted old new = (objects : Objects T) → RepresentsSorted old objects → RepresentsSorted new objects
