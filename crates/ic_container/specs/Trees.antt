-- A container maintains that its index or its tree has each of its objects.
use Rattle.std.specs.Prelude.{◌≡◌, ◌≢◌, ℕ, ◌<◌, Bool, Option, Some, None, List, ◌∷◌, ◌++◌}
use Rattle.std.specs.List.{AllByRecursion}
use Rattle.ic_link_ops.specs.Prelude.{Place, Objects, Places, object_at, Table, Node, node_of}
use Rattle.ic_container.specs.EachObject.{HasEachIn}
use Rattle.ic_rbtree.specs.Prelude.{TreeLinkOps, is_linked, plain_table, key_at}

-- THE INDEX HAS ALL OBJECTS EXCEPT ONE, the new object at p
pub record LacksOne {T : Type 0} (Has : Objects T → Type 0) (objects : Objects T) (p : Place) : Type 0 where
  pub less : Objects T
  pub value : T
  pub places : Places less objects p value
  pub all : Has less

-- the tree has each object, in the order of the keys, and no other place is linked
module _ {L E : Type 0} (node : E → Node) (linked : E → Bool) (table : L → Table E) where
  pub record HasAllIn {T : Type 0} (key : T → ℕ) (links : L) (root : Option Place) (objects : Objects T) : Type 0 where
    pub values : List T
    pub each : HasEachIn node linked table key links root objects values

module _ {T : Type 0} (key : T → ℕ) where
  -- the tree has each object, in the order of the keys, over a plain table of 8-byte words
  abbrev pub HasAll : {A : Type 0} → TreeLinkOps A → Option Place → Objects T → Type 0
  HasAll = HasAllIn node_of is_linked plain_table key

  -- WHAT A SEARCH FINDS: the place of an object with the key k, or none if no object has the key
  abbrev pub IsFound : Objects T → ℕ → Option Place → Type 0
  IsFound objects k None = (p : Place) (value : T) → object_at objects p ≡ Some value → key value ≢ k
  IsFound objects k (Some p) = (value : T) × (object_at objects p ≡ Some value) × (key value ≡ k)

  -- a search finds an object with the key k, or none if no object has the key
  abbrev pub IsFoundObject : Objects T → ℕ → Option T → Type 0
  IsFoundObject objects k None = IsFound objects k None
  IsFoundObject objects k (Some value) = (p : Place) × (object_at objects p ≡ Some value) × (key value ≡ k)

  -- NO TWO OBJECTS have equal keys
  abbrev pub IsUnique : Objects T → Type 0
  IsUnique objects = (p q : Place) (v w : T) → object_at objects p ≡ Some v → object_at objects q ≡ Some w → key v ≡ key w → p ≡ q

  -- ONE PLACE MORE: the place p is inserted, and each object after it has a greater key
  pub record PutsInOrder (objects : Objects T) (old new : List Place) (p : Place) : Type 0 where
    pub front : List Place
    pub back : List Place
    pub was : old ≡ front ++ back
    pub is : new ≡ front ++ p ∷ back
    pub later : AllByRecursion (λ q. key_at key objects p < key_at key objects q) back
