-- The collections of a world by number and by field. Each live collection, which is not disposed of, is stored in a list of its field. For each
-- number there is a slot with the field of the collection, and its index in the list of this field.
use Rattle.std.specs.Prelude.{◌≡◌, ◌≢◌, ℕ, ◌<◌, List, [], ◌∷◌, ◌++◌, length, map, Option, Some, None, slice_index_or, slice_get, slice_set}
use Rattle.std.specs.declared.vec.Vec.{Vec}
use Rattle.ic_link_ops.specs.Prelude.{Place, IsMember, Table}
use Rattle.ic_any_collection.specs.declared.entry.Entry.{Entry}
use Rattle.ic_any_collection.specs.declared.any_collection.AnyCollection.{AnyCollection}
use Rattle.ic_any_collection.specs.AnyCollection.{members_in, Held}
use Rattle.ic_world.specs.declared.collection.Collection.{Collection}
use Rattle.ic_world.specs.declared.collections_by_number.Slot.{Slot}
use Rattle.ic_world.specs.declared.collections_by_number.Numbered.{Numbered}

-- the collections in a stored list of one field
abbrev pub items_of : {V M : Type 0} → Vec (Numbered V) M → List (Numbered V)
items_of v = v.items

-- the list of the live collections of the field f
abbrev pub live_in : {V : Type 0} → List (List (Numbered V)) → ℕ → List (Numbered V)
live_in ls f = slice_index_or ls f []

-- the index that marks the slot of a disposed collection. The index of each live collection is smaller
abbrev pub disposed : ℕ
disposed = 4294967295

-- the collection at the index i in the list of the field f, or none if the list is not so long
abbrev pub lying : {V : Type 0} → List (List (Numbered V)) → ℕ → ℕ → Option (Numbered V)
lying ls f i = slice_get (live_in ls f) i

-- a collection from the list of the field f, with the number of the field instead of its own number
abbrev pub in_field : {V : Type 0} → ℕ → Option (Numbered V) → Option (Collection V)
in_field f None = None
in_field f (Some n) = Some (record { field = f; members = n.members })

-- the collection to which a slot leads, or none if the collection was disposed of
abbrev pub in_slot : {V : Type 0} → List (List (Numbered V)) → Slot → Option (Collection V)
in_slot ls s = in_field s.field (lying ls s.field s.index)

-- the collections in the order of their numbers, each found by its slot
abbrev pub by_number : {V : Type 0} → List (List (Numbered V)) → List Slot → List (Option (Collection V))
by_number ls ns = map (in_slot ls) ns

-- THE INVARIANT of the collections by number: each slot leads to the collection of its number, and each live collection has a slot
pub record AreNumbered {V : Type 0} (ls : List (List (Numbered V))) (ns : List Slot) : Type 0 where
  -- the slot under the number of a live collection leads to that collection
  pub found : (f i : ℕ) (n : Numbered V) → lying ls f i ≡ Some n → slice_get ns n.number ≡ Some (record { field = f; index = i })
  -- the index of each live collection is below the index that marks disposed collections
  pub before : (f i : ℕ) (n : Numbered V) → lying ls f i ≡ Some n → i < disposed
  -- each slot, except those of disposed collections, leads to a collection with the number of the slot
  pub kept : (c : ℕ) (s : Slot) → slice_get ns c ≡ Some s → s.index ≢ disposed → (m : AnyCollection V) × (lying ls s.field s.index ≡ Some (record { number = c; members = m }))

-- A COLLECTION IS REMOVED FROM A LIST: the last collection of the list moves to the index i of the removed one. `number` is the number of the
-- collection that moved
pub record IsTakenOut {V : Type 0} (old : List (Numbered V)) (i : ℕ) (number : ℕ) (new : List (Numbered V)) : Type 0 where
  pub rest : List (Numbered V)
  pub last : Numbered V
  pub was : old ≡ rest ++ last ∷ []
  pub is : new ≡ slice_set rest i last
  pub moved : number ≡ last.number

-- each field has the same live collections as before
abbrev pub HaveLists : {V : Type 0} → (old new : List (List (Numbered V))) → Type 0
HaveLists old new = (g : ℕ) → live_in new g ≡ live_in old g

-- the collection n is appended to the list of the field f, and the slot s leads to n. All other lists are as before
pub record IsEntered {V : Type 0} (old : List (List (Numbered V))) (f : ℕ) (n : Numbered V) (s : Slot) (new : List (List (Numbered V))) : Type 0 where
  pub field : s.field ≡ f
  pub index : s.index ≡ length (live_in old f)
  pub before : s.index < disposed
  pub more : live_in new f ≡ live_in old f ++ n ∷ []
  pub others : (g : ℕ) → g ≢ f → live_in new g ≡ live_in old g

-- if a slot is returned, the collection n is appended to the list of the field f, and the slot leads to n. If none is returned, the lists are as
-- before
abbrev pub Enters : {V : Type 0} → List (List (Numbered V)) → ℕ → Numbered V → Option Slot → List (List (Numbered V)) → Type 0
Enters old f n None new = HaveLists old new
Enters old f n (Some s) new = IsEntered old f n s new

-- the table t represents the members of each collection of `list`, as `Held` says
abbrev pub EachHeld : {V : Type 0} → Table Entry → List (Numbered V) → Type 0
EachHeld {V} t list = (i : ℕ) (n : Numbered V) → slice_get list i ≡ Some n → Held t n.members

-- the place p is a member of one of the collections of `list`. The table of all these collections is t
pub record SomeHas {V : Type 0} (t : Table Entry) (p : Place) (list : List (Numbered V)) : Type 0 where
  pub index : ℕ
  pub one : Numbered V
  pub is : slice_get list index ≡ Some one
  pub member : IsMember p (members_in t one.members)
