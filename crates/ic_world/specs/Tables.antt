-- The family that the tables of a world represent. No sequence of members is stored. Each sequence is found by a walk through a table.
use Rattle.std.specs.Prelude.{◌≡◌, ◌≢◌, ℕ, ◌<◌, ◌≤◌, ◌^◌, Bool, true, false, List, [], map, length, Option, Some, None, IsSome, slice_index_or}
use Rattle.std.specs.FinMap as map_of
use Rattle.ic_link_ops.specs.Prelude.{Place, index_of, Objects, IsDisjoint, Table}
use Rattle.ic_link_ops.specs.declared.color.Color.TheVariants.{Red}
use Rattle.ic_any_collection.specs.declared.entry.Entry.{Entry}
use Rattle.ic_any_collection.specs.AnyTables.{table_in}
use Rattle.ic_any_collection.specs.Entries.{is_linked, kind_of}
use Rattle.ic_any_collection.specs.AnyCollection.{kind_in, cursor_in, members_in, Held}
use Rattle.ic_world.specs.declared.collection.Collection.{Collection}
use Rattle.ic_world.specs.declared.field.WorldField.{WorldField}
use Rattle.ic_world.specs.Family.{Family, Sequence, LinkField}
use Rattle.ic_world.specs.LinkedSets.{linked_in}

-- `table_of` is the table of a field of a world. `left_in` lists the marks `left_linked` of the fields. A field's mark says whether `fast_clear` may
-- have left members linked in the field
abbrev pub table_of : {M : Type 0} → WorldField M → Table Entry
table_of f = table_in f.links

abbrev pub left_in : {M : Type 0} → List (WorldField M) → List Bool
left_in fields = map (λ f. f.left_linked) fields

-- the table for a number that names no field: it covers no place
abbrev pub no_table : Table Entry
no_table = record { extent = record { places = 0; identity = [] }; entry = λ p. record { linked = false; word = 0; prev = None; parent = None; color = Red } }

-- the table of field f
abbrev pub table : List (Table Entry) → ℕ → Table Entry
table ts f = slice_index_or ts f no_table

abbrev pub field_in : Table Entry → LinkField
field_in t = record { kind = kind_of t; linked = linked_in t }

-- there is an object at the place with this index
abbrev pub HasObject : {V : Type 0} → Objects V → ℕ → Type 0
HasObject objects i = IsSome (map_of.get objects.values i)

module _ {V : Type 0} where
  -- the collection with number c, or none if there is no such collection
  abbrev pub at : List (Option (Collection V)) → ℕ → Option (Collection V)
  at cs c = slice_index_or cs c None

  -- the members of the collection k, found by a walk through the table of its field
  abbrev pub sequence : List (Table Entry) → Collection V → List Place
  sequence ts k = members_in (table ts k.field) k.members

  abbrev pub seen_as : Collection V → List Place → Sequence
  seen_as k s = record { field = k.field; kind = kind_in k.members; members = s; cursor = cursor_in k.members }

  abbrev pub represented_as : List (Table Entry) → Option (Collection V) → Option Sequence
  represented_as ts None = None
  represented_as ts (Some k) = Some (seen_as k (sequence ts k))

  -- THE FAMILY that the tables `ts` of the fields represent, with these objects and the collections `cs`
  abbrev pub family_of : {A : Type 0} → A → Objects V → List (Table Entry) → List (Option (Collection V)) → Family A V
  family_of adapter objects ts cs = record {
    adapter = adapter;
    objects = objects.values;
    fields = map field_in ts;
    collections = map (represented_as ts) cs;
  }

  -- A WORLD IS WHOLE: the places of objects are below 2 ^ 32 and below `room`, and each table covers the places below `room`. Only places of objects
  -- are linked, the table of each field represents the members of its collections, and collections of one field share no member
  pub record IsWhole (objects : Objects V) (room : ℕ) (ts : List (Table Entry)) (cs : List (Option (Collection V))) : Type 0 where
    pub in_bounds : (i : ℕ) → HasObject objects i → (i < room) × (i < 2 ^ 32)
    pub covered : (f : ℕ) → f < length ts → room ≤ (table ts f).extent.places
    pub placed : (f : ℕ) (q : Place) → is_linked ((table ts f).entry q) ≡ true → HasObject objects (index_of q)
    pub in_field : (c : ℕ) (k : Collection V) → at cs c ≡ Some k → k.field < length ts
    pub held : (c : ℕ) (k : Collection V) → at cs c ≡ Some k → Held (table ts k.field) k.members
    pub apart : (c d : ℕ) (k l : Collection V) → c ≢ d → at cs c ≡ Some k → at cs d ≡ Some l → k.field ≡ l.field → IsDisjoint (sequence ts k) (sequence ts l)
