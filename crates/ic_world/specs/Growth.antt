-- How the tables of a world grow: they cover more places, and their entries stay.
use Rattle.std.specs.Prelude.{◌≡◌, ℕ, ◌<◌, ◌≤◌, List, length}
use Rattle.ic_link_ops.specs.Prelude.{Place, Table}
use Rattle.ic_any_collection.specs.declared.entry.Entry.{Entry}
use Rattle.ic_world.specs.Tables.{table}

-- each table of `ts` covers at least `room` places
abbrev pub Cover : ℕ → List (Table Entry) → Type 0
Cover room ts = (f : ℕ) → f < length ts → room ≤ (table ts f).extent.places

-- the table t grows to the table u: u has the kind of t, covers at least the places that t covers, and has the same entries
pub record GrowsTo (t u : Table Entry) : Type 0 where
  pub longer : t.extent.places ≤ u.extent.places
  pub identity : u.extent.identity ≡ t.extent.identity
  pub entries : (q : Place) → u.entry q ≡ t.entry q

-- there are as many tables as before, and each has grown: its kind and entries are as before, and it covers at least the places that it covered
pub record Grown (old new : List (Table Entry)) : Type 0 where
  pub count : length new ≡ length old
  pub each : (f : ℕ) → GrowsTo (table old f) (table new f)

-- the tables have grown, and `room'` is at least `room`. If each old table covers at least `room` places, each new table covers at least `room'`
-- places
pub record Grows (room : ℕ) (old : List (Table Entry)) (room' : ℕ) (new : List (Table Entry)) : Type 0 where
  pub grown : Grown old new
  pub more : room ≤ room'
  pub covered : Cover room old → Cover room' new
