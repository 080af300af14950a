-- A contract sees a table as its open connections, from the one that was touched last to the oldest, and a clock.
use Rattle.std.specs.Prelude.{◌≡◌, ℕ, ◌-◌, ◌<◌, ◌≤◌, Option, None, IsSome, List, [], ◌∷◌, ◌++◌, length, reverse}
use Rattle.std.specs.List.{AllByRecursion}
use Rattle.ic_keyed.specs.Keyed.{value_with, without, EndsWith, HaveOwnKeys}
use Rattle.connections.specs.declared.connection.Connection.{Connection}
use Rattle.connections.specs.declared.open_error.OpenError.{OpenError}
use Rattle.connections.specs.declared.open_error.OpenError.TheVariants.{AlreadyOpen, NoRoom}

pub record Table : Type 0 where
  pub live : List Connection
  pub clock : ℕ

-- `connection_with` is the open connection with the id, if there is one. `others_than` lists the connections that have other ids
abbrev pub connection_with : ℕ → List Connection → Option Connection
connection_with id live = value_with (λ (c : Connection). c.id) id live

abbrev pub others_than : ℕ → List Connection → List Connection
others_than id live = without (λ (c : Connection). c.id) id live

-- No connection was touched after the time `time`. Each connection was touched at the same time as the one before it in the list, or earlier
abbrev pub IsAged : ℕ → List Connection → Type 0
IsAged time [] = Unit {0}
IsAged time (c ∷ live) = (c.seen ≤ time) × IsAged c.seen live

-- in each table no id occurs twice, and the connections are in the order of the times when they were touched, the latest first
pub record IsSound (table : Table) : Type 0 where
  pub own : HaveOwnKeys (λ (c : Connection). c.id) table.live
  pub aged : IsAged table.clock table.live

-- `seen_now` is a connection with the id that is touched at the clock's time. `with_live` is the table with other connections and the same clock
abbrev pub seen_now : ℕ → Table → Connection
seen_now id table = record { id = id; seen = table.clock }

abbrev pub with_live : Table → List Connection → Table
with_live table live = record { live = live; clock = table.clock }

-- why a connection is not opened: `AlreadyOpen` means that a connection has the id, and `NoRoom` that none has it but there is no room
abbrev pub IsRefused : OpenError → ℕ → List Connection → Type 0
IsRefused AlreadyOpen id live = IsSome (connection_with id live)
IsRefused NoRoom id live = connection_with id live ≡ None

-- the `count` oldest connections are closed and appended to the caller's list, which was `had` and is now `has`. The connection that was idle for longest
-- is appended first. The other connections keep their order
pub record Expires (count : ℕ) (had has : List Connection) (old new : Table) : Type 0 where
  pub gone : List Connection
  pub many : length gone ≡ count
  pub out : has ≡ had ++ gone
  pub were : old ≡ with_live new (new.live ++ reverse gone)

-- `IsActive`: the connection has been idle for at most `limit` at the time `clock`. `IsIdle`: it has been idle for longer than `limit`
abbrev pub IsActive : ℕ → ℕ → Connection → Type 0
IsActive limit clock c = clock - c.seen ≤ limit

abbrev pub IsIdle : ℕ → ℕ → Connection → Type 0
IsIdle limit clock c = limit < clock - c.seen

-- the oldest connection of the table has been idle for longer than `limit`
abbrev pub EndsIdle : ℕ → Table → Type 0
EndsIdle limit table = (oldest : Connection) × EndsWith oldest table.live × IsIdle limit table.clock oldest

-- some number of the oldest connections are closed, and each of them was idle for longer than `limit`
pub record ExpiresIdle (limit : ℕ) (had has : List Connection) (old new : Table) : Type 0 where
  pub count : ℕ
  pub expires : Expires count had has old new
  pub idle : AllByRecursion (IsIdle limit old.clock) expires.gone
