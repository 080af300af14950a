-- Definitions that say what each command does to the table, and what the command's outcome says.
use Rattle.std.specs.Prelude.{◌≡◌, ℕ, false, None, Some, is_some, IsSome, List, ◌∷◌, length, min, max}
use Rattle.std.specs.List.{AllByRecursion}
use Rattle.connections.specs.declared.connection.Connection.{Connection}
use Rattle.connections.specs.Table.{Table, IsActive, IsRefused, Expires, ExpiresIdle, connection_with, others_than, seen_now, with_live}
use Rattle.connection_desk.specs.declared.command.Command.{Command}
use Rattle.connection_desk.specs.declared.command.Command.TheVariants.{Open, Touch, Close, Show, Time, Expire, Idle}
use Rattle.connection_desk.specs.declared.apply.Outcome.{Outcome}
use Rattle.connection_desk.specs.declared.apply.Outcome.TheVariants.{Opened, Refused, Touched, Closed, Found, NotOpen, Now, Expired}

-- no connection of the table has the id
abbrev pub Lacks : ℕ → Table → Type 0
Lacks id table = is_some (connection_with id table.live) ≡ false

-- The connection with the id was opened, was touched, or was closed: `old` is the table before the command, and `new` is the table after it
abbrev pub Opens : ℕ → Table → Table → Type 0
Opens id old new = (connection_with id old.live ≡ None) × (new ≡ with_live old (seen_now id old ∷ old.live))

abbrev pub Touches : ℕ → Table → Table → Type 0
Touches id old new = IsSome (connection_with id old.live) × (new ≡ with_live old (seen_now id old ∷ others_than id old.live))

abbrev pub Closes : Connection → ℕ → Table → Table → Type 0
Closes c id old new = (connection_with id old.live ≡ Some c) × (new ≡ with_live old (others_than id old.live))

-- The command changes the table from `old` to `new` and ends with the outcome. `had` and `has` are the contents of the vector of closed connections
-- before and after the command
abbrev pub Does : Command → Outcome → List Connection → List Connection → Table → Table → Type 0
Does (Open id) Opened had has old new = Opens id old new
Does (Open id) (Refused error) had has old new = IsRefused error id old.live × (new ≡ old)
Does (Touch id) Touched had has old new = Touches id old new
Does (Touch id) NotOpen had has old new = Lacks id old × (new ≡ old)
Does (Close id) (Closed c) had has old new = Closes c id old new
Does (Close id) NotOpen had has old new = Lacks id old × (new ≡ with_live old (others_than id old.live))
Does (Show id) (Found c) had has old new = (connection_with id old.live ≡ Some c) × (new ≡ old)
Does (Show id) NotOpen had has old new = Lacks id old × (new ≡ old)
Does (Time time) (Now now) had has old new = (now ≡ max old.clock time) × (new ≡ record { live = old.live; clock = now })
Does (Expire count) Expired had has old new = Expires (min count (length old.live)) had has old new
Does (Idle limit) Expired had has old new = ExpiresIdle limit had has old new × AllByRecursion (IsActive limit new.clock) new.live
Does command outcome had has old new = ⊥
