-- The rule that the table of words keeps.
use Rattle.std.specs.Prelude.{◌≡◌, ◌+◌, ◌<◌, length}
use Rattle.atomic_table.specs.Table.{State, Me}
use Rattle.ic_lock_free_stack.specs.declared.held.Size.{Size}
use Rattle.ic_lock_free_stack.specs.declared.held.HeldAccounts.{HeldAccounts}
use Rattle.ic_lock_free_stack.specs.Held.{accounts_in}
use Rattle.ic_lock_free_stack.specs.OneHistory.{IsOneHistory}

-- `size` says how many words there are, and how many accounts all seats have together. There are fewer than 65,536 holders, so that a `u64` can count their
-- pushes and calls that take all members. The accounts have one history
pub record Rule (size : Size) (s : State (Unit {0}) HeldAccounts) : Type 0 where
  pub words : length s.words ≡ size.places + size.stacks
  pub holders : length (accounts_in s.views) ≡ size.holders
  pub few : size.holders < 65536
  pub one : IsOneHistory size s.words (accounts_in s.views)

-- what a seat knows: its accounts. The seat has no slots
abbrev pub Mine : Type 0
Mine = Me (Unit {0}) HeldAccounts
