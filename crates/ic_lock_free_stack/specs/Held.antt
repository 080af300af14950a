-- The accounts of seats. An account says what one holder has done and knows. A thread makes steps on the words by a seat, and each seat has the accounts of
-- some holders.
use Rattle.std.specs.Prelude.{ℕ, List, [], ◌∷◌, take, drop, ◌++◌, flat_map, map}
use Rattle.std.specs.List.{range_with_len}
use Rattle.ic_lock_free_stack.specs.declared.step.Step.{Step}
use Rattle.ic_lock_free_stack.specs.declared.step.Entry.{Entry}
use Rattle.ic_lock_free_stack.specs.declared.held.Size.{Size}
use Rattle.ic_lock_free_stack.specs.declared.held.Known.{Known}
use Rattle.ic_lock_free_stack.specs.declared.held.Account.{Account}
use Rattle.ic_lock_free_stack.specs.declared.held.HeldAccounts.{HeldAccounts}

-- the given accounts, as those of one seat, for stacks of the size `size`
abbrev pub hand : Size → List Account → HeldAccounts
hand size accounts = record { size = size; accounts = accounts }

-- the accounts of all seats, in one list
abbrev pub accounts_in : List HeldAccounts → List Account
accounts_in holders = flat_map (λ (v : HeldAccounts). v.accounts) holders

-- the account of the holder with the name h before its first step. The account notes that the stack 0 is empty
abbrev pub fresh : ℕ → Account
fresh h = record { name = h; steps = []; seen = []; known = []; stack = 0; saw = 1; looked = 0 }

-- the account a with one more step e at its end. `seen` is the history up to this step, and `ks` are the words that are known then
abbrev pub made : Account → Step → List Entry → List Known → Account
made a e seen ks = record { name = a.name; steps = a.steps ++ e ∷ []; seen = seen; known = ks; stack = a.stack; saw = a.saw; looked = a.looked }

-- The account a after its holder has read the head n of the stack k. `ks` are the known words, and c counts all pushes and calls that take all members until
-- then
abbrev pub noted : Account → List Known → ℕ → ℕ → ℕ → Account
noted a ks k n c = record { name = a.name; steps = a.steps; seen = a.seen; known = ks; stack = k; saw = n; looked = c }

-- the account a after its holder has seen the history `seen`
abbrev pub sees : List Entry → Account → Account
sees seen a = record { name = a.name; steps = a.steps; seen = seen; known = a.known; stack = a.stack; saw = a.saw; looked = a.looked }

-- the accounts of a seat without the first one
abbrev pub without_first : HeldAccounts → HeldAccounts
without_first v = hand v.size (drop 1 v.accounts)

-- the first account of a seat, without the others
abbrev pub only_first : HeldAccounts → HeldAccounts
only_first v = hand v.size (take 1 v.accounts)

-- the accounts of the seat v, followed by the accounts of the seat w
abbrev pub both_hands : HeldAccounts → HeldAccounts → HeldAccounts
both_hands v w = hand v.size (v.accounts ++ w.accounts)

-- what a seat has after it has given all its accounts away: no accounts
abbrev pub nothing_left : HeldAccounts
nothing_left = hand record { places = 0; stacks = 0; holders = 0 } []

-- at first one seat has the accounts of all holders, and no holder has made a step
abbrev pub all_fresh : Size → HeldAccounts
all_fresh size = hand size (map fresh (range_with_len 0 size.holders))
