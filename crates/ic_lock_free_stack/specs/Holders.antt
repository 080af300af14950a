-- What contracts say about stacks, their holders, and chains of places.
use Rattle.std.specs.Prelude.{◌≡◌, ℕ, ◌+◌, ◌<◌, ◌≤◌, Bool, true, false, List, [], ◌∷◌, ◌++◌, length, slice_index_or, zero, suc, None, Some, ◌-◌, Option}
use mathlib.Core.Option.{some}
use lib.ListN.{get_elem?}
use Rattle.atomic_table.specs.declared.shared.Seat.{Seat}
use Rattle.ic_unsafe_ref.specs.declared.place.Place.{Place}
use Rattle.ic_unsafe_ref.specs.Places.{index_of, place_at}
use Rattle.ic_lock_free_stack.specs.Ends.{first, last}
use Rattle.ic_lock_free_stack.specs.declared.step.Step.{Step}
use Rattle.ic_lock_free_stack.specs.declared.step.Entry.{Entry}
use Rattle.ic_lock_free_stack.specs.declared.held.Known.{Known}
use Rattle.ic_lock_free_stack.specs.declared.held.Account.{Account}
use Rattle.ic_lock_free_stack.specs.declared.held.HeldAccounts.{HeldAccounts}
use Rattle.ic_lock_free_stack.specs.declared.stacks.Stacks.{Stacks}
use Rattle.ic_lock_free_stack.specs.declared.stacks.Holder.{Holder}
use Rattle.ic_lock_free_stack.specs.declared.stacks.Chain.{Chain}
use Rattle.ic_lock_free_stack.specs.Moments.{is_in, IsOnce}
use Rattle.ic_lock_free_stack.specs.Records.{holds, on_head, pushes_and_takes}
use Rattle.ic_lock_free_stack.specs.Words.{link_to, known_of}
use Rattle.ic_lock_free_stack.specs.Held.{hand, fresh}
use Rattle.ic_lock_free_stack.specs.OneHistory.{GoesOn, LooksOn, Party, party_of_account, IsHistory}

-- how many places and how many stacks there are
abbrev pub places_of : {A : Type 0} → Stacks A → ℕ
places_of stacks = stacks.places

abbrev pub stacks_of : {A : Type 0} → Stacks A → ℕ
stacks_of stacks = stacks.stacks

-- how many holders were made with the stacks. There is exactly one record for each of these holders
abbrev pub holders_of : {A : Type 0} → Stacks A → ℕ
holders_of stacks = stacks.table.shared.key.holders

-- the seat belongs to the table of these stacks
abbrev pub IsSeatOf : {A : Type 0} → Stacks A → Seat (Unit {0}) HeldAccounts → Type 0
IsSeatOf stacks seat = seat.table_id ≡ stacks.table.shared.table_id

-- the given accounts, as those of one seat, for the size of the stacks
abbrev pub hand_with : {A : Type 0} → Stacks A → List Account → HeldAccounts
hand_with stacks accounts = hand stacks.table.shared.key accounts

-- the account of a holder, which is the first account of its seat
abbrev pub account_of : Holder → Account
account_of holder = slice_index_or holder.seat.me.0.accounts 0 (fresh 0)

-- the holder's name, and its steps so far, in their order
abbrev pub name_of : Holder → ℕ
name_of holder = (account_of holder).name

abbrev pub record_of : Holder → List Step
record_of holder = (account_of holder).steps

-- the history that the holder has seen
abbrev pub seen_of : Holder → List Entry
seen_of holder = (account_of holder).seen

-- how many pushes, and calls that take all members, the holder has made. A holder makes at most `most_steps` of these calls
abbrev pub spent_by : Holder → ℕ
spent_by holder = pushes_and_takes (record_of holder)

-- the holder has made no step, and has seen no step of any holder
abbrev pub IsNew : Holder → Type 0
IsNew holder = (record_of holder ≡ []) × (seen_of holder ≡ [])

-- A CALL MADE ONE STEP: the holder's record gains the step e at its end, and the holder has seen the history up to this step
pub record Steps (old new : Holder) (e : Step) : Type 0 where
  pub name : name_of new ≡ name_of old
  pub gained : record_of new ≡ record_of old ++ e ∷ []
  pub goes : GoesOn (name_of old) (seen_of old) e (seen_of new)
  pub spends : spent_by new ≡ spent_by old + on_head e

-- A CALL MADE NO STEP: the holder's record is as before, and the holder has seen no more of the history than before
pub record Stays (old new : Holder) : Type 0 where
  pub name : name_of new ≡ name_of old
  pub record_is : record_of new ≡ record_of old
  pub seen : seen_of new ≡ seen_of old

-- A CALL READ A HEAD: the call made no step, and the holder has seen the history up to the moment at which the call read the head
pub record Looks (old new : Holder) : Type 0 where
  pub name : name_of new ≡ name_of old
  pub record_is : record_of new ≡ record_of old
  pub goes : LooksOn (name_of old) (seen_of old) (seen_of new)

-- the holder was made with these stacks, and its seat has only the holder's own account
pub record IsOf {A : Type 0} (stacks : Stacks A) (holder : Holder) : Type 0 where
  pub table : IsSeatOf stacks holder.seat
  pub hand : holder.seat.me.0 ≡ hand_with stacks (account_of holder ∷ [])

-- the known word of each place of the list except the last names the next place
abbrev pub AreKnownBut : List Known → List Place → Type 0
AreKnownBut ks [] = Unit {0}
AreKnownBut ks (p ∷ []) = Unit {0}
AreKnownBut ks (p ∷ q ∷ s) = (known_of ks p ≡ link_to (Some q)) × AreKnownBut ks (q ∷ s)

-- the known word of each place of the list names the next place, and the known word of the last names none
abbrev pub AreKnown : List Known → List Place → Type 0
AreKnown ks [] = Unit {0}
AreKnown ks (p ∷ s) = (known_of ks p ≡ link_to (first s)) × AreKnown ks s

-- A HOLDER HAS A CHAIN: the places of the chain are s in this order, each once, and the holder holds them. The word of each place names the next place
pub record HasChain {A : Type 0} (stacks : Stacks A) (holder : Holder) (chain : Chain) (s : List Place) : Type 0 where
  pub starts : chain.first ≡ first s
  pub once : IsOnce s
  pub linked : AreKnown (account_of holder).known s
  pub known : length s ≤ length (account_of holder).known
  pub inside : (p : Place) → is_in p s ≡ true → index_of p < places_of stacks
  pub held : (p : Place) → is_in p s ≡ true → holds p (record_of holder) ≡ true

-- The list s begins with `front`, ends with `back`, and has each of its places once. The holder holds these places, and the word of each except the last names
-- the next place
pub record IsReady {A : Type 0} (stacks : Stacks A) (holder : Holder) (front back : Place) (s : List Place) : Type 0 where
  pub starts : first s ≡ Some front
  pub ends : last s ≡ Some back
  pub once : IsOnce s
  pub linked : AreKnownBut (account_of holder).known s
  pub inside : (p : Place) → is_in p s ≡ true → index_of p < places_of stacks
  pub held : (p : Place) → is_in p s ≡ true → holds p (record_of holder) ≡ true

-- the first place of a chain
abbrev pub first_of : Chain → Option Place
first_of chain = chain.first

-- the chain has no places
abbrev pub IsNoChain : Chain → Type 0
IsNoChain chain = chain.first ≡ None

-- how many places a chain has from the given place on, but at most n. A loop over a chain ends because each turn makes this count smaller
abbrev pub left_from : ℕ → List Known → Option Place → ℕ
left_from zero ks o = 0
left_from (suc n) ks None = 0
left_from (suc n) ks (Some p) = suc (left_from n ks (place_at (known_of ks p - 1)))

unfoldable pub left_of : Holder → Chain → ℕ
left_of holder chain = left_from (length (account_of holder).known) (account_of holder).known chain.first

-- a chain of the holder `old` is also a chain of the holder `new`, with the same places, if `edited` is false for each of these places
abbrev pub KeepsChains : {A : Type 0} → Stacks A → Holder → Holder → (Place → Bool) → Type 0
KeepsChains stacks old new edited = (chain : Chain) (s : List Place) → HasChain stacks old chain s
    → ((p : Place) → is_in p s ≡ true → edited p ≡ false) → HasChain stacks new chain s

-- the name and the record of a holder
abbrev pub party_of : Holder → Party
party_of holder = party_of_account (account_of holder)

-- THE RECORDS OF SOME HOLDERS ARE IN ONE HISTORY: at one moment, these records and the records of all other holders of the stacks are one history
pub record AreOneHistory {A : Type 0} (stacks : Stacks A) (order : List Entry) (parties : List Party) : Type 0 where
  pub others : List Party
  pub all : length parties + length others ≡ holders_of stacks
  pub one : IsHistory order (parties ++ others)

-- no place is held by two holders with these records
abbrev pub NoneTwice : List Party → Type 0
NoneTwice parties = (i j : ℕ) (x y : Party) (p : Place) → get_elem? parties i ≡ some x → get_elem? parties j ≡ some y
    → holds p x.steps ≡ true → holds p y.steps ≡ true → i ≡ j
