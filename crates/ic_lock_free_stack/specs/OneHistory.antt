-- The one history: the records of all holders are one list of steps.
use Rattle.std.specs.Prelude.{◌≡◌, ◌≢◌, ℕ, ◌+◌, ◌<◌, ◌≤◌, ◌==◌, true, List, [], ◌∷◌, ◌++◌, map, All, Contains, sum_by}
use Rattle.std.specs.List.{IsDistinct}
use Rattle.ic_unsafe_ref.specs.declared.place.Place.{Place}
use Rattle.ic_unsafe_ref.specs.Places.{index_of}
use Rattle.ic_lock_free_stack.specs.declared.step.Step.{Step}
use Rattle.ic_lock_free_stack.specs.declared.step.Entry.{Entry}
use Rattle.ic_lock_free_stack.specs.declared.held.Size.{Size}
use Rattle.ic_lock_free_stack.specs.declared.held.Account.{Account}
use Rattle.ic_lock_free_stack.specs.Moments.{Moment, entry, at_first, is_with, is_stacked, is_in, IsLegal, moment_after, steps_of, IsOnce}
use Rattle.ic_lock_free_stack.specs.Records.{holds, on_head, pushes_and_takes, most_steps}
use Rattle.ic_lock_free_stack.specs.Words.{word_at, head_at, known_of, Spells}

-- a moment is sound if the members of each stack are exactly the places that are in this stack, and no place is in a stack twice
pub record IsSound (m : Moment) : Type 0 where
  pub members : (p : Place) (k : ℕ) → is_in p (m.stack k) ≡ is_stacked k (m.place p)
  pub once : (k : ℕ) → IsOnce (m.stack k)

-- how many steps on heads, which are pushes and calls that take all members, the list has
abbrev pub heads_in : List Entry → ℕ
heads_in [] = 0
heads_in (x ∷ xs) = on_head x.step + heads_in xs

-- the history `order` begins with the history `seen`
pub record IsSeen (seen order : List Entry) : Type 0 where
  pub rest : List Entry
  pub is : order ≡ seen ++ rest

-- A HISTORY CONTINUES WITH A STEP OF A HOLDER: `new` is the history `old` that the holder had seen, then steps of others, and then the holder's own step e
pub record GoesOn (name : ℕ) (old : List Entry) (e : Step) (new : List Entry) : Type 0 where
  pub between : List Entry
  pub is : new ≡ (old ++ between) ++ entry name e ∷ []
  pub others : steps_of name between ≡ []
  pub legal : IsLegal at_first new

-- A HISTORY CONTINUES WITHOUT A HOLDER: `new` is the history `old` that the holder had seen, followed by steps of other holders alone
pub record LooksOn (name : ℕ) (old new : List Entry) : Type 0 where
  pub between : List Entry
  pub is : new ≡ old ++ between
  pub others : steps_of name between ≡ []
  pub legal : IsLegal at_first new

-- AN ACCOUNT IS RIGHT: the account a agrees with the history `order`, the moment m at its end, and the words
pub record IsKept (size : Size) (words : List ℕ) (order : List Entry) (m : Moment) (a : Account) : Type 0 where
  -- The holder's steps in the history are its record.
  pub own : steps_of a.name order ≡ a.steps
  -- The holder has seen all of its own steps, and the history begins with the part that the holder has seen.
  pub own_seen : steps_of a.name a.seen ≡ a.steps
  pub begun : IsSeen a.seen order
  -- The holder holds exactly the places that are with it at this moment.
  pub held : (p : Place) → is_with a.name (m.place p) ≡ holds p a.steps
  -- If the holder knows the word of a place, the holder holds the place, and the place has the known word.
  pub known : (p : Place) → known_of a.known p ≢ 0 → (index_of p < size.places) × (holds p a.steps ≡ true) × (word_at words p ≡ known_of a.known p)
  -- The holder has made at most `most_steps` steps on heads.
  pub few : pushes_and_takes a.steps ≤ most_steps
  -- If no step on a head has been made since the holder saw a head, this head is still as the holder saw it.
  pub earlier : a.looked ≤ heads_in order
  pub seen : a.looked ≡ heads_in order → head_at size words a.stack ≡ a.saw

-- THE RULE OF STACKS: between any two steps there is one list of all steps, with which the words and the accounts agree
pub record IsOneHistory (size : Size) (words : List ℕ) (accounts : List Account) : Type 0 where
  pub order : List Entry
  -- Each step of the list is possible at the moment at which it is made.
  pub legal : IsLegal at_first order
  pub now : Moment
  pub now_is : moment_after at_first order ≡ now
  pub sound : IsSound now
  -- The words are those of the moment at the end of the list.
  pub spells : Spells size words now
  -- Each account agrees with the list and the words.
  pub kept : (i : ℕ) (a : Account) → lib.ListN.get_elem? accounts i ≡ mathlib.Core.Option.some a → IsKept size words order now a
  -- No two accounts have the same name, and each step of the list belongs to one of the accounts.
  pub named : IsDistinct ◌==◌ (map (λ (a : Account). a.name) accounts)
  pub by : All (λ (x : Entry). Contains (map (λ (a : Account). a.name) accounts) x.holder) order
  pub counted : sum_by (λ (a : Account). pushes_and_takes a.steps) accounts ≡ heads_in order

-- a party is the name of a holder with the steps that the holder has made
pub record Party : Type 0 where
  pub name : ℕ
  pub steps : List Step

abbrev pub party_of_account : Account → Party
party_of_account a = record { name = a.name; steps = a.steps }

-- THE ONE HISTORY OF ALL HOLDERS at one moment: `order` is the list of all steps of the holders whose names and records are `parties`
pub record IsHistory (order : List Entry) (parties : List Party) : Type 0 where
  -- Each step of the history is possible at the moment at which it is made.
  pub legal : IsLegal at_first order
  -- Each holder's steps in the history are its record, and the history has no other steps.
  pub own : All (λ (x : Party). steps_of x.name order ≡ x.steps) parties
  pub by : All (λ (x : Entry). Contains (map (λ (y : Party). y.name) parties) x.holder) order
  pub named : IsDistinct ◌==◌ (map (λ (x : Party). x.name) parties)
  -- At the end of the history each holder holds the places that are with it. The members of each stack are the places that are in the stack, each once.
  pub held : All (λ (x : Party). (p : Place) → is_with x.name ((moment_after at_first order).place p) ≡ holds p x.steps) parties
  pub sound : IsSound (moment_after at_first order)
