-- This file explains the statuses that calls return.
use Rattle.std.specs.Prelude.{◌≡◌, ◌≤◌, ℕ, zero, suc, List, [], ◌∷◌, Option, Some, None}
use Rattle.ic_unsafe_ref.specs.declared.place.Place.{Place}
use Rattle.ic_raw.specs.declared.status.TheConstants.{OK, NULL, BROKEN}
use Rattle.ic_raw.specs.Words.{HasNumber}

-- the number `status` is one of the six statuses that a call can return
abbrev pub IsStatus : ℕ → Type 0
IsStatus status = status ≤ BROKEN

-- WHY A CALL IS REFUSED: the status of a refused call is the first number in `faults` that is not `OK`. If all of them are `OK`, the status is
-- `BROKEN`, because the words do not fit together
abbrev pub refusal : (faults : List ℕ) → ℕ
refusal [] = BROKEN
refusal (zero ∷ faults) = refusal faults
refusal (suc fault ∷ faults) = suc fault

-- THE CALL IS ACCEPTED: its status is `OK`, and `Trace` says which edit it has made
pub record IsAccepted (status : ℕ) (Trace : Type 0) : Type 0 where
  pub accepted : status ≡ OK
  pub done : Trace

-- THE RESULT OF A SEARCH: if the search found a member, the call is accepted, and `number` is the number of this member. If the search found none,
-- the status is `NULL`
abbrev pub IsFound : Option Place → (status number : ℕ) → Type 0
IsFound None status number = status ≡ NULL
IsFound (Some p) status number = IsAccepted status (HasNumber p number)

-- a call finds a position for which `Is` holds. If the position is a member, the call is accepted, and `number` is the number of the member. If the
-- position is none, the status is `NULL`
abbrev pub HandsOut : (Option Place → Type 0) → (status number : ℕ) → Type 0
HandsOut Is status number = (position : Option Place) × Is position × IsFound position status number
