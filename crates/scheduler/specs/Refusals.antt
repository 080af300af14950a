-- Refusals of a new task: each has a number, and gives the value back to the caller.
use Rattle.std.specs.Prelude.{ℕ, Bool, true, false}
use Rattle.scheduler.specs.declared.add_error.AddError.{AddError}
use Rattle.scheduler.specs.declared.add_error.AddError.TheVariants.{TooManyTasks, OutOfMemory}

-- the number of a refusal: 21 if all places are in use, and 22 if there was not enough memory
abbrev pub refusal_number : Bool → ℕ
refusal_number true = 21
refusal_number false = 22

-- the number of the refusal that a failed `add` returns
abbrev pub number_of : {V : Type 0} → AddError V → ℕ
number_of (TooManyTasks value) = refusal_number true
number_of (OutOfMemory value) = refusal_number false

-- the value that the caller gets back from a refusal
abbrev pub value_of : {V : Type 0} → AddError V → V
value_of (TooManyTasks value) = value
value_of (OutOfMemory value) = value
