-- RUNS OF WORKERS, and what the program prints about them.
use Rattle.std.specs.Prelude.{◌⊎◌, ℕ, List, Option}
use Rattle.std.specs.Io.KnownBytes.{Appends, Keeps}
use Rattle.ic_unsafe_ref.specs.declared.place.Place.{Place}
use Rattle.ic_workers.specs.Claimed.{ClaimedAsOneList}
use Rattle.ic_workers.specs.SharedOut.{SharedOut}
use Rattle.ic_program.specs.declared.workers.Workers.{Workers}
use Rattle.ic_program.specs.Printed.{workers_text}
use Rattle.ic_program.specs.Played.{CutTo}

-- THE PLACES WERE SHARED OUT among the workers. Their claims are one list of steps, and the lines with the result were appended to the output, as far
-- as its bytes are known
pub record HaveShared (asked : Workers) (output now : Option (List ℕ)) : Type 0 where
  pub lists : List (List Place)
  pub shared : SharedOut asked.workers asked.places lists
  pub one_list : ClaimedAsOneList asked.workers asked.places lists
  pub lines : Appends output now (workers_text asked.places lists)

-- HOWEVER THE PROGRAM ENDS, it has written nothing, or a beginning of the lines with the result
abbrev pub HaveSharedSoFar : Workers → Option (List ℕ) → Option (List ℕ) → Type 0
HaveSharedSoFar asked output now = Keeps output now ⊎ ((whole : Option (List ℕ)) × HaveShared asked output whole × CutTo whole now)
