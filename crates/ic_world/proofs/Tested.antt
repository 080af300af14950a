-- How the refusal of a call follows from its tests, one test after the other.
use Rattle.std.proofs.Common.{◌≡◌, Bool, true, false, Option, Some, refl}
use Rattle.ic_world.specs.declared.call.Refusal.{Refusal}
use Rattle.ic_world.specs.Calls.{asks}

-- if the test b passes, the remaining tests decide (`goes_on`). If b fails, the refusal of this test is the result (`stops`)
pub goes_on : {o : Option Refusal} (b : Bool) (r : Refusal) (rest : Option Refusal) → b ≡ true → o ≡ rest → o ≡ asks b r rest
goes_on true r rest e h = h
goes_on false r rest e h = cc

pub stops : (b : Bool) (r : Refusal) (rest : Option Refusal) → b ≡ false → Some r ≡ asks b r rest
stops true r rest e = cc
stops false r rest e = refl
