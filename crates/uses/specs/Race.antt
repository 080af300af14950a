-- Conditions that must hold before a thread claims a place, and facts that hold afterwards.
use Rattle.std.specs.Prelude.{◌≡◌, ◌<◌, Bool, if◌then◌else◌, [], ◌∷◌, ◌++◌}
use Rattle.ic_link_ops.specs.Prelude.{Place, index_of}
use Rattle.ic_atomic.specs.declared.step.Step.TheVariants.{Claim}
use Rattle.ic_atomic.specs.declared.claims.Claims.{Claims}
use Rattle.ic_atomic.specs.declared.claims.Holder.{Holder}
use Rattle.ic_atomic.specs.Prelude.{event, places_of, record_of, IsOf}

-- the place is one of the places of `claims`, and the holder was made with `claims`
pub record CanClaim {A : Type 0} (claims : Claims A) (place : Place) (holder : Holder) : Type 0 where
  pub inside : index_of place < places_of claims
  pub made : IsOf claims holder

-- a claim of the place with the result `answer` was added to the end of the holder's record
pub record HasClaimed {A : Type 0} (claims : Claims A) (place : Place) (old new : Holder) (answer : Bool) : Type 0 where
  pub made : IsOf claims new
  pub step : record_of new ≡ record_of old ++ event (Claim place) (if answer then 0 else 1) ∷ []
