-- If there is no room for a timer, the failed call gives this timer back.
use Rattle.std.proofs.Common.{◌≡◌, ◌∙◌, ap, Result, Ok, Err, [], ◌∷◌}
use Rattle.std.specs.Result.{IsErrAnd}
use Rattle.std.specs.declared.alloc.AllocFailed.{AllocFailed}
use Rattle.scheduler.specs.Timers.{handed_back}

-- if the call fails with the error `x`, then the timer that it gives back is the one in `x`
pub room_refused : {T : Type 0} (r : Result Unit (AllocFailed T)) {x : AllocFailed T} {y : T} → IsErrAnd r (λ e. e ≡ x) → x.value ≡ y → handed_back r ≡ y ∷ []
room_refused (Ok u) is same = absurd (is)
room_refused {T} (Err e) is same = ap (λ (v : T). v ∷ []) (ap (λ (z : AllocFailed T). z.value) is ∙ same)
