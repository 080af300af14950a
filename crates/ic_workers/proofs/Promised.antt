-- Lemmas on what the threads of workers guarantee. The guarantee of a thread depends on the position of the thread in the list of threads.
use Rattle.std.proofs.Common.{◌≡◌, ◌<◌, ◌+◌, ℕ, zero, suc, List, [], ◌∷◌, ◌++◌, length, arith, slice_index_or}
use Rattle.ic_atomic.specs.declared.claims.Claims.{Claims}
use Rattle.ic_workers.specs.declared.party.ClaimedAll.{ClaimedAll}

-- the guarantee `promise` is about `claims`, `gate`, and the worker whose number is `place` + 1, where `place` is the position of its thread
pub record IsPromised {A G : Type 0} (claims : Claims A) (gate : G) (place : ℕ) (promise : ClaimedAll A G) : Type 0 where
  pub claims_are : promise.claims.value ≡ claims
  pub gate_is : promise.gate.value ≡ gate
  pub number_is : promise.number ≡ place + 1

module _ {X : Type 0} where
  -- each element of the list satisfies P with its position, counted from 0
  abbrev pub EachAt : (ℕ → X → Type 0) → List X → Type 0
  EachAt P xs = (k : ℕ) (d : X) → k < length xs → P k (slice_index_or xs k d)

  -- if each element of xs satisfies P with its position, and x satisfies P with the next position, each element of xs ++ x ∷ [] satisfies P with its position
  pub each_more : (P : ℕ → X → Type 0) (xs : List X) (x : X) → EachAt P xs → P (length xs) x → EachAt P (xs ++ x ∷ [])
  each_more P [] x each one zero d low = one
  each_more P [] x each one (suc k) d low = absurd (omega (arith, low))
  each_more P (y ∷ xs) x each one zero d low = each 0 y (omega arith)
  each_more P (y ∷ xs) x each one (suc k) d low = each_more (λ n. P (suc n)) xs x (λ j e l. each (suc j) e (omega (arith, l))) one k d (omega (arith, low))

  -- an element of a list that is not empty
  pub one_of : (xs : List X) → 0 < length xs → X
  one_of [] some = absurd (omega (arith, some))
  one_of (x ∷ xs) some = x
