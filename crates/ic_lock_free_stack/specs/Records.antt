-- Records of holders, and which places a holder holds according to its record.
use Rattle.std.specs.Prelude.{◌≡◌, ◌≢◌, ℕ, ◌+◌, Bool, true, false, if◌then◌else◌, List, [], ◌∷◌}
use Rattle.ic_unsafe_ref.specs.declared.place.Place.{Place}
use Rattle.ic_lock_free_stack.specs.declared.step.Step.{Step}
use Rattle.ic_lock_free_stack.specs.declared.step.Step.TheVariants.{Claim, Release, Push, TakeAll}
use Rattle.ic_lock_free_stack.specs.Moments.{moves, is_in}

-- whether a step moves places to its holder
abbrev pub brings : Step → Bool
brings (Claim q got) = true
brings (Release q) = false
brings (Push k s) = false
brings (TakeAll k s) = true

-- whether a holder holds p after the steps of a list. `held` says whether it held p before
abbrev pub held_from : Place → Bool → List Step → Bool
held_from p held [] = held
held_from p held (e ∷ es) = held_from p (if moves p e then brings e else held) es

-- whether a holder with this record holds p
abbrev pub holds : Place → List Step → Bool
holds p es = held_from p false es

-- 1 for a step on a head, which is a push or a call that takes all members, and 0 for any other step
abbrev pub on_head : Step → ℕ
on_head (Claim q got) = 0
on_head (Release q) = 0
on_head (Push k s) = 1
on_head (TakeAll k s) = 1

-- the number of steps on heads in a record
abbrev pub pushes_and_takes : List Step → ℕ
pushes_and_takes [] = 0
pushes_and_takes (e ∷ es) = on_head e + pushes_and_takes es

-- the greatest number of steps on heads that one holder makes
abbrev pub most_steps : ℕ
most_steps = 281474976710656

-- the holder did not hold p with the record `old`, and holds p with the record `new`. Whether it holds another place is the same with both records
pub record HoldsAlso (old new : List Step) (p : Place) : Type 0 where
  pub was : holds p old ≡ false
  pub is : holds p new ≡ true
  pub others : (q : Place) → q ≢ p → holds q new ≡ holds q old

-- the holder held p with the record `old`, and does not hold p with the record `new`. Whether it holds another place is the same with both records
pub record GivesUp (old new : List Step) (p : Place) : Type 0 where
  pub was : holds p old ≡ true
  pub is : holds p new ≡ false
  pub others : (q : Place) → q ≢ p → holds q new ≡ holds q old

-- the holder held all places of s with the record `old`, and holds none of them with the record `new`. Whether it holds another place is the same with both
-- records
pub record GivesUpAll (old new : List Step) (s : List Place) : Type 0 where
  pub was : (p : Place) → is_in p s ≡ true → holds p old ≡ true
  pub is : (p : Place) → is_in p s ≡ true → holds p new ≡ false
  pub others : (p : Place) → is_in p s ≡ false → holds p new ≡ holds p old

-- the holder held no place of s with the record `old`, and holds all of them with the record `new`. Whether it holds another place is the same with both
-- records
pub record HoldsAll (old new : List Step) (s : List Place) : Type 0 where
  pub was : (p : Place) → is_in p s ≡ true → holds p old ≡ false
  pub is : (p : Place) → is_in p s ≡ true → holds p new ≡ true
  pub others : (p : Place) → is_in p s ≡ false → holds p new ≡ holds p old

-- the holder holds the same places with the record `new` as with the record `old`
abbrev pub HoldsTheSame : List Step → List Step → Type 0
HoldsTheSame old new = (q : Place) → holds q new ≡ holds q old
