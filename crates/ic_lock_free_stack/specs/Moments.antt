-- Where each place is and what each stack contains, and how a step changes both.
use Rattle.std.specs.Prelude.{◌≡◌, ℕ, ◌==◌, Bool, true, false, ◌&&◌, ◌||◌, if◌then◌else◌, List, [], ◌∷◌, ◌++◌}
use Rattle.ic_unsafe_ref.specs.declared.place.Place.{Place}
use Rattle.ic_unsafe_ref.specs.Places.{index_of}
use Rattle.ic_lock_free_stack.specs.declared.step.Step.{Step}
use Rattle.ic_lock_free_stack.specs.declared.step.Entry.{Entry}
use Rattle.ic_lock_free_stack.specs.declared.step.Step.TheVariants.{Claim, Release, Push, TakeAll}

-- where a place is: nowhere if it is free, with the holder that has the given name, or in the stack with the given number
pub data Location : Type 0 where
  nowhere : Location
  with_holder : ℕ → Location
  in_stack : ℕ → Location

abbrev pub is_nowhere : Location → Bool
is_nowhere nowhere = true
is_nowhere (with_holder a) = false
is_nowhere (in_stack k) = false

abbrev pub is_with : ℕ → Location → Bool
is_with h nowhere = false
is_with h (with_holder a) = a == h
is_with h (in_stack k) = false

abbrev pub is_stacked : ℕ → Location → Bool
is_stacked k nowhere = false
is_stacked k (with_holder a) = false
is_stacked k (in_stack j) = j == k

-- a moment says where each place is, and what members each stack has, the last pushed first
pub record Moment : Type 0 where
  pub place : Place → Location
  pub stack : ℕ → List Place

-- at first nobody holds a place, and each stack is empty
abbrev pub at_first : Moment
at_first = record { place = λ p. nowhere; stack = λ k. [] }

-- whether p and q are the same place
abbrev pub same : Place → Place → Bool
same p q = index_of p == index_of q

-- whether the place p is in the list
abbrev pub is_in : Place → List Place → Bool
is_in p [] = false
is_in p (q ∷ qs) = same p q || is_in p qs

-- no place is in the list twice
abbrev pub IsOnce : List Place → Type 0
IsOnce [] = Unit {0}
IsOnce (p ∷ s) = (is_in p s ≡ false) × IsOnce s

-- whether the step changes where the place p is
abbrev pub moves : Place → Step → Bool
moves p (Claim q got) = got && same p q
moves p (Release q) = same p q
moves p (Push k s) = is_in p s
moves p (TakeAll k s) = is_in p s

-- where a place is after a step of the holder a that moves the place
abbrev pub goes : ℕ → Step → Location
goes a (Claim q got) = with_holder a
goes a (Release q) = nowhere
goes a (Push k s) = in_stack k
goes a (TakeAll k s) = with_holder a

-- the members of the stack j after a step, if s are the members of this stack before the step
abbrev pub members_after : ℕ → List Place → Step → List Place
members_after j s (Claim q got) = s
members_after j s (Release q) = s
members_after j s (Push k t) = if k == j then t ++ s else s
members_after j s (TakeAll k t) = if k == j then [] else s

-- whether the step pushes to the stack j or takes all members of the stack j
abbrev pub is_on_stack : ℕ → Step → Bool
is_on_stack j (Claim q got) = false
is_on_stack j (Release q) = false
is_on_stack j (Push k s) = k == j
is_on_stack j (TakeAll k s) = k == j

-- the moment after a step of the holder a
abbrev pub after : Moment → ℕ → Step → Moment
after m a e = record {
  place = λ p. if moves p e then goes a e else m.place p;
  stack = λ k. members_after k (m.stack k) e;
}

-- WHICH STEPS ARE POSSIBLE at a moment: a claim returns true exactly if the place is free. A holder releases and pushes only places that it holds, and pushes
-- each of them once. A call that takes all members returns the members of the stack, the last pushed first
abbrev pub Fits : Moment → ℕ → Step → Type 0
Fits m a (Claim q got) = got ≡ is_nowhere (m.place q)
Fits m a (Release q) = m.place q ≡ with_holder a
Fits m a (Push k s) = IsOnce s × ((p : Place) → is_in p s ≡ true → m.place p ≡ with_holder a)
Fits m a (TakeAll k s) = s ≡ m.stack k

-- an entry of a list of steps: the name of a holder, and a step that this holder made
abbrev pub entry : ℕ → Step → Entry
entry h e = record { holder = h; step = e }

-- each step of the list is possible at the moment at which it is made, if the list begins at the moment m
abbrev pub IsLegal : Moment → List Entry → Type 0
IsLegal m [] = Unit {0}
IsLegal m (x ∷ xs) = Fits m x.holder x.step × IsLegal (after m x.holder x.step) xs

-- the moment at the end of a list of steps that begins at the moment m
abbrev pub moment_after : Moment → List Entry → Moment
moment_after m [] = m
moment_after m (x ∷ xs) = moment_after (after m x.holder x.step) xs

-- the members of a stack at the end of a history
abbrev pub stack_after : List Entry → ℕ → List Place
stack_after order k = (moment_after at_first order).stack k

-- where a place is at the end of a history
abbrev pub place_after : List Entry → Place → Location
place_after order p = (moment_after at_first order).place p

-- the steps of the holder with the name h in the list, in their order
abbrev pub steps_of : ℕ → List Entry → List Step
steps_of h [] = []
steps_of h (x ∷ xs) = if x.holder == h then x.step ∷ steps_of h xs else steps_of h xs
