-- What follows from a history for the stacks.
use Rattle.std.proofs.Common.{◌≡◌, ℕ, false, cond, List, [], ◌∷◌, ◌++◌, refl, ap, ◌∙◌, eq-eqb}
use Rattle.ic_unsafe_ref.specs.declared.place.Place.{Place}
use Rattle.ic_lock_free_stack.specs.declared.step.Step.{Step}
use Rattle.ic_lock_free_stack.specs.declared.step.Entry.{Entry}
use Rattle.ic_lock_free_stack.specs.declared.step.Step.TheVariants.{Claim, Release, Push, TakeAll}
use Rattle.ic_lock_free_stack.specs.Moments.{Moment, entry, at_first, is_on_stack, members_after, after, Fits, IsLegal, moment_after, stack_after}
use Rattle.ic_lock_free_stack.specs.OneHistory.{IsSound}
use Rattle.ic_lock_free_stack.proofs.MomentLemmas.{moment_more, sound_after}

-- the last step of a history is possible at its moment, and all steps before it are possible at theirs
pub legal_last : (m : Moment) (xs : List Entry) (x : Entry) → IsLegal m (xs ++ x ∷ []) → Fits (moment_after m xs) x.holder x.step
legal_last m [] x was = was.0
legal_last m (y ∷ ys) x was = legal_last (after m y.holder y.step) ys x was.1

pub legal_front : (m : Moment) (xs ys : List Entry) → IsLegal m (xs ++ ys) → IsLegal m xs
legal_front m [] ys was = tt
legal_front m (x ∷ xs) ys was = (was.0, legal_front (after m x.holder x.step) xs ys was.1)

sound_from : (m : Moment) (xs : List Entry) → IsSound m → IsLegal m xs → IsSound (moment_after m xs)
sound_from m [] was legal = was
sound_from m (x ∷ xs) was legal = sound_from (after m x.holder x.step) xs (sound_after m was x.holder x.step legal.0) legal.1

pub sound_history : (order : List Entry) → IsLegal at_first order → IsSound (moment_after at_first order)
sound_history order legal = sound_from at_first order (record { members = λ p k. refl; once = λ k. tt }) legal

pub stack_more : (order : List Entry) (h k : ℕ) (e : Step) → stack_after (order ++ entry h e ∷ []) k ≡ members_after k (stack_after order k) e
stack_more order h k e = ap (λ (m : Moment). m.stack k) (moment_more at_first order (entry h e))

pub push_more : (order : List Entry) (h k : ℕ) (s : List Place) → stack_after (order ++ entry h (Push k s) ∷ []) k ≡ s ++ stack_after order k
push_more order h k s = stack_more order h k (Push k s) ∙ ap (λ b. cond b (s ++ stack_after order k) (stack_after order k)) (eq-eqb k k refl)

pub take_more : (order : List Entry) (h k : ℕ) (s : List Place) → stack_after (order ++ entry h (TakeAll k s) ∷ []) k ≡ []
take_more order h k s = stack_more order h k (TakeAll k s) ∙ ap (λ b. cond b [] (stack_after order k)) (eq-eqb k k refl)

off_stack : (k : ℕ) (s : List Place) (e : Step) → is_on_stack k e ≡ false → members_after k s e ≡ s
off_stack k s (Claim q got) off = refl
off_stack k s (Release q) off = refl
off_stack k s (Push j t) off = ap (λ b. cond b (t ++ s) s) off
off_stack k s (TakeAll j t) off = ap (λ b. cond b [] s) off

pub other_more : (order : List Entry) (h k : ℕ) (e : Step) → is_on_stack k e ≡ false → stack_after (order ++ entry h e ∷ []) k ≡ stack_after order k
other_more order h k e off = stack_more order h k e ∙ off_stack k (stack_after order k) e off
