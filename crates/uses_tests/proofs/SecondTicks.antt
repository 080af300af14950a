-- A second tick at the time of the first tick finds no task that is due.
use Rattle.std.proofs.Common.{◌≡◌, Bool, not, List, [], ◌∷◌, filter, refl, eq-eqb, arith}
use Rattle.scheduler.specs.declared.task.Task.{Task}
use Rattle.scheduler.specs.Schedule.{IsByDeadline}

-- if a list keeps only its items that fail a test, then none of the kept items passes the test
pub none_of_others : {X : Type 0} (test : X → Bool) (xs : List X) → filter test (filter (λ x. not (test x)) xs) ≡ []
none_of_others test [] = refl
none_of_others test (x ∷ xs) = let rest = none_of_others test xs in grind (arith, rest)

-- if the items of `tasks`, ordered by deadline, are the empty sequence, then `tasks` is empty
pub nothing_by_deadline : {V : Type 0} (tasks : List (Task V)) → IsByDeadline tasks [] → tasks ≡ []
nothing_by_deadline [] is = refl
nothing_by_deadline (task ∷ tasks) is = absurd (let e = rw (eq-eqb task.deadline task.deadline refl) at (is.alike task.deadline) in cc e)
