-- Runs of steps, one after the other.
use Rattle.std.proofs.Common.{◌≡◌, ◌∙◌, ℕ, ◌+◌, ◌<◌, ◌++◌, List, [], ◌∷◌, length, take, map, get_or, refl, sym, ap, subst, Ordering}
use Rattle.std.proofs.lemmas.List.{take_more, map-append}
use Rattle.ic_world.specs.declared.call.Command.{Command}
use Rattle.ic_world.specs.Prelude.{Family, Reply, Step, Runs}

module _ {A V K : Type 0} (cmp : K → K → Ordering) (key_of : A → V → K) where
  -- a run of calls that is followed by the step of one more call is a run of all these calls
  pub runs_more : (calls : List (Command V K)) (replies : List Reply) (call : Command V K) (reply : Reply) (old mid new : Family A V) → Runs cmp key_of old calls replies mid
      → Step cmp key_of mid call reply new → Runs cmp key_of old (calls ++ call ∷ []) (replies ++ reply ∷ []) new
  runs_more [] [] call reply old mid new run step = (new, subst (λ w. Step cmp key_of w call reply new) run step, refl)
  runs_more (c ∷ calls) (r ∷ replies) call reply old mid new run step = (run.0, run.1, runs_more calls replies call reply run.0 mid new run.2 step)
  runs_more [] (r ∷ replies) call reply old mid new run step = absurd run
  runs_more (c ∷ calls) [] call reply old mid new run step = absurd run

  -- a loop over the calls appends each answer to the list `given`. If the first i calls are a run, the turn for the call i makes it a run of the
  -- first i + 1 calls
  pub runs_next : {X : Type 0} (replied : X → Reply) (calls : List (Command V K)) (i : ℕ) (call : Command V K) (given : List X) (answer : X) (old mid new : Family A V)
      → i < length calls → call ≡ get_or calls i call → Runs cmp key_of old (take i calls) (map replied given) mid → Step cmp key_of mid call (replied answer) new
      → Runs cmp key_of old (take (i + 1) calls) (map replied (given ++ answer ∷ [])) new
  runs_next replied calls i call given answer old mid new h is run step =
      let taken : take (i + 1) calls ≡ take i calls ++ call ∷ [] = take_more calls i call h ∙ ap (λ c. take i calls ++ c ∷ []) (sym is) in
      subst (λ cs. Runs cmp key_of old cs (map replied (given ++ answer ∷ [])) new) (sym taken)
      (subst (λ rs. Runs cmp key_of old (take i calls ++ call ∷ []) rs new) (sym (map-append replied given (answer ∷ [])))
      (runs_more (take i calls) (map replied given) call (replied answer) old mid new run step))
