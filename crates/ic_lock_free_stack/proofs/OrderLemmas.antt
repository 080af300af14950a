-- Places are taken from a stack in the order in which they were pushed.
use Rattle.std.proofs.Common.{◌≡◌, ℕ, eqb, cond, List, [], ◌∷◌, ◌++◌, reverse, append_assoc, append-nil, refl, sym, ap, ◌∙◌, eqb-true}
use Rattle.std.proofs.lemmas.List.{reverse-append}
use Rattle.ic_unsafe_ref.specs.declared.place.Place.{Place}
use Rattle.ic_lock_free_stack.specs.declared.step.Step.{Step}
use Rattle.ic_lock_free_stack.specs.declared.step.Entry.{Entry}
use Rattle.ic_lock_free_stack.specs.declared.step.Step.TheVariants.{Claim, Release, Push, TakeAll}
use Rattle.ic_lock_free_stack.specs.Prelude.{Moment, at_first, members_after, after, Fits, IsLegal, moment_after, stack_after, sent, got, of_history}
use Rattle.ic_lock_free_stack.proofs.MomentLemmas.{by_test}

-- for one step, the members before the step and then the pushed places are the taken places and then the members after the step, in the order of the pushes
one_comes : (m : Moment) (a k : ℕ) (e : Step) → Fits m a e → reverse (m.stack k) ++ sent k e ≡ got k e ++ reverse (members_after k (m.stack k) e)
one_comes m a k (Claim q b) fits = append-nil (reverse (m.stack k))
one_comes m a k (Release q) fits = append-nil (reverse (m.stack k))
one_comes m a k (Push j s) fits = by_test (λ b. reverse (m.stack k) ++ cond b (reverse s) [] ≡ reverse (cond b (s ++ m.stack k) (m.stack k))) (eqb j k)
    (λ _. sym (reverse-append s (m.stack k))) (λ _. append-nil (reverse (m.stack k)))
one_comes m a k (TakeAll j s) fits = by_test (λ b. eqb j k ≡ b → reverse (m.stack k) ++ [] ≡ cond b (reverse s) [] ++ reverse (cond b [] (m.stack k))) (eqb j k)
    (λ _ e. ap (λ t. reverse t ++ []) (sym (fits ∙ ap (λ i. m.stack i) (eqb-true j k e)))) (λ _ _. append-nil (reverse (m.stack k))) refl

all_come : (m : Moment) (k : ℕ) (xs : List Entry) → IsLegal m xs → reverse (m.stack k) ++ of_history (sent k) xs ≡ of_history (got k) xs ++ reverse ((moment_after m xs).stack k)
all_come m k [] legal = append-nil (reverse (m.stack k))
all_come m k (x ∷ xs) legal =
    let next : Moment = after m x.holder x.step in
    let one = one_comes m x.holder k x.step legal.0 in
    let rest = all_come next k xs legal.1 in
    let here : List Place = got k x.step in
    sym (append_assoc (reverse (m.stack k)) (sent k x.step) (of_history (sent k) xs))
    ∙ (ap (λ l. l ++ of_history (sent k) xs) one ∙ (append_assoc here (reverse (next.stack k)) (of_history (sent k) xs)
    ∙ (ap (λ l. here ++ l) rest ∙ sym (append_assoc here (of_history (got k) xs) (reverse ((moment_after next xs).stack k))))))

pub comes_in_turn : (order : List Entry) (k : ℕ) → IsLegal at_first order → of_history (sent k) order ≡ of_history (got k) order ++ reverse (stack_after order k)
comes_in_turn order k legal = all_come at_first k order legal
