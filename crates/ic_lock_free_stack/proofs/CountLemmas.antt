-- No pushed place is lost, and no place is taken twice for one push.
use Rattle.std.proofs.Common.{◌≡◌, ◌≢◌, ℕ, zero, suc, ◌+◌, ◌<◌, eqb, false, true≢false, cond, List, [], ◌∷◌, ◌++◌, map, length, length-append, append-nil, sum_by, All, Contains, refl, sym, ap, ◌∙◌, subst, arith, eq-eqb, ne_eqb, eqb-true}
use Rattle.std.specs.List.{IsDistinct, AllByRecursion}
use Rattle.std.proofs.lemmas.List.Elements.{All-head, All-tail, All-push, All-from_recursion}
use Rattle.std.proofs.lemmas.List.{nil_from_length}
use Rattle.std.proofs.lemmas.List.Sums.{sum_by-cons}
use Rattle.std.proofs.lemmas.Map.Keys.{IsDistinct-head, IsDistinct-tail}
use mathlib.Core.Option.{some, some-injective, some-ne-none}
use lib.ListN.{get_elem?}
use Rattle.ic_unsafe_ref.specs.declared.place.Place.{Place}
use Rattle.ic_lock_free_stack.specs.declared.step.Step.{Step}
use Rattle.ic_lock_free_stack.specs.declared.step.Entry.{Entry}
use Rattle.ic_lock_free_stack.specs.declared.step.Step.TheVariants.{Claim, Release, Push, TakeAll}
use Rattle.ic_lock_free_stack.specs.Prelude.{Moment, entry, at_first, same, members_after, after, Fits, IsLegal, moment_after, steps_of, stack_after, IsSeen, GoesOn, Party, IsHistory}
use Rattle.ic_lock_free_stack.specs.Counts.{times, puts, takes_out, in_all, OneStepOn}
use Rattle.ic_lock_free_stack.proofs.MomentLemmas.{by_test, steps_of-append}
use Rattle.ic_lock_free_stack.proofs.Lists.{all_each}

times_both : (p : Place) (s t : List Place) → times p (s ++ t) ≡ times p s + times p t
times_both p [] t = omega arith
times_both p (q ∷ s) t = let r = times_both p s t in by_test (λ b. cond b 1 0 + times p (s ++ t) ≡ (cond b 1 0 + times p s) + times p t) (same p q) (λ _. omega (arith, r)) (λ _. omega (arith, r))

-- ONE STEP KEEPS THE BALANCE of the place p and the stack k. The left sum counts how often the step pushes p, and how often p was in the stack. The right sum
-- counts how often the step takes p, and how often p is in the stack afterwards
balances : (m : Moment) (a k : ℕ) (p : Place) (e : Step) → Fits m a e → puts k p e + times p (m.stack k) ≡ takes_out k p e + times p (members_after k (m.stack k) e)
balances m a k p (Claim q got) fits = refl
balances m a k p (Release q) fits = refl
balances m a k p (Push j s) fits = by_test (λ b. cond b (times p s) 0 + times p (m.stack k) ≡ 0 + times p (cond b (s ++ m.stack k) (m.stack k))) (eqb j k) (λ _. let t = times_both p s (m.stack k) in omega (arith, t)) (λ _. refl)
balances m a k p (TakeAll j s) fits = by_test (λ b. eqb j k ≡ b → 0 + times p (m.stack k) ≡ cond b (times p s) 0 + times p (cond b [] (m.stack k))) (eqb j k)
    (λ _ e. let t : times p s ≡ times p (m.stack k) = ap (times p) (fits ∙ ap (λ i. m.stack i) (eqb-true j k e)) in omega (arith, t)) (λ _ _. refl) refl

-- the sum of a count f over all steps of a list
abbrev total : (Step → ℕ) → List Entry → ℕ
total f [] = 0
total f (x ∷ xs) = f x.step + total f xs

balanced_from : (m : Moment) (xs : List Entry) (k : ℕ) (p : Place) → IsLegal m xs → total (puts k p) xs + times p (m.stack k) ≡ total (takes_out k p) xs + times p ((moment_after m xs).stack k)
balanced_from m [] k p legal = refl
balanced_from m (x ∷ xs) k p legal =
    let one = balances m x.holder k p x.step legal.0 in
    let rest = balanced_from (after m x.holder x.step) xs k p legal.1 in
    omega (arith, one, rest)

-- THE COUNT FOR ONE NAME: f is summed over the steps of the holder with the name h. The counts for all names together are the count for all steps
abbrev of_name : (Step → ℕ) → List Entry → ℕ → ℕ
of_name f order h = sum_by f (steps_of h order)

none_of_it : (a c : ℕ) (names : List ℕ) → AllByRecursion (λ y. eqb a y ≡ false) names → sum_by (λ h. cond (eqb a h) c 0) names ≡ 0
none_of_it a c [] none = refl
none_of_it a c (x ∷ xs) none = sum_by-cons (λ h. cond (eqb a h) c 0) x xs ∙ (let r = none_of_it a c xs none.1 in let e : cond (eqb a x) c 0 ≡ 0 = rw none.0 refl in omega (arith, r, e))

one_of_them : (a c : ℕ) (names : List ℕ) → IsDistinct eqb names → Contains names a → sum_by (λ h. cond (eqb a h) c 0) names ≡ c
one_of_them a c [] once (k, low, at) = absurd (omega (arith, low))
one_of_them a c (x ∷ xs) once (zero, low, at) =
    let here : x ≡ a = at in
    let e : cond (eqb a x) c 0 ≡ c = ap (λ b. cond b c 0) (eq-eqb a x (sym here)) in
    let r : sum_by (λ h. cond (eqb a h) c 0) xs ≡ 0 = none_of_it a c xs (subst (λ y. AllByRecursion (λ z. eqb y z ≡ false) xs) here (IsDistinct-head eqb x xs once)) in
    sum_by-cons (λ h. cond (eqb a h) c 0) x xs ∙ omega (arith, e, r)
one_of_them a c (x ∷ xs) once (suc k, low, at) =
    let low' : k < length xs = omega (arith, low) in
    let apart : eqb x a ≡ false = ap (eqb x) (sym at) ∙ (All-from_recursion (λ y. eqb x y ≡ false) xs (IsDistinct-head eqb x xs once)) k a low' in
    let ne : a ≢ x = λ f. true≢false (sym (eq-eqb x a (sym f)) ∙ apart) in
    let e : cond (eqb a x) c 0 ≡ 0 = ap (λ b. cond b c 0) (ne_eqb a x ne) in
    let r = one_of_them a c xs (IsDistinct-tail eqb x xs once) (k, low', at) in
    sum_by-cons (λ h. cond (eqb a h) c 0) x xs ∙ omega (arith, e, r)

sum_two : (f g h : ℕ → ℕ) (names : List ℕ) → ((n : ℕ) → h n ≡ f n + g n) → sum_by h names ≡ sum_by f names + sum_by g names
sum_two f g h [] each = refl
sum_two f g h (x ∷ xs) each =
    let r = sum_two f g h xs each in
    let e = each x in
    let a = sum_by-cons h x xs in
    let b = sum_by-cons f x xs in
    let c = sum_by-cons g x xs in
    omega (arith, r, e, a, b, c)

one_more : (f : Step → ℕ) (x : Entry) (xs : List Entry) (h : ℕ) → of_name f (x ∷ xs) h ≡ cond (eqb x.holder h) (f x.step) 0 + of_name f xs h
one_more f x xs h = by_test (λ b. sum_by f (cond b (x.step ∷ steps_of h xs) (steps_of h xs)) ≡ cond b (f x.step) 0 + of_name f xs h) (eqb x.holder h)
    (λ _. sum_by-cons f x.step (steps_of h xs)) (λ _. omega arith)

zeros : (names : List ℕ) → sum_by (λ (h : ℕ). 0) names ≡ 0
zeros [] = refl
zeros (x ∷ xs) = let r = zeros xs in sum_by-cons (λ (h : ℕ). 0) x xs ∙ omega (arith, r)

all_names : (f : Step → ℕ) (names : List ℕ) (order : List Entry) → IsDistinct eqb names → All (λ (x : Entry). Contains names x.holder) order → sum_by (of_name f order) names ≡ total f order
all_names f names [] once by = zeros names
all_names f names (x ∷ xs) once by =
    let one = one_of_them x.holder (f x.step) names once (All-head (λ (y : Entry). Contains names y.holder) x xs by) in
    let rest = all_names f names xs once (All-tail (λ (y : Entry). Contains names y.holder) x xs by) in
    sum_two (λ h. cond (eqb x.holder h) (f x.step) 0) (of_name f xs) (of_name f (x ∷ xs)) names (one_more f x xs) ∙ (λ i. one i + rest i)

all_parties : (f : Step → ℕ) (parties : List Party) (order : List Entry) → All (λ (x : Party). steps_of x.name order ≡ x.steps) parties → in_all f parties ≡ sum_by (of_name f order) (map (λ (x : Party). x.name) parties)
all_parties f [] order own = refl
all_parties f (x ∷ xs) order own =
    let one : sum_by f x.steps ≡ of_name f order x.name = ap (sum_by f) (sym (All-head (λ (y : Party). steps_of y.name order ≡ y.steps) x xs own)) in
    let rest = all_parties f xs order (All-tail (λ (y : Party). steps_of y.name order ≡ y.steps) x xs own) in
    sum_by-cons (λ (y : Party). sum_by f y.steps) x xs ∙ ((λ i. one i + rest i) ∙ sym (sum_by-cons (of_name f order) x.name (map (λ (y : Party). y.name) xs)))

counted : (f : Step → ℕ) (order : List Entry) (parties : List Party) → IsHistory order parties → in_all f parties ≡ total f order
counted f order parties was = all_parties f parties order was.own ∙ all_names f (map (λ (x : Party). x.name) parties) order was.named was.by

pub nothing_lost : (order : List Entry) (parties : List Party) (k : ℕ) (p : Place) → IsHistory order parties → in_all (puts k p) parties ≡ in_all (takes_out k p) parties + times p (stack_after order k)
nothing_lost order parties k p was =
    let a = counted (puts k p) order parties was in
    let b = counted (takes_out k p) order parties was in
    let c = balanced_from at_first order k p was.legal in
    omega (arith, a, b, c)

-- Lemmas for the law `calls_go_in_turn`: if the records of all holders are one history before and after one step, the history gains this step and no other
sum_same : (f g : ℕ → ℕ) (names : List ℕ) → ((i m : ℕ) → get_elem? names i ≡ some m → f m ≡ g m) → sum_by f names ≡ sum_by g names
sum_same f g [] each = refl
sum_same f g (x ∷ xs) each =
    let one = each 0 x refl in
    let rest = sum_same f g xs (λ i m at. each (suc i) m at) in
    sum_by-cons f x xs ∙ ((λ i. one i + rest i) ∙ sym (sum_by-cons g x xs))

at_of_map : (l : List Party) (i m : ℕ) → get_elem? (map (λ (x : Party). x.name) l) i ≡ some m → (x : Party) × (get_elem? l i ≡ some x) × (x.name ≡ m)
at_of_map [] i m e = absurd (some-ne-none m (sym e))
at_of_map (x ∷ xs) zero m e = (x, refl, some-injective x.name m e)
at_of_map (x ∷ xs) (suc i) m e = at_of_map xs i m e

abbrev one_each : Step → ℕ
one_each e = 1

length_total : (xs : List Entry) → total one_each xs ≡ length xs
length_total [] = refl
length_total (x ∷ xs) = let r = length_total xs in omega (arith, r)

nothing_else : (order between rest : List Entry) (x : Entry) (last : List Entry) → last ≡ ((order ++ between) ++ x ∷ []) ++ rest → length last ≡ length (order ++ x ∷ []) → last ≡ order ++ x ∷ []
nothing_else order between rest x last is long =
    let a = length-append ((order ++ between) ++ x ∷ []) rest in
    let b = length-append (order ++ between) (x ∷ []) in
    let c = length-append order between in
    let d = length-append order (x ∷ []) in
    let e = ap length is in
    let no_rest : rest ≡ [] = nil_from_length rest (omega (arith, a, b, c, d, e, long)) in
    let no_between : between ≡ [] = nil_from_length between (omega (arith, a, b, c, d, e, long)) in
    is ∙ (ap (λ l. ((order ++ between) ++ x ∷ []) ++ l) no_rest ∙ (append-nil ((order ++ between) ++ x ∷ []) ∙ (ap (λ l. (order ++ l) ++ x ∷ []) no_between ∙ ap (λ l. l ++ x ∷ []) (append-nil order))))

steps_more : (order : List Entry) (h m : ℕ) (e : Step) → steps_of m (order ++ entry h e ∷ []) ≡ cond (eqb h m) (steps_of m order ++ e ∷ []) (steps_of m order)
steps_more order h m e = steps_of-append m order (entry h e ∷ []) ∙ by_test (λ b. steps_of m order ++ cond b (e ∷ []) [] ≡ cond b (steps_of m order ++ e ∷ []) (steps_of m order)) (eqb h m) (λ _. refl) (λ _. append-nil (steps_of m order))

pub in_turn : (order new last : List Entry) (parties later : List Party) (h : ℕ) (e : Step) → IsHistory order parties → GoesOn h order e new → IsSeen new last → IsHistory last later → OneStepOn parties later h e
    → last ≡ order ++ entry h e ∷ []
in_turn order new last parties later h e was goes seen now step =
    let x : Entry = entry h e in
    let names : List ℕ = map (λ (y : Party). y.name) parties in
    let same : (i m : ℕ) → get_elem? names i ≡ some m → of_name one_each last m ≡ of_name one_each (order ++ x ∷ []) m = λ i m at.
    let p = at_of_map parties i m at in
    let q = at_of_map later i m (ap (λ l. get_elem? l i) step.names ∙ at) in
    let old : steps_of m order ≡ p.0.steps = subst (λ n. steps_of n order ≡ p.0.steps) p.2 (all_each (λ (y : Party). steps_of y.name order ≡ y.steps) parties was.own i p.0 p.1) in
    let new : steps_of m last ≡ q.0.steps = subst (λ n. steps_of n last ≡ q.0.steps) q.2 (all_each (λ (y : Party). steps_of y.name last ≡ y.steps) later now.own i q.0 q.1) in
    let moved : q.0.steps ≡ cond (eqb h m) (p.0.steps ++ e ∷ []) p.0.steps = subst (λ n. q.0.steps ≡ cond (eqb h n) (p.0.steps ++ e ∷ []) p.0.steps) p.2 (step.steps i p.0 q.0 p.1 q.1) in
    ap (sum_by one_each) (new ∙ (moved ∙ (ap (λ l. cond (eqb h m) (l ++ e ∷ []) l) (sym old) ∙ sym (steps_more order h m e)))) in
    let by_last : All (λ (y : Entry). Contains names y.holder) last = subst (λ l. All (λ (y : Entry). Contains l y.holder) last) step.names now.by in
    let by_more : All (λ (y : Entry). Contains names y.holder) (order ++ x ∷ []) = All-push (λ (y : Entry). Contains names y.holder) order x was.by step.there in
    let total_last = all_names one_each names last was.named by_last in
    let total_more = all_names one_each names (order ++ x ∷ []) was.named by_more in
    let sums = sum_same (of_name one_each last) (of_name one_each (order ++ x ∷ [])) names same in
    let a = length_total last in
    let b = length_total (order ++ x ∷ []) in
    nothing_else order goes.between seen.rest x last (seen.is ∙ ap (λ l. l ++ seen.rest) goes.is) (omega (arith, total_last, total_more, sums, a, b))
