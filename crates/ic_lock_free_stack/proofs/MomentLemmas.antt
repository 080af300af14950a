-- What one more step of a list of steps changes in the moment at the end of the list.
use Rattle.std.proofs.Common.{◌≡◌, ◌≢◌, ℕ, ◌+◌, eqb, Bool, true, false, true≢false, cond, ◌&&◌, ◌||◌, List, [], ◌∷◌, ◌++◌, refl, sym, ap, ◌∙◌, arith, length, length-append, eq-eqb, ne_eqb, eqb-true}
use Rattle.std.proofs.lemmas.List.{nil_from_length}
use Rattle.ic_unsafe_ref.specs.declared.place.Place.{Place}
use Rattle.ic_unsafe_ref.specs.Places.{index_of}
use Rattle.ic_unsafe_ref.proofs.PlaceLemmas.{same_index}
use Rattle.ic_lock_free_stack.specs.declared.step.Step.{Step}
use Rattle.ic_lock_free_stack.specs.declared.step.Step.TheVariants.{Claim, Release, Push, TakeAll}
use Rattle.ic_lock_free_stack.specs.declared.step.Entry.{Entry}
use Rattle.ic_lock_free_stack.specs.Moments.{Location, nowhere, with_holder, in_stack, is_nowhere, is_with, is_stacked, Moment, entry, same, is_in, moves, goes, after, Fits, IsLegal, moment_after, steps_of, IsOnce}
use Rattle.ic_lock_free_stack.specs.Records.{brings, held_from, holds, on_head, pushes_and_takes}
use Rattle.ic_lock_free_stack.specs.OneHistory.{IsSound, heads_in}

pub legal_more : (m : Moment) (xs : List Entry) (x : Entry) → IsLegal m xs → Fits (moment_after m xs) x.holder x.step → IsLegal m (xs ++ x ∷ [])
legal_more m [] x was fits = (fits, tt)
legal_more m (y ∷ ys) x was fits = (was.0, legal_more (after m y.holder y.step) ys x was.1 fits)

pub moment_more : (m : Moment) (xs : List Entry) (x : Entry) → moment_after m (xs ++ x ∷ []) ≡ after (moment_after m xs) x.holder x.step
moment_more m [] x = refl
moment_more m (y ∷ ys) x = moment_more (after m y.holder y.step) ys x

pub heads_more : (xs : List Entry) (x : Entry) → heads_in (xs ++ x ∷ []) ≡ heads_in xs + on_head x.step
heads_more [] x = omega arith
heads_more (y ∷ ys) x = let r = heads_more ys x in omega (arith, r)

pub pushes_more : (es : List Step) (e : Step) → pushes_and_takes (es ++ e ∷ []) ≡ pushes_and_takes es + on_head e
pushes_more [] e = omega arith
pushes_more (x ∷ xs) e = let r = pushes_more xs e in omega (arith, r)

held_more : (p : Place) (held : Bool) (es : List Step) (e : Step) → held_from p held (es ++ e ∷ []) ≡ cond (moves p e) (brings e) (held_from p held es)
held_more p held [] e = refl
held_more p held (x ∷ xs) e = held_more p (cond (moves p x) (brings x) held) xs e

pub holds_more : (p : Place) (es : List Step) (e : Step) → holds p (es ++ e ∷ []) ≡ cond (moves p e) (brings e) (holds p es)
holds_more p es e = held_more p false es e

cons_if : (b : Bool) (y : Step) (l m : List Step) → l ≡ m → cond b (y ∷ l) l ≡ cond b (y ∷ m) m
cons_if true y l m e = ap (λ k. y ∷ k) e
cons_if false y l m e = e

cons_if-snoc : (b : Bool) (y x : Step) (l m : List Step) → l ≡ m ++ x ∷ [] → cond b (y ∷ l) l ≡ cond b (y ∷ m) m ++ x ∷ []
cons_if-snoc true y x l m e = ap (λ k. y ∷ k) e
cons_if-snoc false y x l m e = e

pub steps_of-mine : (h : ℕ) (xs : List Entry) (e : Step) → steps_of h (xs ++ entry h e ∷ []) ≡ steps_of h xs ++ e ∷ []
steps_of-mine h [] e = rw (eq-eqb h h refl) refl
steps_of-mine h (y ∷ ys) e = cons_if-snoc (eqb y.holder h) y.step e (steps_of h (ys ++ entry h e ∷ [])) (steps_of h ys) (steps_of-mine h ys e)

pub steps_of-other : (h a : ℕ) (xs : List Entry) (e : Step) → a ≢ h → steps_of h (xs ++ entry a e ∷ []) ≡ steps_of h xs
steps_of-other h a [] e ne = rw (ne_eqb a h ne) refl
steps_of-other h a (y ∷ ys) e ne = cons_if (eqb y.holder h) y.step (steps_of h (ys ++ entry a e ∷ [])) (steps_of h ys) (steps_of-other h a ys e ne)

cons_if-append : (b : Bool) (y : Step) (l m n : List Step) → l ≡ m ++ n → cond b (y ∷ l) l ≡ cond b (y ∷ m) m ++ n
cons_if-append true y l m n e = ap (λ k. y ∷ k) e
cons_if-append false y l m n e = e

pub steps_of-append : (h : ℕ) (xs ys : List Entry) → steps_of h (xs ++ ys) ≡ steps_of h xs ++ steps_of h ys
steps_of-append h [] ys = refl
steps_of-append h (x ∷ xs) ys = cons_if-append (eqb x.holder h) x.step (steps_of h (xs ++ ys)) (steps_of h xs) (steps_of h ys) (steps_of-append h xs ys)

-- if a list with more elements at its end equals the list, no elements were added
pub none_added : (xs ys zs : List Step) → zs ≡ xs ++ ys → zs ≡ xs → ys ≡ []
none_added xs ys zs e f = nil_from_length ys (let a = length-append xs ys in let b = ap length e in let c = ap length f in omega (arith, a, b, c))

-- two places with the same index are the same place
pub one_place : (p q : Place) → same p q ≡ true → p ≡ q
one_place p q e = same_index p q (eqb-true (index_of p) (index_of q) e)

pub same_place : (p : Place) → same p p ≡ true
same_place p = eq-eqb (index_of p) (index_of p) refl

pub apart_place : (p q : Place) → index_of p ≢ index_of q → same p q ≡ false
apart_place p q ne = ne_eqb (index_of p) (index_of q) ne

-- a statement about a test holds if it holds when the test is true and when it is false
pub by_test : (P : Bool → Type 0) (b : Bool) → (b ≡ true → P true) → (b ≡ false → P false) → P b
by_test P true yes_it no_it = yes_it refl
by_test P false yes_it no_it = no_it refl

and_right : (a b : Bool) → (a && b) ≡ true → b ≡ true
and_right true b e = e
and_right false b e = absurd (true≢false (sym e))

and_left : (a b : Bool) → (a && b) ≡ true → a ≡ true
and_left true b e = refl
and_left false b e = absurd (true≢false (sym e))

-- if the test `is_with h` is true of a location, the location is with the holder h. The next lemmas say such facts of the other tests
pub with_is : (h : ℕ) (w : Location) → is_with h w ≡ true → w ≡ with_holder h
with_is h nowhere e = absurd (true≢false (sym e))
with_is h (with_holder a) e = ap with_holder (eqb-true a h e)
with_is h (in_stack k) e = absurd (true≢false (sym e))

pub with_itself : (h : ℕ) (w : Location) → w ≡ with_holder h → is_with h w ≡ true
with_itself h w e = ap (is_with h) e ∙ eq-eqb h h refl

pub stacked_is : (k : ℕ) (w : Location) → is_stacked k w ≡ true → w ≡ in_stack k
stacked_is k nowhere e = absurd (true≢false (sym e))
stacked_is k (with_holder a) e = absurd (true≢false (sym e))
stacked_is k (in_stack j) e = ap in_stack (eqb-true j k e)

pub nowhere_is : (w : Location) → is_nowhere w ≡ true → w ≡ nowhere
nowhere_is nowhere e = refl
nowhere_is (with_holder a) e = absurd (true≢false (sym e))
nowhere_is (in_stack k) e = absurd (true≢false (sym e))

-- a place that a step of the holder a moves was with no other holder before the step
module _ (m : Moment) (sound : IsSound m) (a : ℕ) (p : Place) where
  with_a : m.place p ≡ with_holder a → (h : ℕ) → h ≢ a → is_with h (m.place p) ≡ false
  with_a e h ne = ap (is_with h) e ∙ ne_eqb a h (λ f. ne (sym f))

  pub was_other : (e : Step) → Fits m a e → moves p e ≡ true → (h : ℕ) → h ≢ a → is_with h (m.place p) ≡ false
  was_other (Claim q got) fits mv h ne =
      let here : p ≡ q = one_place p q (and_right got (same p q) mv) in
      let none : is_nowhere (m.place p) ≡ true = ap (λ r. is_nowhere (m.place r)) here ∙ (sym fits ∙ and_left got (same p q) mv) in
      ap (is_with h) (nowhere_is (m.place p) none)
  was_other (Release q) fits mv h ne = with_a (ap (λ r. m.place r) (one_place p q mv) ∙ fits) h ne
  was_other (Push k s) fits mv h ne = with_a (fits.1 p mv) h ne
  was_other (TakeAll k s) fits mv h ne =
      let inside : is_in p (m.stack k) ≡ true = ap (is_in p) (sym fits) ∙ mv in
      ap (is_with h) (stacked_is k (m.place p) (sym (sound.members p k) ∙ inside))

-- a place that a step of the holder a has moved is with a exactly if the step moves places to its holder, and it is with no other holder
goes_mine : (a : ℕ) (e : Step) → is_with a (goes a e) ≡ brings e
goes_mine a (Claim q got) = eq-eqb a a refl
goes_mine a (Release q) = refl
goes_mine a (Push k s) = refl
goes_mine a (TakeAll k s) = eq-eqb a a refl

goes_other : (a h : ℕ) (e : Step) → h ≢ a → is_with h (goes a e) ≡ false
goes_other a h (Claim q got) ne = ne_eqb a h (λ f. ne (sym f))
goes_other a h (Release q) ne = refl
goes_other a h (Push k s) ne = refl
goes_other a h (TakeAll k s) ne = ne_eqb a h (λ f. ne (sym f))

pub with_mine : (m : Moment) (a : ℕ) (e : Step) (p : Place) → is_with a ((after m a e).place p) ≡ cond (moves p e) (brings e) (is_with a (m.place p))
with_mine m a e p = by_test (λ b. is_with a (cond b (goes a e) (m.place p)) ≡ cond b (brings e) (is_with a (m.place p))) (moves p e) (λ t. goes_mine a e) (λ f. refl)

pub with_other : (m : Moment) → IsSound m → (a h : ℕ) (e : Step) (p : Place) → Fits m a e → h ≢ a → is_with h ((after m a e).place p) ≡ is_with h (m.place p)
with_other m sound a h e p fits ne = by_test (λ b. moves p e ≡ b → is_with h (cond b (goes a e) (m.place p)) ≡ is_with h (m.place p)) (moves p e)
    (λ t mv. goes_other a h e ne ∙ sym (was_other m sound a p e fits mv h ne)) (λ f mv. refl) refl

-- a statement about a test holds if it follows both from a true test and from a false test
pub by_case : (P : Bool → Type 0) (b : Bool) → (b ≡ true → P b) → (b ≡ false → P b) → P b
by_case P true yes_it no_it = yes_it refl
by_case P false yes_it no_it = no_it refl

-- a place is in two joined lists exactly if it is in one of them
pub in_both : (p : Place) (s t : List Place) → is_in p (s ++ t) ≡ (is_in p s || is_in p t)
in_both p [] t = refl
in_both p (q ∷ s) t = by_test (λ b. (b || is_in p (s ++ t)) ≡ ((b || is_in p s) || is_in p t)) (same p q) (λ _. refl) (λ _. in_both p s t)

pub in_here : (p : Place) (s : List Place) → is_in p (p ∷ s) ≡ true
in_here p s = rw (same_place p) refl

pub in_rest : (p q : Place) (s : List Place) → is_in q s ≡ true → is_in q (p ∷ s) ≡ true
in_rest p q s e = by_test (λ b. (b || is_in q s) ≡ true) (same q p) (λ _. refl) (λ _. e)

pub once_both : (s t : List Place) → IsOnce s → IsOnce t → ((p : Place) → is_in p s ≡ true → is_in p t ≡ false) → IsOnce (s ++ t)
once_both [] t a b apart = b
once_both (p ∷ s) t a b apart = (
  in_both p s t ∙ (ap (λ c. c || is_in p t) a.0 ∙ apart p (in_here p s)),
  once_both s t a.1 b (λ q e. apart q (in_rest p q s e)),
)

-- after a step, the members of each stack are still exactly the places that are in this stack
module _ (m : Moment) (sound : IsSound m) (a : ℕ) where
  -- a place that is with a holder, or with nobody, is in no stack
  pub off_stacks : (p : Place) (k : ℕ) → m.place p ≡ with_holder a → is_in p (m.stack k) ≡ false
  off_stacks p k e = sound.members p k ∙ ap (is_stacked k) e

  pub off_free : (p : Place) (k : ℕ) → is_nowhere (m.place p) ≡ true → is_in p (m.stack k) ≡ false
  off_free p k e = sound.members p k ∙ ap (is_stacked k) (nowhere_is (m.place p) e)

  pub in_its_stack : (p : Place) (k : ℕ) → is_in p (m.stack k) ≡ true → m.place p ≡ in_stack k
  in_its_stack p k e = stacked_is k (m.place p) (sym (sound.members p k) ∙ e)

  claim_members : (q : Place) (got : Bool) → got ≡ is_nowhere (m.place q) → (p : Place) (k : ℕ) → is_in p (m.stack k) ≡ is_stacked k (cond (got && same p q) (with_holder a) (m.place p))
  claim_members q got fits p k = by_test (λ b. got && same p q ≡ b → is_in p (m.stack k) ≡ is_stacked k (cond b (with_holder a) (m.place p))) (got && same p q)
      (λ _ mv. off_free p k (ap (λ r. is_nowhere (m.place r)) (one_place p q (and_right got (same p q) mv)) ∙ (sym fits ∙ and_left got (same p q) mv)))
      (λ _ mv. sound.members p k) refl

  release_members : (q : Place) → m.place q ≡ with_holder a → (p : Place) (k : ℕ) → is_in p (m.stack k) ≡ is_stacked k (cond (same p q) nowhere (m.place p))
  release_members q fits p k = by_test (λ b. same p q ≡ b → is_in p (m.stack k) ≡ is_stacked k (cond b nowhere (m.place p))) (same p q)
      (λ _ mv. off_stacks p k (ap (λ r. m.place r) (one_place p q mv) ∙ fits))
      (λ _ mv. sound.members p k) refl

  push_members : (j : ℕ) (s : List Place) → ((p : Place) → is_in p s ≡ true → m.place p ≡ with_holder a) → (p : Place) (k : ℕ)
      → is_in p (cond (eqb j k) (s ++ m.stack k) (m.stack k)) ≡ is_stacked k (cond (is_in p s) (in_stack j) (m.place p))
  push_members j s mine p k = by_test (λ c. eqb j k ≡ c → is_in p (cond c (s ++ m.stack k) (m.stack k)) ≡ is_stacked k (cond (is_in p s) (in_stack j) (m.place p))) (eqb j k)
      (λ _ here. in_both p s (m.stack k) ∙ by_test (λ b. (b || is_in p (m.stack k)) ≡ is_stacked k (cond b (in_stack j) (m.place p))) (is_in p s) (λ _. sym here) (λ _. sound.members p k))
      (λ _ there. by_test (λ b. is_in p s ≡ b → is_in p (m.stack k) ≡ is_stacked k (cond b (in_stack j) (m.place p))) (is_in p s)
      (λ _ mv. off_stacks p k (mine p mv) ∙ sym there) (λ _ mv. sound.members p k) refl) refl

  take_members : (j : ℕ) (s : List Place) → s ≡ m.stack j → (p : Place) (k : ℕ) → is_in p (cond (eqb j k) [] (m.stack k)) ≡ is_stacked k (cond (is_in p s) (with_holder a) (m.place p))
  take_members j s fits p k = by_test (λ b. is_in p s ≡ b → is_in p (cond (eqb j k) [] (m.stack k)) ≡ is_stacked k (cond b (with_holder a) (m.place p))) (is_in p s)
      (λ _ mv. by_test (λ c. eqb j k ≡ c → is_in p (cond c [] (m.stack k)) ≡ false) (eqb j k) (λ _ here. refl)
      (λ _ there. sound.members p k ∙ (ap (is_stacked k) (in_its_stack p j (ap (is_in p) (sym fits) ∙ mv)) ∙ there)) refl)
      (λ _ mv. by_test (λ c. eqb j k ≡ c → is_in p (cond c [] (m.stack k)) ≡ is_stacked k (m.place p)) (eqb j k)
      (λ _ here. sym (ap (λ i. is_stacked i (m.place p)) (sym (eqb-true j k here)) ∙ (sym (sound.members p j) ∙ (ap (is_in p) (sym fits) ∙ mv))))
      (λ _ there. sound.members p k) refl) refl

  push_once : (j : ℕ) (s : List Place) → IsOnce s → ((p : Place) → is_in p s ≡ true → m.place p ≡ with_holder a) → (k : ℕ) → IsOnce (cond (eqb j k) (s ++ m.stack k) (m.stack k))
  push_once j s once mine k = by_test (λ c. IsOnce (cond c (s ++ m.stack k) (m.stack k))) (eqb j k) (λ _. once_both s (m.stack k) once (sound.once k) (λ p e. off_stacks p k (mine p e))) (λ _. sound.once k)

  take_once : (j k : ℕ) → IsOnce (cond (eqb j k) [] (m.stack k))
  take_once j k = by_test (λ c. IsOnce (cond c [] (m.stack k))) (eqb j k) (λ _. tt) (λ _. sound.once k)

  pub sound_after : (e : Step) → Fits m a e → IsSound (after m a e)
  sound_after (Claim q got) fits = record { members = claim_members q got fits; once = sound.once }
  sound_after (Release q) fits = record { members = release_members q fits; once = sound.once }
  sound_after (Push j s) fits = record { members = push_members j s fits.1; once = push_once j s fits.0 fits.1 }
  sound_after (TakeAll j s) fits = record { members = take_members j s fits; once = take_once j }
