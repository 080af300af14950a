-- Lemmas on a list whose steps are all claims: each place that was claimed is held at the end of the list.
use Rattle.std.proofs.Common.{◌≡◌, ℕ, Bool, true, false, true≢false, cond, eqb, ◌||◌, List, [], ◌∷◌, map, refl, sym, ap, ◌∙◌, subst, eq-eqb, Option, Some, None, is_some}
use Rattle.ic_link_ops.specs.Prelude.{Place, index_of}
use Rattle.ic_atomic.specs.declared.step.Step.{Step}
use Rattle.ic_atomic.specs.declared.step.Step.TheVariants.{Claim, Release, Look}
use Rattle.ic_atomic.specs.declared.step.Event.{Event}
use Rattle.ic_atomic.specs.ClaimMap.{ClaimMap, target, is_party, holder_after, map_after, last_map, no_claims}
use Rattle.ic_atomic.specs.OneList.{Entry, request_of, steps_of, record_at, IsHeld, IsOneList}
use Rattle.ic_atomic.proofs.OneListLemmas.{ends_of}

-- the step is a claim
abbrev pub IsClaim : Step → Type 0
IsClaim (Claim p) = Unit {0}
IsClaim (Release p) = ⊥
IsClaim (Look p) = ⊥

-- all steps of the record are claims
abbrev pub OnlyClaims : List Event → Type 0
OnlyClaims [] = Unit {0}
OnlyClaims (e ∷ es) = IsClaim e.step × OnlyClaims es

abbrev AllClaims : List Entry → Type 0
AllClaims [] = Unit {0}
AllClaims (x ∷ xs) = IsClaim x.event.step × AllClaims xs

-- whether a step claims the place with the index n, or whether one of several events or entries does
abbrev pub claims_at : ℕ → Step → Bool
claims_at n (Claim p) = eqb n (index_of p)
claims_at n (Release p) = false
claims_at n (Look p) = false

abbrev pub asks : ℕ → List Event → Bool
asks n [] = false
asks n (e ∷ es) = claims_at n e.step || asks n es

abbrev asked : ℕ → List Entry → Bool
asked n [] = false
asked n (x ∷ xs) = claims_at n x.event.step || asked n xs

-- lemmas for `all_claims`: if the record of each holder has only claims, each entry of the list is a claim, because its step is in the record of its holder
only_first : (b : Bool) (e : Event) (es : List Event) → b ≡ true → OnlyClaims (cond b (e ∷ es) es) → IsClaim e.step
only_first true e es is only = only.0
only_first false e es is only = absurd (true≢false (sym is))

only_rest : (b : Bool) (e : Event) (es : List Event) → OnlyClaims (cond b (e ∷ es) es) → OnlyClaims es
only_rest true e es only = only.1
only_rest false e es only = only

all_claims : (order : List Entry) → ((h : ℕ) → OnlyClaims (steps_of h order)) → AllClaims order
all_claims [] only = tt
all_claims (x ∷ xs) only = (
  only_first (eqb x.holder x.holder) x.event (steps_of x.holder xs) (eq-eqb x.holder x.holder refl) (only x.holder),
  all_claims xs (λ h. only_rest (eqb x.holder h) x.event (steps_of h xs) (only h)),
)

or_more : (a b c : Bool) → (b ≡ true → c ≡ true) → (a || b) ≡ true → (a || c) ≡ true
or_more true b c h e = refl
or_more false b c h e = h e

asked_more : (take : Bool) (a : Bool) (n : ℕ) (e : Event) (es : List Event) (c : Bool) → a ≡ claims_at n e.step → (asks n es ≡ true → c ≡ true)
    → asks n (cond take (e ∷ es) es) ≡ true → (a || c) ≡ true
asked_more true a n e es c is h ask = or_more a (asks n es) c h (ap (λ b. b || asks n es) is ∙ ask)
asked_more false true n e es c is h ask = refl
asked_more false false n e es c is h ask = h ask

is_asked : (h n : ℕ) (order : List Entry) → asks n (steps_of h order) ≡ true → asked n order ≡ true
is_asked h n [] e = e
is_asked h n (x ∷ xs) e = asked_more (eqb x.holder h) (claims_at n x.event.step) n x.event (steps_of h xs) (asked n xs) refl (is_asked h n xs) e

-- a place that is held is still held after a claim
some_after : (o : Option ℕ) (a : ℕ) (s : Step) → IsClaim s → is_some o ≡ true → is_some (holder_after o a s) ≡ true
some_after None a (Claim p) is e = refl
some_after (Some b) a (Claim p) is e = refl
some_after o a (Release p) is e = absurd is
some_after o a (Look p) is e = absurd is

some_either : (b : Bool) (o k : Option ℕ) → is_some o ≡ true → is_some k ≡ true → is_some (cond b o k) ≡ true
some_either true o k e f = e
some_either false o k e f = f

stay_held : (m : ClaimMap) (order : List Entry) (p : Place) → AllClaims order → is_some (m p) ≡ true → is_some (last_map m (map request_of order) p) ≡ true
stay_held m [] p all e = e
stay_held m (x ∷ xs) p all e =
    stay_held (map_after m x.holder x.event.step) xs p all.1
    (some_either (eqb (index_of p) (index_of (target x.event.step))) (holder_after (m p) x.holder x.event.step) (m p) (some_after (m p) x.holder x.event.step all.0 e) e)

-- after a claim of a place, this place is held
none_free : (o : Option ℕ) (a : ℕ) (p q : Place) → is_some (holder_after o a (Claim q)) ≡ true
none_free None a p q = refl
none_free (Some b) a p q = refl

held_then : (b : Bool) (o k : Option ℕ) → b ≡ true → is_some o ≡ true → is_some (cond b o k) ≡ true
held_then true o k e f = f
held_then false o k e f = absurd (true≢false (sym e))

claim_holds : (m : ClaimMap) (a : ℕ) (s : Step) (p : Place) → claims_at (index_of p) s ≡ true → is_some (map_after m a s p) ≡ true
claim_holds m a (Claim q) p e = held_then (eqb (index_of p) (index_of q)) (holder_after (m p) a (Claim q)) (m p) e (none_free (m p) a p q)
claim_holds m a (Release q) p e = absurd (true≢false (sym e))
claim_holds m a (Look q) p e = absurd (true≢false (sym e))

held_at_end : (m : ClaimMap) (order : List Entry) (p : Place) → AllClaims order → asked (index_of p) order ≡ true → is_some (last_map m (map request_of order) p) ≡ true
held_at_end m [] p all e = absurd (true≢false (sym e))
held_at_end m (x ∷ xs) p all e =
    by_first (claims_at (index_of p) x.event.step) refl (λ rest. held_at_end (map_after m x.holder x.event.step) xs p all.1 rest)
  where
    by_first : (b : Bool) → claims_at (index_of p) x.event.step ≡ b → (asked (index_of p) xs ≡ true → is_some (last_map (map_after m x.holder x.event.step) (map request_of xs) p) ≡ true)
        → is_some (last_map (map_after m x.holder x.event.step) (map request_of xs) p) ≡ true
    by_first true is later = stay_held (map_after m x.holder x.event.step) xs p all.1 (claim_holds m x.holder x.event.step p is)
    by_first false is later = later (sym (ap (λ c. c || asked (index_of p) xs) is) ∙ e)

some_party : (o : Option ℕ) → is_some o ≡ true → (h : ℕ) × (is_party h o ≡ true)
some_party None e = absurd (true≢false (sym e))
some_party (Some h) e = (h, eq-eqb h h refl)

-- if the records have only claims, each place that was claimed is held
pub claimed_is_held : (words : List ℕ) (records : List (List Event)) → IsOneList words records → ((h : ℕ) → OnlyClaims (record_at records h))
    → (h : ℕ) (p : Place) → asks (index_of p) (record_at records h) ≡ true → IsHeld records p
claimed_is_held words records one only h p ask =
    let all = all_claims one.order (λ k. subst OnlyClaims (sym (one.own k)) (only k)) in
    let there = is_asked h (index_of p) one.order (ap (asks (index_of p)) (one.own h) ∙ ask) in
    let by = some_party (last_map no_claims (map request_of one.order) p) (held_at_end no_claims one.order p all there) in
    (by.0, sym (ends_of words records one by.0 p) ∙ by.1)
