-- Lists that are read by `get_elem?`.
use Rattle.std.proofs.Common.{◌≡◌, ◌≢◌, ℕ, zero, suc, ◌+◌, ◌*◌, ◌<◌, ◌≤◌, eqb, false, true, true≢false, ◌⊎◌, inl, inr, List, [], ◌∷◌, ◌++◌, map, length, get_or, set, All, Contains, refl, sym, ap, ◌∙◌, arith, eq-eqb, lt_of_not-le}
use Rattle.std.specs.List.{IsDistinct}
use Rattle.std.proofs.lemmas.List.Elements.{All-cons, All-nil}
use Rattle.std.proofs.lemmas.Map.Keys.{apart_from_distinct}
use mathlib.Core.Logic.{dite}
use native.Mathlib.Decide.{dec_le}
use mathlib.Core.Option.{some, some-injective, some-ne-none}
use lib.ListN.{get_elem?}
use Rattle.atomic_table.proofs.Lists.{at_map}

module _ {A : Type 0} where
  pub at_or : (l : List A) (i : ℕ) (a d : A) → get_elem? l i ≡ some a → get_or l i d ≡ a
  at_or [] i a d e = absurd (some-ne-none a (sym e))
  at_or (x ∷ xs) zero a d e = some-injective x a e
  at_or (x ∷ xs) (suc i) a d e = at_or xs i a d e

  pub at_inside : (l : List A) (i : ℕ) (a : A) → get_elem? l i ≡ some a → i < length l
  at_inside [] i a e = absurd (some-ne-none a (sym e))
  at_inside (x ∷ xs) zero a e = omega arith
  at_inside (x ∷ xs) (suc i) a e = let r = at_inside xs i a e in omega arith

  -- what is true of the element at each index is true of all elements
  pub each_all : (P : A → Type 0) (l : List A) → ((i : ℕ) (a : A) → get_elem? l i ≡ some a → P a) → All P l
  each_all P [] h = All-nil P
  each_all P (x ∷ xs) h = All-cons P x xs (h 0 x refl) (each_all P xs (λ i a e. h (suc i) a e))

  pub all_each : (P : A → Type 0) (l : List A) → All P l → (i : ℕ) (a : A) → get_elem? l i ≡ some a → P a
  all_each P l h i a e = Rattle.std.proofs.Common.subst P (at_or l i a a e) (h i a (at_inside l i a e))

  -- if one element is changed and f has the same value for it, the values of f for the whole list stay
  pub map_set : {B : Type 0} (f : A → B) (l : List A) (i : ℕ) (a b : A) → get_elem? l i ≡ some a → f b ≡ f a → map f (set l i b) ≡ map f l
  map_set f [] i a b e same = refl
  map_set f (x ∷ xs) zero a b e same = ap (λ y. y ∷ map f xs) (same ∙ ap f (sym (some-injective x a e)))
  map_set f (x ∷ xs) (suc i) a b e same = ap (λ l. f x ∷ l) (map_set f xs i a b e same)

-- if no two elements of a list have the same name `f a`, then elements at different indexes have different names
module _ {A : Type 0} where
  named_before : (f : A → ℕ) (l : List A) (i j : ℕ) (a b : A) → IsDistinct eqb (map f l) → get_elem? l i ≡ some a → get_elem? l j ≡ some b → i < j → f a ≢ f b
  named_before f l i j a b once at there before e =
      let x = at_or (map f l) i (f a) 0 (at_map f l i a at) in
      let y = at_or (map f l) j (f b) 0 (at_map f l j b there) in
      let z = apart_from_distinct eqb (map f l) i j 0 once before (at_inside (map f l) j (f b) (at_map f l j b there)) in
      true≢false (sym (eq-eqb (get_or (map f l) i 0) (get_or (map f l) j 0) (x ∙ (e ∙ sym y))) ∙ z)

  pub named_apart : (f : A → ℕ) (l : List A) (i j : ℕ) (a b : A) → IsDistinct eqb (map f l) → get_elem? l i ≡ some a → get_elem? l j ≡ some b → j ≢ i → f b ≢ f a
  named_apart f l i j a b once at there ne = dite (dec_le i j)
      (λ le. λ e. named_before f l i j a b once at there (omega (arith, le, ne)) (sym e))
      (λ nle. named_before f l j i b a once there at (omega (arith, nle)))

  pub contains_at : (f : A → ℕ) (l : List A) (i : ℕ) (a : A) → get_elem? l i ≡ some a → Contains (map f l) (f a)
  contains_at f l i a at = let there = at_map f l i a at in (i, at_inside (map f l) i (f a) there, at_or (map f l) i (f a) (f a) there)
