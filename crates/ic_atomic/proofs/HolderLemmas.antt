-- Lemmas on holders, whose seats have one record each, and on seats to which the records of several holders are moved.
use Rattle.std.proofs.Common.{◌≡◌, ◌≢◌, zero, suc, ℕ, ◌+◌, ◌<◌, ◌≤◌, true, true≢false, List, [], ◌∷◌, ◌++◌, map, drop, append-nil, length, get_or, set, replicate, refl, sym, ap, ◌∙◌, subst, arith}
use Rattle.std.proofs.lemmas.List.{get_or-set_same, get_or-set_other, drop_more, nil_from_length}
use mathlib.Core.Logic.{dite}
use native.Mathlib.Decide.{ℕ_discrete}
use Rattle.ic_unsafe_ref.specs.declared.place.Place.{Place}
use Rattle.ic_atomic.specs.declared.step.Event.{Event}
use Rattle.ic_atomic.specs.declared.held.Size.{Size}
use Rattle.ic_atomic.specs.declared.held.HeldRecords.{HeldRecords}
use Rattle.ic_atomic.specs.declared.claims.Claims.{Claims}
use Rattle.ic_atomic.specs.declared.claims.Holder.{Holder}
use Rattle.ic_atomic.specs.Held.{hand, without_first, only_first}
use Rattle.ic_atomic.specs.Prelude.{holds, record_at, IsOneList}
use Rattle.ic_atomic.specs.Rule.{mine, Compares}
use Rattle.ic_atomic.specs.Holders.{holders_of, IsSeatOf, hand_of, hand_with, record_of, IsOf, AreOneList, AreWholeList, NoneTwice}

-- if the seat of the holder h is a seat of the claims and has only the record r, h was made with the claims, and r is its record
pub is_of : {A : Type 0} (claims : Claims A) (h : Holder) (r : List Event) → IsSeatOf claims h.seat → hand_of h.seat ≡ hand_with claims (r ∷ []) → IsOf claims h × (record_of h ≡ r)
is_of claims h r t e = (record { table = t; hand = e ∙ ap (λ (x : List Event). hand_with claims (x ∷ [])) (sym (ap mine e)) }, ap mine e)

-- if the first of n empty records is moved to a new seat, n - 1 empty records are left
module _ (size : Size) (n m : ℕ) (v : HeldRecords) (has : v ≡ hand size (replicate n [])) (is : n ≡ suc m) where
  pub dealt_rest : without_first v ≡ hand size (replicate m [])
  dealt_rest = ap without_first (has ∙ ap (λ k. hand size (replicate k [])) is)

  pub dealt_first : only_first v ≡ hand size ([] ∷ [])
  dealt_first = ap only_first (has ∙ ap (λ k. hand size (replicate k [])) is)

-- the seat of the holder h has exactly the records `records`
abbrev pub HasRecords : {A : Type 0} → Claims A → List (List Event) → Holder → Type 0
HasRecords claims records h = IsSeatOf claims h.seat × (hand_of h.seat ≡ hand_with claims records)

-- a seat has the records of all holders of hs from the index i on. Its first record moves back to the seat of the holder at i, and the others stay
module _ (size : Size) (hs : List Holder) (i : ℕ) (d : Holder) (lt : i < length hs) (v : HeldRecords) (has : v ≡ hand size (map record_of (drop i hs))) where
  gathered : v ≡ hand size (record_of (get_or hs i d) ∷ map record_of (drop (i + 1) hs))
  gathered = has ∙ ap (λ (l : List Holder). hand size (map record_of l)) (drop_more hs i d lt)

  pub rest_back : without_first v ≡ hand size (map record_of (drop (i + 1) hs))
  rest_back = ap without_first gathered

  pub first_back : only_first v ≡ hand size (record_of (get_or hs i d) ∷ [])
  first_back = ap only_first gathered

module _ {A : Type 0} (claims : Claims A) where
  -- if the first i holders have their records again and the next holder gets its record, the first i + 1 holders have their records
  pub one_back : (hs now : List Holder) (i : ℕ) (new : Holder) → i < length now
      → ((k : ℕ) (d : Holder) → k < i → HasRecords claims (record_of (get_or hs k d) ∷ []) (get_or now k d))
      → ((d : Holder) → HasRecords claims (record_of (get_or hs i d) ∷ []) new)
      → (k : ℕ) (d : Holder) → k < i + 1 → HasRecords claims (record_of (get_or hs k d) ∷ []) (get_or (set now i new) k d)
  one_back hs now i new inside done here k d below = dite (ℕ_discrete k i)
      (λ e. subst (λ j. HasRecords claims (record_of (get_or hs j d) ∷ []) (get_or (set now i new) j d)) (sym e) (subst (HasRecords claims (record_of (get_or hs i d) ∷ [])) (sym (get_or-set_same now i new d inside)) (here d)))
      (λ ne. subst (HasRecords claims (record_of (get_or hs k d) ∷ [])) (sym (get_or-set_other now i k new d ne)) (done k d (omega (arith, ne, below))))

  pub others_empty : (now : List Holder) (i n : ℕ) (new : Holder)
      → ((k : ℕ) (d : Holder) → i ≤ k → k < n → HasRecords claims [] (get_or now k d))
      → (k : ℕ) (d : Holder) → i + 1 ≤ k → k < n → HasRecords claims [] (get_or (set now i new) k d)
  others_empty now i n new empty k d above inside =
      let ne : k ≢ i = λ e. absurd (omega (arith, e, above)) in
      subst (HasRecords claims []) (sym (get_or-set_other now i k new d ne)) (empty k d (omega (arith, above)) inside)

  -- if each holder has its record again, the records of all holders are as they were before
  pub all_back : (hs now : List Holder) → length now ≡ length hs
      → ((k : ℕ) (d : Holder) → k < length hs → HasRecords claims (record_of (get_or hs k d) ∷ []) (get_or now k d))
      → map record_of now ≡ map record_of hs
  all_back [] [] long back = refl
  all_back [] (y ∷ ys) long back = absurd (omega (arith, long))
  all_back (x ∷ xs) [] long back = absurd (omega (arith, long))
  all_back (x ∷ xs) (y ∷ ys) long back =
      let one : record_of y ≡ record_of x = ap mine (back 0 x (omega arith)).1 in
      let rest = all_back xs ys (omega (arith, long)) (λ k d h. back (suc k) d (omega (arith, h))) in
      λ i. one i ∷ rest i

  -- if the records rs were compared with all others (`Compares`), rs and the records of all other holders can be merged into one list of steps
  pub reported : (rs : List (List Event)) (v : HeldRecords) → v ≡ hand_with claims rs → Compares v → AreOneList claims rs
  reported rs v has c =
      let here : Compares (hand_with claims rs) = subst Compares has c in record {
        others = here.others;
        all = here.all;
        words = here.words;
        places = omega (arith, here.counted, claims.counted, claims.room);
        one = here.one;
      }

  -- if rs are the records of all holders, rs alone can be merged into one list of steps
  pub told_whole : (rs : List (List Event)) → AreOneList claims rs → length rs ≡ holders_of claims → AreWholeList claims rs
  told_whole rs one all =
      let none : one.others ≡ [] = nil_from_length one.others (omega (arith, one.all, all)) in record {
        words = one.words;
        places = one.places;
        one = subst (IsOneList one.words) (ap (λ l. rs ++ l) none ∙ append-nil rs) one.one;
      }

held_in : (p : Place) (rs others : List (List Event)) (h : ℕ) → holds p (record_at rs h) ≡ true → holds p (record_at (rs ++ others) h) ≡ true
held_in p [] others h e = absurd (true≢false (sym e))
held_in p (r ∷ rs) others zero e = e
held_in p (r ∷ rs) others (suc h) e = held_in p rs others h e

-- if the records rs and `others` can be merged into one list of steps, no two different holders with records in rs hold the same place
pub none_twice : (words : List ℕ) (rs others : List (List Event)) → IsOneList words (rs ++ others) → NoneTwice rs
none_twice words rs others one h k p a b = one.apart h k p (held_in p rs others h a) (held_in p rs others k b)
