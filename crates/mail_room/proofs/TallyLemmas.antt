-- Lemmas about the number of places that came in the order of their sender, after one further place.
use Rattle.std.proofs.Common.{◌≡◌, ◌≢◌, ℕ, zero, suc, ◌+◌, ◌*◌, ◌/◌, ◌%◌, ◌<◌, ◌≤◌, eqb, cond, Bool, true, false, true≢false, List, [], ◌∷◌, ◌++◌, map, length, get_or, set, drop, All, refl, sym, ap, ◌∙◌, subst, arith, eq-eqb, eqb-true, ne_eqb, sum_by, replicate, slice_index_or}
use Rattle.std.specs.List.{range_with_len}
use Rattle.std.specs.Bool.{OnTrue, OnFalse}
use Rattle.std.proofs.lemmas.List.{get_or-set_same, get_or-set_other, length-set, length-replicate, length-map}
use Rattle.std.proofs.lemmas.List.Elements.{All-head, All-tail}
use Rattle.std.proofs.lemmas.List.FromFn.{length-range_with_len}
use Rattle.std.proofs.lemmas.List.Sums.{sum_by-cons}
use Rattle.std.proofs.lemmas.Nat.{div-add-mod', div_below}
use mathlib.Core.Logic.{dite}
use native.Mathlib.Decide.{ℕ_discrete}
use Rattle.ic_unsafe_ref.specs.declared.place.Place.{Place}
use Rattle.ic_unsafe_ref.specs.Places.{index_of}
use Rattle.ic_lock_free_stack.proofs.MomentLemmas.{by_test}
use Rattle.stack_uses.specs.Delivery.{of_sender, IsDelivered}
use Rattle.mail_room.specs.Tally.{in_order_from, in_order_of, IsNext}

-- one further place `p` of a sender comes. If `p` is the sender's next place, then the number of its places that came in order rises by 1, and otherwise
-- this number stays
next_more : (first : ℕ) (ps : List Place) (p : Place) → index_of p ≡ first + in_order_from first ps → in_order_from first (ps ++ p ∷ []) ≡ in_order_from first ps + 1
next_more first [] p e = ap (λ b. cond b 1 0) (eq-eqb (index_of p) first (omega (arith, e)))
next_more first (q ∷ ps) p e =
    by_test (λ b. index_of p ≡ first + cond b (in_order_from (first + 1) ps + 1) (in_order_from first ps)
    → cond b (in_order_from (first + 1) (ps ++ p ∷ []) + 1) (in_order_from first (ps ++ p ∷ [])) ≡ cond b (in_order_from (first + 1) ps + 1) (in_order_from first ps) + 1)
    (eqb (index_of q) first)
    (λ _ e. ap (λ n. n + 1) (next_more (first + 1) ps p (omega (arith, e))))
    (λ _ e. next_more first ps p e)
    e

other_more : (first : ℕ) (ps : List Place) (p : Place) → index_of p ≢ first + in_order_from first ps → in_order_from first (ps ++ p ∷ []) ≡ in_order_from first ps
other_more first [] p ne = ap (λ b. cond b 1 0) (ne_eqb (index_of p) first (λ e. ne (omega (arith, e))))
other_more first (q ∷ ps) p ne =
    by_test (λ b. index_of p ≢ first + cond b (in_order_from (first + 1) ps + 1) (in_order_from first ps)
    → cond b (in_order_from (first + 1) (ps ++ p ∷ []) + 1) (in_order_from first (ps ++ p ∷ [])) ≡ cond b (in_order_from (first + 1) ps + 1) (in_order_from first ps))
    (eqb (index_of q) first)
    (λ _ ne. ap (λ n. n + 1) (other_more (first + 1) ps p (λ e. ne (omega (arith, e)))))
    (λ _ ne. other_more first ps p ne)
    ne

-- if `p` is a place of the sender with the number `k`, then it is added to the places of this sender. The places of every other sender stay (`others_stay`)
own_more : (count k : ℕ) (ps : List Place) (p : Place) → index_of p / count ≡ k → of_sender count k (ps ++ p ∷ []) ≡ of_sender count k ps ++ p ∷ []
own_more count k [] p e = ap (λ b. cond b (p ∷ []) []) (eq-eqb (index_of p / count) k e)
own_more count k (q ∷ ps) p e =
    by_test (λ b. cond b (q ∷ of_sender count k (ps ++ p ∷ [])) (of_sender count k (ps ++ p ∷ [])) ≡ cond b (q ∷ of_sender count k ps) (of_sender count k ps) ++ p ∷ [])
    (eqb (index_of q / count) k)
    (λ _. ap (λ l. q ∷ l) (own_more count k ps p e))
    (λ _. own_more count k ps p e)

others_stay : (count k : ℕ) (ps : List Place) (p : Place) → index_of p / count ≢ k → of_sender count k (ps ++ p ∷ []) ≡ of_sender count k ps
others_stay count k [] p ne = ap (λ b. cond b (p ∷ []) []) (ne_eqb (index_of p / count) k ne)
others_stay count k (q ∷ ps) p ne =
    by_test (λ b. cond b (q ∷ of_sender count k (ps ++ p ∷ [])) (of_sender count k (ps ++ p ∷ [])) ≡ cond b (q ∷ of_sender count k ps) (of_sender count k ps))
    (eqb (index_of q / count) k)
    (λ _. ap (λ l. q ∷ l) (others_stay count k ps p ne))
    (λ _. others_stay count k ps p ne)

-- if no number of a sum changes, then the sum stays. If one of the numbers rises by 1, then the sum rises by 1
sum_same : (f g : ℕ → ℕ) (a n : ℕ) → ((k : ℕ) → a ≤ k → k < a + n → g k ≡ f k) → sum_by g (range_with_len a n) ≡ sum_by f (range_with_len a n)
sum_same f g a zero same = refl
sum_same f g a (suc n) same =
    let one = same a (omega arith) (omega arith) in
    let rest = sum_same f g (a + 1) n (λ k low high. same k (omega (arith, low)) (omega (arith, high))) in
    sum_by-cons g a (range_with_len (a + 1) n) ∙ ((λ i. one i + rest i) ∙ sym (sum_by-cons f a (range_with_len (a + 1) n)))

sum_more : (f g : ℕ → ℕ) (q a n : ℕ) → a ≤ q → q < a + n → g q ≡ f q + 1 → ((k : ℕ) → k ≢ q → g k ≡ f k)
    → sum_by g (range_with_len a n) ≡ sum_by f (range_with_len a n) + 1
sum_more f g q a zero low high more same = absurd (omega (arith, low, high))
sum_more f g q a (suc n) low high more same =
    let rest_of : (ℕ → ℕ) → ℕ = λ h. sum_by h (range_with_len (a + 1) n) in
    let both : g a + rest_of g ≡ (f a + rest_of f) + 1 = dite (ℕ_discrete a q)
    (λ e.
    let one : g a ≡ f a + 1 = subst (λ k. g k ≡ f k + 1) (sym e) more in
    let rest = sum_same f g (a + 1) n (λ k lo hi. same k (λ is. absurd (omega (arith, lo, e, is)))) in
    omega (arith, one, rest))
    (λ ne.
    let one = same a ne in
    let rest = sum_more f g q (a + 1) n (omega (arith, low, ne)) (omega (arith, high)) more same in
    omega (arith, one, rest)) in
    sum_by-cons g a (range_with_len (a + 1) n) ∙ (both ∙ ap (λ m. m + 1) (sym (sum_by-cons f a (range_with_len (a + 1) n))))

-- `numbers` has, for each sender, how many of its places came in order, and `all` is their sum
pub record IsTally (senders count : ℕ) (numbers : List ℕ) (all : ℕ) (came : List Place) : Type 0 where
  pub len : length numbers ≡ senders
  pub each : 0 < count → (k : ℕ) → k < senders → slice_index_or numbers k 0 ≡ in_order_from (k * count) (of_sender count k came)
  pub all_is : all ≡ in_order_of senders count came

pub tally_none : (senders count : ℕ) → IsTally senders count (replicate senders 0) 0 []
tally_none senders count = record {
  len = length-replicate senders 0;
  each = λ some k low. replicated 0 senders k low;
  all_is = sym (none senders count);
}
  where
    replicated : (z n k : ℕ) → k < n → slice_index_or (replicate n z) k z ≡ z
    replicated z zero k low = absurd (omega (arith, low))
    replicated z (suc n) zero low = refl
    replicated z (suc n) (suc k) low = replicated z n k (omega (arith, low))

    zeros : (a n : ℕ) → sum_by (λ (k : ℕ). 0) (range_with_len a n) ≡ 0
    zeros a zero = refl
    zeros a (suc n) = sum_by-cons (λ (k : ℕ). 0) a (range_with_len (a + 1) n) ∙ omega (arith, zeros (a + 1) n)

    none : (senders count : ℕ) → in_order_of senders count [] ≡ 0
    none senders count = by_test (λ b. let z : ℕ = 0 in cond b z (sum_by (λ (k : ℕ). 0) (range_with_len 0 senders)) ≡ z) (eqb count 0) (λ _. refl) (λ _. zeros 0 senders)

module _ (senders count : ℕ) (numbers : List ℕ) (all : ℕ) (came : List Place) (p : Place) (was : IsTally senders count numbers all came) where
  abbrev pub number : ℕ
  number = index_of p / count

  -- how many places of the sender with the number `k` came in order, among the places `ps`
  abbrev pub of_each : List Place → ℕ → ℕ
  of_each ps k = in_order_from (k * count) (of_sender count k ps)

  of_another : (k : ℕ) → k ≢ number → of_each (came ++ p ∷ []) k ≡ of_each came k
  of_another k ne = ap (in_order_from (k * count)) (others_stay count k came p (λ e. ne (sym e)))

  summed : 0 < count → (x : ℕ) → cond (eqb count 0) 0 x ≡ x
  summed some x = ap (λ b. cond b 0 x) (ne_eqb count 0 (omega (arith, some)))

  pub tally_next : IsNext numbers count (index_of p) → IsTally senders count (set numbers number (index_of p % count + 1)) (all + 1) (came ++ p ∷ [])
  tally_next is =
      let some : 0 < count = is.0 in
      let low : number < senders = (let l = was.len in let i = is.1 in omega (arith, l, i)) in
      let now : of_each came number ≡ index_of p % count = sym (was.each some number low) ∙ is.2 in
      let at : index_of p ≡ number * count + of_each came number = sym (div-add-mod' (index_of p) count) ∙ ap (λ n. number * count + n) (sym now) in
      let own : of_each (came ++ p ∷ []) number ≡ of_each came number + 1 =
      ap (in_order_from (number * count)) (own_more count number came p refl) ∙ next_more (number * count) (of_sender count number came) p at in
      record {
        len = length-set numbers number (index_of p % count + 1) ∙ was.len;
        each = λ _ k inside. dite (ℕ_discrete k number)
            (λ e. subst (λ j. slice_index_or (set numbers number (index_of p % count + 1)) j 0 ≡ of_each (came ++ p ∷ []) j) (sym e)
            (get_or-set_same numbers number (index_of p % count + 1) 0 is.1 ∙ (ap (λ n. n + 1) (sym now) ∙ sym own)))
            (λ ne. get_or-set_other numbers number k (index_of p % count + 1) 0 ne ∙ (was.each some k inside ∙ sym (of_another k ne)));
        all_is = ap (λ n. n + 1) (was.all_is ∙ summed some (sum_by (of_each came) (range_with_len 0 senders)))
            ∙ (sym (sum_more (of_each came) (of_each (came ++ p ∷ [])) number 0 senders (omega arith) (omega (arith, low)) own of_another)
            ∙ sym (summed some (sum_by (of_each (came ++ p ∷ [])) (range_with_len 0 senders))));
      }

  pub tally_other : (IsNext numbers count (index_of p) → ⊥) → IsTally senders count numbers all (came ++ p ∷ [])
  tally_other not =
      let same : 0 < count → (k : ℕ) → k < senders → of_each (came ++ p ∷ []) k ≡ of_each came k =
      (λ some k low. dite (ℕ_discrete k number)
      (λ e. subst (λ j. of_each (came ++ p ∷ []) j ≡ of_each came j) (sym e)
      (ap (in_order_from (number * count)) (own_more count number came p refl)
      ∙ other_more (number * count) (of_sender count number came) p
      (λ at. not (
        some,
        (let l = was.len in omega (arith, l, low, e)),
        was.each some number (omega (arith, low, e)) ∙ (let d = div-add-mod' (index_of p) count in omega (arith, at, d)),
      ))))
      (λ ne. of_another k ne)) in
      record {
        len = was.len;
        each = λ some k low. was.each some k low ∙ sym (same some k low);
        all_is = was.all_is ∙ by_test (λ b. (b ≡ false → 0 < count) → cond b 0 (sum_by (of_each came) (range_with_len 0 senders)) ≡ cond b 0 (sum_by (of_each (came ++ p ∷ [])) (range_with_len 0 senders)))
            (eqb count 0) (λ _ _. refl)
            (λ f some. sym (sum_same (of_each came) (of_each (came ++ p ∷ [])) 0 senders (λ k low high. same (some refl) k (omega (arith, high)))))
            (λ f. some_of count f);
      }
    where
      some_of : (n : ℕ) → eqb n 0 ≡ false → 0 < n
      some_of zero f = absurd (true≢false f)
      some_of (suc n) f = omega arith

  -- if a call of `is_next` was made with the index of the place `p`, then its result and the changed `numbers` give the tally with `p` added
  pub tally_more : (index : ℕ) → index_of p ≡ index → (new : List ℕ) (is_next : Bool) (sum : ℕ)
      → OnTrue is_next (IsNext numbers count index) → OnTrue is_next (new ≡ set numbers (index / count) (index % count + 1))
      → OnFalse is_next (IsNext numbers count index → ⊥) → OnFalse is_next (new ≡ numbers)
      → sum ≡ cond is_next (all + 1) all → IsTally senders count new sum (came ++ p ∷ [])
  tally_more index at new true sum next counted other same sum_is =
      subst (λ n. IsTally senders count new n (came ++ p ∷ [])) (sym sum_is)
      (subst (λ l. IsTally senders count l (all + 1) (came ++ p ∷ [])) (sym (counted ∙ ap (λ n. set numbers (n / count) (n % count + 1)) (sym at)))
      (tally_next (subst (IsNext numbers count) (sym at) next)))
  tally_more index at new false sum next counted other same sum_is =
      subst (λ n. IsTally senders count new n (came ++ p ∷ [])) (sym sum_is)
      (subst (λ l. IsTally senders count l all (came ++ p ∷ [])) (sym same)
      (tally_other (λ is. other (subst (IsNext numbers count) at is))))

-- if all `n` places of a sender came, in order, then the number of its places that came in order is `n`
whole_row : (first : ℕ) (ps : List Place) (n : ℕ) → map index_of ps ≡ range_with_len first n → in_order_from first ps ≡ n
whole_row first [] zero e = refl
whole_row first [] (suc n) e = absurd (let l = ap length e ∙ length-range_with_len first (suc n) in omega (arith, l))
whole_row first (p ∷ ps) zero e = absurd (let l = ap length e in omega (arith, l))
whole_row first (p ∷ ps) (suc n) e =
    let here : index_of p ≡ first = ap (λ l. get_or l 0 first) e in
    let after : in_order_from (first + 1) ps ≡ n = whole_row (first + 1) ps n (ap (drop 1) e) in
    ap (λ b. cond b (in_order_from (first + 1) ps + 1) (in_order_from first ps)) (eq-eqb (index_of p) first here) ∙ omega (arith, after)

sum_each : (f : ℕ → ℕ) (c a n : ℕ) → ((k : ℕ) → k < a + n → f k ≡ c) → sum_by f (range_with_len a n) ≡ n * c
sum_each f c a zero each = omega arith
sum_each f c a (suc n) each =
    let one = each a (omega arith) in
    let rest = sum_each f c (a + 1) n (λ k low. each k (omega (arith, low))) in
    sum_by-cons f a (range_with_len (a + 1) n) ∙ omega (arith, one, rest)

-- each place belongs to exactly one sender, so that the numbers of the senders' places add up to the number of all places
by_senders : (senders count : ℕ) (ps : List Place) → All (λ (p : Place). index_of p < senders * count) ps
    → sum_by (λ (k : ℕ). length (of_sender count k ps)) (range_with_len 0 senders) ≡ length ps
by_senders senders count [] inside = sum_each (λ (k : ℕ). 0) 0 0 senders (λ k low. refl) ∙ omega arith
by_senders senders count (p ∷ ps) inside =
    let here = All-head (λ (q : Place). index_of q < senders * count) p ps inside in
    let low : index_of p / count < senders = div_below (index_of p) count senders (some count here) here in
    let long : List Place → ℕ → ℕ = λ l k. length (of_sender count k l) in
    sum_more (long ps) (long (p ∷ ps)) (index_of p / count) 0 senders (omega arith) (omega (arith, low))
    (ap (λ b. length (cond b (p ∷ of_sender count (index_of p / count) ps) (of_sender count (index_of p / count) ps))) (eq-eqb (index_of p / count) (index_of p / count) refl) ∙ omega arith)
    (λ k ne. ap (λ b. length (cond b (p ∷ of_sender count k ps) (of_sender count k ps))) (ne_eqb (index_of p / count) k (λ e. ne (sym e))))
    ∙ (let rest = by_senders senders count ps (All-tail (λ (q : Place). index_of q < senders * count) p ps inside) in omega (arith, rest))
  where
    some : (n : ℕ) → index_of p < senders * n → 0 < n
    some zero here = absurd (omega (arith, here))
    some (suc n) here = omega arith

-- THE DELIVERED PLACES came in order, and they are all places that were sent: `senders * count` places
pub delivered_in_order : (senders count : ℕ) (came : List Place) → IsDelivered senders count came → in_order_of senders count came ≡ senders * count
delivered_in_order senders count came is =
    by_test (λ b. (b ≡ true → count ≡ 0) → cond b 0 (sum_by (λ (k : ℕ). in_order_from (k * count) (of_sender count k came)) (range_with_len 0 senders)) ≡ senders * count)
    (eqb count 0)
    (λ _ none. let e = none refl in omega (arith, ap (λ n. senders * n) e))
    (λ _ _. sum_each (λ (k : ℕ). in_order_from (k * count) (of_sender count k came)) count 0 senders
    (λ k low. whole_row (k * count) (of_sender count k came) count (is.rows k (omega (arith, low)))))
    (λ t. eqb-true count 0 t)

pub delivered_whole : (senders count : ℕ) (came : List Place) → IsDelivered senders count came → length came ≡ senders * count
delivered_whole senders count came is =
    sym (by_senders senders count came is.inside)
    ∙ sum_each (λ (k : ℕ). length (of_sender count k came)) count 0 senders
    (λ k low. sym (length-map (of_sender count k came) index_of) ∙ (ap length (is.rows k (omega (arith, low))) ∙ length-range_with_len (k * count) count))
