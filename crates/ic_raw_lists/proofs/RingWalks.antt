-- Lemmas on a walk around a ring whose words may contain anything. Each place that the walk passes names the next place, and the next place names the passed
-- place.
use Rattle.std.proofs.Common.{◌≡◌, ◌≢◌, ℕ, ◌+◌, ◌<◌, Option, Some, None, List, [], ◌∷◌, ◌++◌, length, length-append, append_assoc, append-nil, true, refl, sym, ap, subst, ◌∙◌, arith}
use Rattle.ic_link_ops.specs.Prelude.{Place, IsAbsent, IsDistinct, first_or, last_or, last, Table, IsCovered}
use Rattle.ic_link_ops.specs.LinkedList.{Neighbors, neighbors_at, IsBetween, IsChain}
use Rattle.ic_link_ops.proofs.Prelude.{absent_both, absent_right, distinct_insert, first_or-append, last_not, last_or-append, some_same, chain_cut, chain_glue, stretch_length}
use Rattle.ic_ring.specs.Rings.{IsCircle}
use Rattle.ic_raw_lists.specs.RingOrders.{IsNotAmong}

module _ {E : Type 0} (n : E → Neighbors) where
  -- if y ∷ s is a chain, and the place x names the last place of this chain as its previous place, x is not in s
  next_absent : (t : Place → E) (y x : Place) (s : List Place) → IsChain n t (Some y) s (Some x) → (n (t x)).prev ≡ last_or (Some y) s → IsDistinct (y ∷ s) → IsAbsent x s
  next_absent t y x [] c back d = tt
  next_absent t y x (z ∷ s) c back d = (
    (λ e. last_not (Some z) s y (λ k. d.0.0 (sym (some_same k))) d.0.1 (sym back ∙ ap (λ q. (n (t q)).prev) e ∙ c.0.prev)),
    next_absent t z x s c.1 back d.1,
  )

  -- the walk has passed `count` places, the first of them the head, and has come to the place `at`
  pub record Passes (t : Table E) (head at : Place) (count : ℕ) : Type 0 where
    pub passed : List Place
    pub chain : IsChain n t.entry (neighbors_at n t head).prev passed (Some at)
    pub starts : Some head ≡ first_or passed (Some at)
    pub comes : (neighbors_at n t at).prev ≡ last_or (neighbors_at n t head).prev passed
    pub distinct : IsDistinct (passed ++ at ∷ [])
    pub counted : count ≡ length passed
    pub leads : (s : List Place) → IsCircle n t.entry (head ∷ s) → (rest : List Place) × (head ∷ s ≡ passed ++ at ∷ rest)

  -- at the beginning the walk is at the head and has passed no place
  pub passes_none : (t : Table E) (head : Place) → (k : Passes t head head 0) × (k.passed ≡ [])
  passes_none t head =
      (record { passed = []; chain = tt; starts = refl; comes = refl; distinct = (tt, tt); counted = refl; leads = λ s c. (s, refl) }, refl)

  module _ {t : Table E} {head at : Place} {count : ℕ} (k : Passes t head at count) where
    -- in each circle with this head, the next place after `at` is the first place that the walk has not come to, or the head if there is no such place
    pub stands_there : (s : List Place) (c : IsCircle n t.entry (head ∷ s)) → (neighbors_at n t at).next ≡ first_or (k.leads s c).0 (Some head)
    stands_there s c =
        let parts = (k.leads s c).1 in
        let whole = subst (λ r. IsChain n t.entry (last (head ∷ s)) r (Some head)) parts c.chain in
        (chain_cut (IsBetween n) t.entry (last (head ∷ s)) k.passed (at ∷ (k.leads s c).0) (Some head) whole).1.0.next

    -- if the words contain a circle with this head, the walk has passed fewer places than the table has
    pub few_passed : ((q : Place) → (neighbors_at n t q).linked ≡ true → IsCovered t q) → (s : List Place) → IsCircle n t.entry (head ∷ s) → count < t.extent.places
    few_passed covered s c =
        let few = stretch_length {between = IsBetween n} t (λ q b a h. covered q h.linked) {b = last (head ∷ s)} {from = Some head} {to = last (head ∷ s)} {a = Some head} {w = head ∷ s}
        (record { distinct = c.distinct; chain = c.chain; starts = refl; ends = refl }) in
        let l = k.leads s c in
        omega (arith, few, k.counted, ap length l.1, length-append k.passed (at ∷ l.0))

    -- the place `at` names `next` as its next place, and `next` names `at` as its previous place
    module _ {next : Place} (linked : (neighbors_at n t at).linked ≡ true) (leads : (neighbors_at n t at).next ≡ Some next) (back : (neighbors_at n t next).prev ≡ Some at) where
      chain_on : IsChain n t.entry (neighbors_at n t head).prev (k.passed ++ at ∷ []) (Some next)
      chain_on =
          chain_glue (IsBetween n) t.entry (neighbors_at n t head).prev k.passed (at ∷ []) (Some next) k.chain (record { linked = linked; prev = k.comes; next = leads }, tt)

      starts_on : Some head ≡ first_or (k.passed ++ at ∷ []) (Some next)
      starts_on = k.starts ∙ sym (first_or-append k.passed (at ∷ []) (Some next))

      comes_on : (neighbors_at n t next).prev ≡ last_or (neighbors_at n t head).prev (k.passed ++ at ∷ [])
      comes_on = back ∙ sym (last_or-append (neighbors_at n t head).prev k.passed (at ∷ []))

      new_place : (w : List Place) → IsDistinct w → IsChain n t.entry (neighbors_at n t head).prev w (Some next)
          → (neighbors_at n t next).prev ≡ last_or (neighbors_at n t head).prev w → Some head ≡ first_or w (Some next) → next ≢ head → IsAbsent next w
      new_place [] d c e starts other = tt
      new_place (y ∷ w) d c e starts other = ((λ h. other (h ∙ sym (some_same starts))), next_absent t.entry y next w c.1 e d)

      -- the walk goes on to the place `next` if `next` is not the head
      pub passes_more : next ≢ head → {more : ℕ} → more ≡ count + 1 → (l : Passes t head next more) × (l.passed ≡ k.passed ++ at ∷ [])
      passes_more other {more} is = (
        record {
          passed = k.passed ++ at ∷ [];
          chain = chain_on;
          starts = starts_on;
          comes = comes_on;
          distinct =
              distinct_insert (k.passed ++ at ∷ []) [] next (rw append-nil k.distinct)
              (rw append-nil (new_place (k.passed ++ at ∷ []) k.distinct chain_on comes_on starts_on other));
          counted = omega (arith, is, k.counted, length-append k.passed (at ∷ []));
          leads = λ s c. goes_on s c (k.leads s c).0 (k.leads s c).1 (stands_there s c);
        },
        refl,
      ) where
        goes_on : (s : List Place) (c : IsCircle n t.entry (head ∷ s)) (rest : List Place) → head ∷ s ≡ k.passed ++ at ∷ rest
            → (neighbors_at n t at).next ≡ first_or rest (Some head) → (r : List Place) × (head ∷ s ≡ (k.passed ++ at ∷ []) ++ next ∷ r)
        goes_on s c [] parts stands = absurd (other (some_same (sym leads ∙ stands)))
        goes_on s c (x ∷ rest) parts stands =
            let same : x ≡ next = some_same (sym stands ∙ leads) in (rest, parts ∙ ap (λ p. k.passed ++ at ∷ p ∷ rest) same ∙ sym (append_assoc k.passed (at ∷ []) (next ∷ rest)))

      -- if `next` is the head, the head and the other passed places are a circle
      pub passes_all : next ≡ head → (s : List Place) × IsCircle n t.entry (head ∷ s) × (length s ≡ count)
      passes_all same =
          let ends : (neighbors_at n t head).prev ≡ last (k.passed ++ at ∷ []) =
          ap (λ q. (neighbors_at n t q).prev) (sym same) ∙ back ∙ sym (last_or-append None k.passed (at ∷ [])) in
          closes (k.passed ++ at ∷ []) k.distinct chain_on starts_on ends (omega (arith, k.counted, length-append k.passed (at ∷ []))) where
            closes : (w : List Place) → IsDistinct w → IsChain n t.entry (neighbors_at n t head).prev w (Some next) → Some head ≡ first_or w (Some next)
                → (neighbors_at n t head).prev ≡ last w → length w ≡ count + 1 → (s : List Place) × IsCircle n t.entry (head ∷ s) × (length s ≡ count)
            closes [] d c starts ends long = absurd (omega (arith, long))
            closes (y ∷ w) d c starts ends long =
                let first_is : y ≡ head = sym (some_same starts) in
                let back_there : IsChain n t.entry (neighbors_at n t head).prev (y ∷ w) (Some head) = subst (λ q. IsChain n t.entry (neighbors_at n t head).prev (y ∷ w) (Some q)) same c in
                let round : IsChain n t.entry (last (y ∷ w)) (y ∷ w) (Some head) = subst (λ b. IsChain n t.entry b (y ∷ w) (Some head)) ends back_there in
                let chain : IsChain n t.entry (last (y ∷ w)) (y ∷ w) (Some y) = subst (λ q. IsChain n t.entry (last (y ∷ w)) (y ∷ w) (Some q)) (sym first_is) round in
                let circle : IsCircle n t.entry (y ∷ w) = record { distinct = d; chain = chain } in
                (w, subst (λ q. IsCircle n t.entry (q ∷ w)) first_is circle, omega (arith, long))

-- lemmas on `IsNotAmong`, for the place `apart` and the places that a walk has passed
pub none_of_nothing : (apart : Option Place) → IsNotAmong apart []
none_of_nothing None = tt
none_of_nothing (Some p) = tt

pub none_of_more : (apart : Option Place) (s : List Place) (at : Place) → IsNotAmong apart s → apart ≢ Some at → IsNotAmong apart (s ++ at ∷ [])
none_of_more None s at out other = tt
none_of_more (Some p) s at out other = absent_both p s (at ∷ []) out ((λ e. other (ap Some e)), tt)

pub is_among : (apart : Option Place) (s : List Place) (at : Place) (rest : List Place) → apart ≡ Some at → IsNotAmong apart (s ++ at ∷ rest) → ⊥
is_among None s at rest same out = let no : None ≡ Some at = same in cc
is_among (Some p) s at rest same out = (absent_right p s (at ∷ rest) out).0 (some_same same)

-- if w begins with s and then `at`, and w has one place more than s, w has no other place. So `apart` is not in w if it is neither in s nor `at`
pub none_of_all : (apart : Option Place) (w s : List Place) (at : Place) (rest : List Place) → w ≡ s ++ at ∷ rest → length w ≡ length s + 1 → IsNotAmong apart (s ++ at ∷ []) → IsNotAmong apart w
none_of_all apart w s at [] parts long out = rw parts out
none_of_all apart w s at (x ∷ rest) parts long out = absurd (omega (arith, long, ap length parts, length-append s (at ∷ x ∷ rest)))
