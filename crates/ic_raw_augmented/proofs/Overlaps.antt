-- A search by sums finds the first interval that ends after `from`. If this interval starts before `to`, it is the first that overlaps [from, to), and
-- otherwise no interval overlaps.
use Rattle.std.proofs.Common.{◌≡◌, ◌≢◌, ◌≤◌, ◌<◌, ◌&&◌, nat_lt, ℕ, Bool, true, false, cond, Some, None, List, [], ◌∷◌, ◌++◌, map, max, refl, sym, ap, ◌∙◌, subst, arith, inl, inr, lt-ltb, le-ltb, filter, nat_cmp, Greater}
use Rattle.std.proofs.Math.Nat.{le-max_left, le-max_right, max-le}
use Rattle.std.proofs.lemmas.List.Elements.{filter-append}
use Rattle.std.specs.Cmp.{nat_cmp_is}
use Rattle.ic_link_ops.specs.Prelude.{Place, first}
use Rattle.ic_rbtree.specs.Borders.{IsSorted}
use Rattle.ic_raw_augmented.specs.declared.sums.Kind.TheVariants.{Greatest}
use Rattle.ic_raw_augmented.specs.Find.{IsFirstBeyond, overlaps}
use Rattle.ic_raw_augmented.specs.Sums.{total}
use Rattle.ic_raw_augmented.proofs.Totals.{below_or_not, total_push}

and_false : (b : Bool) → b && false ≡ false
and_false true = refl
and_false false = refl

module _ (start end : Place → ℕ) (from to : ℕ) where
  abbrev test : Place → Bool
  test q = overlaps start end from to q

  drops : (q : Place) (s : List Place) → test q ≡ false → filter test (q ∷ s) ≡ filter test s
  drops q s e = ap (λ (b : Bool). cond b (q ∷ filter test s) (filter test s)) e

  ends_early : (q : Place) → end q ≤ from → test q ≡ false
  ends_early q h = ap (λ (b : Bool). nat_lt (start q) to && b) (le-ltb from (end q) h) ∙ and_false (nat_lt (start q) to)

  starts_late : (q : Place) → to ≤ start q → test q ≡ false
  starts_late q h = ap (λ (b : Bool). b && nat_lt from (end q)) (le-ltb (start q) to h)

  not_later : (q r : Place) → nat_cmp (start q) (start r) ≢ Greater → start q ≤ start r
  not_later q r h = elim (below_or_not (start r) (start q)) [
    | inl less ↦ absurd (h (sym (nat_cmp_is (start q) (start r) Greater less)))
    | inr more ↦ more
  ]

  sorted_tail : (x : Place) (s : List Place) → IsSorted nat_cmp (map start (x ∷ s)) → IsSorted nat_cmp (map start s)
  sorted_tail x [] h = tt
  sorted_tail x (y ∷ s) h = h.1

  sorted_after : (f g : List Place) → IsSorted nat_cmp (map start (f ++ g)) → IsSorted nat_cmp (map start g)
  sorted_after [] g h = h
  sorted_after (x ∷ f) g h = sorted_after f g (sorted_tail x (f ++ g) h)

  -- no interval that ends at `from` or earlier overlaps [from, to). If the starts are sorted and one interval starts at `to` or later, neither this interval
  -- nor a later one overlaps
  all_early : (s : List Place) → total Greatest end s ≤ from → filter test s ≡ []
  all_early [] h = refl
  all_early (q ∷ s) h =
      let here = le-max_left (end q) (total Greatest end s) in
      let rest = le-max_right (end q) (total Greatest end s) in
      drops q s (ends_early q (omega (arith, h, here))) ∙ all_early s (omega (arith, h, rest))

  all_late : (q : Place) (s : List Place) → to ≤ start q → IsSorted nat_cmp (map start (q ∷ s)) → filter test (q ∷ s) ≡ []
  all_late q [] h sorted = drops q [] (starts_late q h)
  all_late q (r ∷ s) h sorted = let next = not_later q r sorted.0 in drops q (r ∷ s) (starts_late q h) ∙ all_late r s (omega (arith, h, next)) sorted.1

  module _ (s : List Place) where
    pub none_overlaps : IsFirstBeyond Greatest end [] from s None → None ≡ first (filter test s)
    none_overlaps h = sym (ap first (all_early s h))

    module _ (m : Place) (h : IsFirstBeyond Greatest end [] from s (Some m)) where
      ends_late : from < end m
      ends_late = elim (below_or_not from (end m)) [
        | inl more ↦ more
        | inr less ↦
            let push = total_push Greatest end h.0 m in
            let low : max (total Greatest end h.0) (end m) ≤ from = max-le h.3 less in
            let hi = h.4 in
            absurd (omega (arith, push, low, hi))
      ]

      rest_is : filter test s ≡ filter test (m ∷ h.1)
      rest_is = ap (filter test) h.2 ∙ (filter-append test h.0 (m ∷ h.1) ∙ ap (λ (y : List Place). y ++ filter test (m ∷ h.1)) (all_early h.0 h.3))

      pub it_overlaps : start m < to → Some m ≡ first (filter test s)
      it_overlaps less =
          let yes : test m ≡ true = ap (λ (b : Bool). b && nat_lt from (end m)) (lt-ltb (start m) to less) ∙ lt-ltb from (end m) ends_late in
          sym (ap first (rest_is ∙ ap (λ (b : Bool). cond b (m ∷ filter test h.1) (filter test h.1)) yes))

      pub it_does_not : to ≤ start m → IsSorted nat_cmp (map start s) → None ≡ first (filter test s)
      it_does_not late sorted =
          sym (ap first (rest_is ∙ all_late m h.1 late (sorted_after h.0 (m ∷ h.1) (subst (λ (y : List Place). IsSorted nat_cmp (map start y)) h.2 sorted))))
