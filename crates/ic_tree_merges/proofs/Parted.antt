-- A sequence is split in two by another sequence, one member after the other.
use Rattle.std.proofs.Common.{◌≡◌, Bool, true, false, not, ◌||◌, inl, inr, List, [], ◌∷◌, ◌++◌, refl, sym, ◌∙◌, ap, subst, append_assoc, append-nil, Ordering, Less, Equal, Greater}
use Rattle.std.specs.List.{AllByRecursion, filter}
use Rattle.std.specs.Cmp.{IsTotalOrder}
use Rattle.std.specs.Ordering.{is_lt, is_eq, ordering_reverse}
use Rattle.ic_rbtree.specs.Borders.{IsSorted}
use Rattle.ic_tree_merges.specs.Merges.{is_less, has_equal, Interleaves, Parts}
use Rattle.ic_tree_merges.proofs.Merged.{IsOrdered, ordered}

module _ {X : Type 0} (cmp : X → X → Ordering) where
  -- the sequence s is partly split by t: members of s went to `common` or to `rest`, and the members x of s are left. They are compared with y, the members of
  -- t that are left
  pub record Parting (s t common rest x y : List X) : Type 0 where
    pub interleaved : (a b : List X) → Interleaves a b x → Interleaves (common ++ a) (rest ++ b) s
    pub common_is : IsTotalOrder cmp → IsSorted cmp s → IsSorted cmp t → filter (has_equal cmp t) s ≡ common ++ filter (has_equal cmp t) x
    pub rest_is : IsTotalOrder cmp → IsSorted cmp s → IsSorted cmp t → filter (λ z. not (has_equal cmp t z)) s ≡ rest ++ filter (λ z. not (has_equal cmp t z)) x
    pub same : IsTotalOrder cmp → IsSorted cmp s → IsSorted cmp t → AllByRecursion (λ z. has_equal cmp t z ≡ has_equal cmp y z) x
    pub left : IsTotalOrder cmp → IsSorted cmp s → IsOrdered (is_less cmp) x
    pub right : IsTotalOrder cmp → IsSorted cmp t → IsOrdered (is_less cmp) y

  all_same : (f : X → Bool) (s : List X) → AllByRecursion (λ z. f z ≡ f z) s
  all_same f [] = tt
  all_same f (x ∷ s) = (refl, all_same f s)

  pub parting_first : (s t : List X) → Parting s t [] [] s t
  parting_first s t = record {
    interleaved = λ a b h. h;
    common_is = λ o h k. refl;
    rest_is = λ o h k. refl;
    same = λ o h k. all_same (has_equal cmp t) s;
    left = λ o h. ordered o s h;
    right = λ o k. ordered o t k;
  }

  pub parting_last : {s t common rest y : List X} → Parting s t common rest [] y → Parts cmp s t common rest
  parting_last {s} {t} {common} {rest} {y} h =
      let whole : Interleaves (common ++ []) (rest ++ []) s = h.interleaved [] [] (refl, refl) in
      record {
        interleaved = subst (λ (b : List X). Interleaves common b s) (append-nil rest) (subst (λ (a : List X). Interleaves a (rest ++ []) s) (append-nil common) whole);
        common_is = λ o m k. sym (h.common_is o m k ∙ append-nil common);
        rest_is = λ o m k. sym (h.rest_is o m k ∙ append-nil rest);
      }

  module _ (o : IsTotalOrder cmp) where
    -- if a is less than b, and c is not less than b, a and c are not equal
    apart_at : (a b c : X) → cmp a b ≡ Less → is_less cmp c b ≡ false → is_eq (cmp a c) ≡ false
    apart_at a b c less n = by (cmp a c) refl where
      by : (r : Ordering) → cmp a c ≡ r → is_eq (cmp a c) ≡ false
      by Less e = ap is_eq e
      by Equal e = let same : cmp a b ≡ cmp c b = o.congr a c b e in let yes : is_less cmp c b ≡ true = ap is_lt (sym same ∙ less) in absurd (cc)
      by Greater e = ap is_eq e

    none_equal : (a b : X) (t : List X) → cmp a b ≡ Less → AllByRecursion (λ c. is_less cmp c b ≡ false) t → has_equal cmp t a ≡ false
    none_equal a b [] less h = refl
    none_equal a b (c ∷ t) less h = rw (apart_at a b c less h.0) (none_equal a b t less h.1)

    pub less_than_all : (a b : X) (t : List X) → cmp a b ≡ Less → IsOrdered (is_less cmp) (b ∷ t) → has_equal cmp (b ∷ t) a ≡ false
    less_than_all a b t less h = rw (ap is_eq less) (none_equal a b t less h.0)

    -- if a is greater than b, and p is not less than a, p and b are not equal
    past : (a b p : X) → cmp a b ≡ Greater → is_less cmp p a ≡ false → is_eq (cmp p b) ≡ false
    past a b p greater n = by (cmp p b) refl where
      back : cmp b a ≡ Less
      back = o.antisymm b a ∙ ap ordering_reverse greater

      by : (r : Ordering) → cmp p b ≡ r → is_eq (cmp p b) ≡ false
      by Less e = ap is_eq e
      by Equal e = let same : cmp p a ≡ cmp b a = o.congr p b a e in let yes : is_less cmp p a ≡ true = ap is_lt (same ∙ back) in absurd (cc)
      by Greater e = ap is_eq e

    passed : (a b : X) (f : X → Bool) (y x : List X) → cmp a b ≡ Greater → AllByRecursion (λ p. is_less cmp p a ≡ false) x → AllByRecursion (λ z. f z ≡ has_equal cmp (b ∷ y) z) x
        → AllByRecursion (λ z. f z ≡ has_equal cmp y z) x
    passed a b f y [] greater h k = tt
    passed a b f y (p ∷ x) greater h k =
        (k.0 ∙ ap (λ (v : Bool). v || has_equal cmp y p) (past a b p greater h.0), passed a b f y x greater h.1 k.1)

    pub passed_all : (a b : X) (f : X → Bool) (y x : List X) → cmp a b ≡ Greater → IsOrdered (is_less cmp) (a ∷ x) → AllByRecursion (λ z. f z ≡ has_equal cmp (b ∷ y) z) (a ∷ x)
        → AllByRecursion (λ z. f z ≡ has_equal cmp y z) (a ∷ x)
    passed_all a b f y x greater h k =
        (k.0 ∙ ap (λ (v : Bool). v || has_equal cmp y a) (ap is_eq greater), passed a b f y x greater h.0 k.1)

  module _ {s t common rest : List X} {a : X} {x y : List X} (h : Parting s t common rest (a ∷ x) y) where
    -- if the member a is equal to a member of t, it goes to the common members
    parting_common : ((o : IsTotalOrder cmp) → IsOrdered (is_less cmp) y → has_equal cmp y a ≡ true) → Parting s t (common ++ a ∷ []) rest x y
    parting_common equal = record {
      interleaved = λ k b m. rw (append_assoc common (a ∷ []) k) (h.interleaved (a ∷ k) b (inl (k, refl, m)));
      common_is = λ o m k.
          h.common_is o m k ∙ (rw (test o m k) (sym (append_assoc common (a ∷ []) (filter (has_equal cmp t) x))));
      rest_is = λ o m k. h.rest_is o m k ∙ (rw (test o m k) refl);
      same = λ o m k. (h.same o m k).1;
      left = λ o m. (h.left o m).1;
      right = h.right;
    } where
      test : (o : IsTotalOrder cmp) → IsSorted cmp s → IsSorted cmp t → has_equal cmp t a ≡ true
      test o m k = (h.same o m k).0 ∙ equal o (h.right o k)

    parting_rest : ((o : IsTotalOrder cmp) → IsOrdered (is_less cmp) y → has_equal cmp y a ≡ false) → Parting s t common (rest ++ a ∷ []) x y
    parting_rest not_equal = record {
      interleaved = λ k b m. rw (append_assoc rest (a ∷ []) b) (h.interleaved k (a ∷ b) (inr (b, refl, m)));
      common_is = λ o m k. h.common_is o m k ∙ (rw (test o m k) refl);
      rest_is = λ o m k.
          h.rest_is o m k ∙ (rw (test o m k) (sym (append_assoc rest (a ∷ []) (filter (λ z. not (has_equal cmp t z)) x))));
      same = λ o m k. (h.same o m k).1;
      left = λ o m. (h.left o m).1;
      right = h.right;
    } where
      test : (o : IsTotalOrder cmp) → IsSorted cmp s → IsSorted cmp t → has_equal cmp t a ≡ false
      test o m k = (h.same o m k).0 ∙ not_equal o (h.right o k)

  module _ {s t common rest : List X} {a : X} {x : List X} where
    -- if no member of t is left, the member a goes to the rest
    pub parting_alone : Parting s t common rest (a ∷ x) [] → Parting s t common (rest ++ a ∷ []) x []
    parting_alone h = parting_rest h (λ o k. refl)

    module _ {b : X} {y : List X} (h : Parting s t common rest (a ∷ x) (b ∷ y)) where
      -- if the next member of t is greater than a, a goes to the rest (`parting_less`). If it is equal to a, a goes to the common members (`parting_equal`)
      pub parting_less : cmp a b ≡ Less → Parting s t common (rest ++ a ∷ []) x (b ∷ y)
      parting_less e = parting_rest h (λ o k. less_than_all o a b y e k)

      pub parting_equal : cmp a b ≡ Equal → Parting s t (common ++ a ∷ []) rest x (b ∷ y)
      parting_equal e = parting_common h (λ o k. rw (ap is_eq e) refl)

      -- if the next member of t is less than a, it is passed
      pub parting_greater : cmp a b ≡ Greater → Parting s t common rest (a ∷ x) y
      parting_greater e = record {
        interleaved = h.interleaved;
        common_is = h.common_is;
        rest_is = h.rest_is;
        same = λ o m k. passed_all o a b (has_equal cmp t) y x e (h.left o m) (h.same o m k);
        left = h.left;
        right = λ o k. (h.right o k).1;
      }
