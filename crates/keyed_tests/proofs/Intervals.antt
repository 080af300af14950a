-- Lemmas for a loop that counts the intervals of a tree which pass a test.
use Rattle.std.proofs.Common.{◌≡◌, ◌+◌, ◌<◌, ℕ, suc, Bool, not, Option, Some, None, List, [], ◌∷◌, ◌++◌, length, refl, sym, ap, ◌∙◌, subst, arith, append_assoc, filter, nat_cmp}
use Rattle.std.proofs.lemmas.List.Filters.{length-filter_both}
use Rattle.ic_link_ops.specs.Prelude.{Place, Objects, first, IsDistinct, Table, ArePlaced}
use Rattle.ic_link_ops.specs.RedBlackTree.{Node, Represents}
use Rattle.ic_link_ops.proofs.Prelude.{one_sequence, few_places}
use Rattle.ic_rbtree.specs.Prelude.{IsSorted, keys_at, RepresentsSorted}
use Rattle.ic_augmented.proofs.AllOverlaps.{FirstFound, first_found, none_passes}

-- the start of an interval is its own key
abbrev pub own : ℕ → ℕ
own start = start

-- if a tree represents the sequence `s` and is sorted by the starts, then there is an object at each member of `s`, and the keys of `s` are in order
pub in_order_at : {E : Type 0} {n : E → Node} {t : Table E} {root : Option Place} {starts : Objects ℕ} {s : List Place} → Represents n t root s → RepresentsSorted own (Represents n t root) starts
    → ArePlaced starts s × IsSorted nat_cmp (keys_at own starts s)
in_order_at {starts = starts} shown q =
    let same = one_sequence q.placed.shown shown in
    (subst (ArePlaced starts) same q.placed.placed, subst (λ (t : List Place). IsSorted nat_cmp (keys_at own starts t)) same q.sorted)

module _ (test : Place → Bool) (s : List Place) where
  -- `count` members of `s` that pass the test have been counted, and `at` is the next member that passes, or none
  pub record IsCounted (count : ℕ) (at : Option Place) : Type 0 where
    pub front : List Place
    pub back : List Place
    pub same : s ≡ front ++ back
    pub next : at ≡ first (filter test back)
    pub counted : count + length (filter test back) ≡ length (filter test s)

  pub none_counted : {at : Option Place} → at ≡ first (filter test s) → IsCounted 0 at
  none_counted next = record { front = []; back = s; same = refl; next = next; counted = omega arith }

  module _ {count : ℕ} {at : Option Place} {p : Place} (k : IsCounted count at) (is : at ≡ Some p) where
    -- the next member that passes the test splits the rest of the sequence into the members before it and after it
    abbrev pub found : FirstFound test k.back p
    found = first_found test k.back p (sym k.next ∙ is)

    abbrev pub in_front : List Place
    in_front = k.front ++ found.front

    pub parted : s ≡ in_front ++ p ∷ found.back
    parted = k.same ∙ (ap (λ (t : List Place). k.front ++ t) found.same ∙ sym (append_assoc k.front found.front (p ∷ found.back)))

    rest_is : length (filter test k.back) ≡ suc (length (filter test found.back))
    rest_is = ap length found.passing

    pub one_more : {next : Option Place} → next ≡ first (filter test found.back) → IsCounted (count + 1) next
    one_more next = record {
      front = in_front ++ p ∷ [];
      back = found.back;
      same = parted ∙ sym (append_assoc in_front (p ∷ []) found.back);
      next = next;
      counted = omega (arith, k.counted, rest_is);
    }

    -- the count is below 8589934591, because the sequence has no place twice, and such a sequence has at most 8589934591 places
    pub few_counted : IsDistinct s → count < 8589934591
    few_counted distinct = omega (arith, k.counted, rest_is, length-filter_both test (λ q. not (test q)) (λ q. refl) s, few_places s distinct)

  -- if there is no next member, then the count is the number of all members that pass the test
  pub all_counted : {count : ℕ} {at : Option Place} (k : IsCounted count at) → at ≡ None → count ≡ length (filter test s)
  all_counted k none = let rest : length (filter test k.back) ≡ 0 = ap length (none_passes test k.back (sym k.next ∙ none)) in omega (arith, k.counted, rest)
