-- Lemmas on a walk along a list whose words may contain anything. The walk marks each place that it visits.
use Rattle.std.proofs.Common.{◌≡◌, ℕ, ◌+◌, ◌<◌, ◌≤◌, Bool, true, false, Option, Some, None, List, [], ◌∷◌, length, slice_set, refl, sym, ◌∙◌, ap, subst, arith, true≢false}
use Rattle.ic_link_ops.specs.Prelude.{Place, index_of, IsDistinct, first_or, first, last, Table, IsCovered}
use Rattle.ic_link_ops.specs.Chains.{IsChain, RepresentsChain}
use Rattle.ic_link_ops.proofs.Prelude.{absent_left, distinct_middle, chain_absent, few_places, stretch_length}
use Rattle.ic_check.specs.WholeTables.{AreUnmarked, MarksAlso, MarksLinked, IsGathered, is_marked}
use Rattle.ic_check.proofs.Checking.{Checks, checks_none, checks_more, checks_stands}
use Rattle.ic_check.proofs.Marking.{also_none, also_more, only_also, distinct_both, unmarked_apart, unmarked_before, unmarked_both, unmarked_back}

module _ {E : Type 0} (between : E → Option Place → Option Place → Type 0) where
  -- the walk has passed members that were not marked before, each of them once, and has marked them
  pub record Walks (t : Table E) (head before current : Option Place) (count : ℕ) (old marks : List Bool) : Type 0 where
    pub checks : Checks between t head before current count
    pub distinct : IsDistinct checks.done
    pub free : AreUnmarked old checks.done
    pub also : MarksAlso old marks checks.done

module _ {E : Type 0} {between : E → Option Place → Option Place → Type 0} (step : E → Option Place → Option Place) (law : (e : E) (b a : Option Place) → between e b a → step e b ≡ a) {t : Table E} where
  -- at the beginning of the walk no member is passed
  pub walks_none : {head current : Option Place} (marks : List Bool) → head ≡ current → Walks between t head None current 0 marks marks
  unfolding checks_none
  walks_none marks e = record { checks = checks_none step law e refl refl; distinct = tt; free = tt; also = also_none marks }

  module _ {head before current : Option Place} {count : ℕ} {old marks : List Bool} (k : Walks between t head before current count old marks) where
    -- the walk goes on to the place `ahead` if the place p is not marked, and the entry of p is between `before` and `ahead`. This step marks p
    pub walks_more : {ahead : Option Place} {p : Place} {more i : ℕ} → current ≡ Some p → is_marked marks p ≡ false → between (t.entry p) before ahead → more ≡ count + 1 → i ≡ index_of p → i < length marks
        → Walks between t head (Some p) ahead more old (slice_set marks i true)
    unfolding checks_more
    walks_more {p = p} {i = i} is free stands counts at few = record {
      checks = checks_more step law k.checks is stands counts;
      distinct = distinct_both k.checks.done (p ∷ []) k.distinct (tt, tt) (unmarked_apart k.also (p ∷ []) (free, tt));
      free = unmarked_both old k.checks.done (p ∷ []) k.free (unmarked_before k.also (p ∷ []) (free, tt));
      also = also_more p i k.also free at few;
    }

    -- if the walk comes to a marked place, the table represents no sequence without repetition whose members are all unmarked in `old`
    pub walks_met : {p : Place} → current ≡ Some p → is_marked marks p ≡ true → (s : List Place) → IsDistinct s → IsChain between t.entry None s None → head ≡ first s → AreUnmarked old s → ⊥
    walks_met {p} is met s distinct chain starts free =
        let l = checks_stands step law k.checks is s chain starts in
        let out = absent_left p k.checks.done l.0 (distinct_middle k.checks.done l.0 p (subst IsDistinct l.1 distinct)) in
        let was = (unmarked_back old k.checks.done (p ∷ l.0) (subst (AreUnmarked old) l.1 free)).0 in
        true≢false (sym met ∙ k.also.others p out ∙ was)

    -- the walk has passed at most 8,589,934,591 places, and no more places than the table covers
    pub walks_few : count ≤ 8589934591
    walks_few = omega (arith, few_places k.checks.done k.distinct, k.checks.counted)

    pub walks_covered : ((q : Place) (b a : Option Place) → between (t.entry q) b a → IsCovered t q) → count ≤ t.extent.places
    walks_covered covered =
        let few = stretch_length {between = between} t covered {b = None} {from = first k.checks.done} {to = last k.checks.done} {a = current} {w = k.checks.done} (record { distinct = k.distinct; chain = k.checks.chain; starts = refl; ends = refl }) in
        omega (arith, few, k.checks.counted)

    -- each place that the walk has marked is linked
    pub walks_only : (linked : E → Bool) → ((e : E) (b a : Option Place) → between e b a → linked e ≡ true) → MarksLinked linked t old marks
    walks_only linked held = only_also linked t k.also (λ p off. chain_absent between linked held t.entry None k.checks.done current p k.checks.chain off)

    -- if the walk has ended and the list stores the last passed place as its end, the table represents the passed members, and the walk has marked exactly
    -- these members
    pub walks_all : {W : Type 0} {kept : Option Place → W} {tail : W} → current ≡ None → tail ≡ kept before → IsGathered (RepresentsChain between kept t (record { head = head; tail = tail })) old marks count
    walks_all {kept = kept} over ends = (
      k.checks.done,
      record {
        distinct = k.distinct;
        chain = rw over at k.checks.chain;
        head = k.checks.starts ∙ ap (first_or k.checks.done) over;
        tail = ends ∙ ap kept k.checks.ends;
      },
      sym k.checks.counted,
      k.free,
      k.also,
    )
