-- Lemmas on two trees of one table: the first tree has any number of members, and the second tree has at most one.
use Rattle.std.proofs.Common.{◌≡◌, ◌≢◌, ◌<◌, ◌≤◌, ◌+◌, ℕ, zero, suc, Option, None, List, [], ◌∷◌, ◌++◌, length, refl, sym, ap, ◌∙◌, subst, arith, inl, inr, Ordering}
use Rattle.std.specs.Bool.{⊤}
use Rattle.ic_link_ops.specs.Prelude.{Place, index_of, join, insert, IsAbsent, IsCovered, IsDisjoint, Table, Extent, one_at, times_in, leaf}
use Rattle.ic_link_ops.specs.RedBlackTree.{Node, Represents}
use Rattle.ic_link_ops.proofs.Prelude.{same_or_not, represents_nothing, disjoint_nothing, disjoint_sym, absent_times, one_at_other, times_absent, times_append}
use Rattle.ic_rbtree.specs.Ordered.{InsertsInOrder}
use Rattle.ic_augmented.specs.Prelude.{links_of, summaries_of, joined_in, room_of, IsSameAt, RepresentsConsistent, RepresentsAugmented, counts, Summaries}
use Rattle.ic_augmented.specs.Beside.{IsWrittenWithin}
use Rattle.ic_augmented.specs.Fresh.{RepresentsFresh}
use Rattle.ic_augmented.specs.declared.augmented.Augmented.{Augmented}
use Rattle.ic_augmented.specs.declared.augmented_table.AugmentedTable.{AugmentedTable}
use Rattle.ic_augmented.specs.declared.augmented_table.Cell.{Cell}
use Rattle.ic_augmented.proofs.BesideLemmas.{stale_within, summed_within}
use Rattle.ic_augmented.proofs.EditLemmas.{still_consistent, still_summed}
use Rattle.collections_tests.specs.Filled.{IsFilled}

-- if a table of summaries has room for no place, then no summary in it is fresh
pub no_room : {V S : Type 0} (join : V → Option S → Option S → S) (initial : V) (items : List (Cell V S)) → length items ≡ 0 → (q : Place) → (joined_in join initial items).fresh q ≡ None
no_room join initial [] e q = refl
no_room join initial (x ∷ items) e q = absurd (omega (arith, e))

cut_nothing : (front back : List Place) (p : Place) → front ++ back ≡ [] → front ++ p ∷ back ≡ p ∷ []
cut_nothing [] back p e = ap (λ (z : List Place). p ∷ z) e
cut_nothing (x ∷ front) back p e = let none : length (x ∷ (front ++ back)) ≡ 0 = ap length e in absurd (omega (arith, none))

-- `IsWrittenWithin` holds of a sequence of one place whose summary is stale, because the sequence has no fresh summary
within_itself : {S : Type 0} (z : Summaries S) (p : Place) → z.fresh p ≡ None → IsWrittenWithin z (p ∷ [])
within_itself z p stale = stale_within z [] p stale (λ q r member fresh up. absurd (omega (arith, member)))

pub nothing_there : {E : Type 0} {n : E → Node} (v : Table E) {root : Option Place} → root ≡ None → Represents n v root []
nothing_there v e = rw e (represents_nothing v)

-- if `q` is not in the sequence `s`, then each member `x` of `s` is another place than `q`
another : (q : Place) (s : List Place) → IsAbsent q s → (x : Place) → 1 ≤ times_in x s → x ≢ q
another q s out x m e = let none : times_in x s ≡ 0 = subst (λ (y : Place). times_in y s ≡ 0) (sym e) (absent_times q s out) in absurd (omega (arith, m, none))

-- if a tree represents the one member `p`, and `p` equals `q`, then the tree represents the one member `q`
pub named_so : {E : Type 0} {n : E → Node} {v : Table E} {root : Option Place} {p q : Place} → p ≡ q → Represents n v root (p ∷ []) → Represents n v root (q ∷ [])
named_so {n = n} {v = v} {root = root} same shown = subst (λ x. Represents n v root (x ∷ [])) same shown

module _ {E S : Type 0} {n : E → Node} where
  pub nothing_right : (z : Summaries S) (v : Table E) {root : Option Place} → root ≡ None → RepresentsConsistent n z v root []
  nothing_right z v e = (nothing_there v e, λ q member but x fresh. absurd (omega (arith, member)))

  empty_summed : (z : Summaries S) (v : Table E) → RepresentsAugmented n z v None []
  empty_summed z v = record {
    shows = record { tree = leaf; held = record { order = refl; distinct = tt; entries = tt }; starts = refl; shape = record { black_root = refl; no_red_pair = tt; even = tt } };
    summed = tt;
  }

  -- a tree without a root is summed
  nothing_summed : (z : Summaries S) (v : Table E) {root : Option Place} → root ≡ None → RepresentsAugmented n z v root []
  nothing_summed z v e = rw e (empty_summed z v)

  -- after an insert into an empty tree, the tree represents the inserted place alone, with a fresh summary
  pub alone : {at : Place → Ordering} {y : Summaries S} {old w : Table E} {root : Option Place} {p : Place} → InsertsInOrder (RepresentsFresh n y) at old w root [] p → RepresentsAugmented n y w root (p ∷ [])
  alone {y = y} {w = w} {root} {p} i = subst (RepresentsAugmented n y w root) (cut_nothing i.gap.front i.gap.back p i.same) i.inserted.shows.summed

  -- THE FIRST TREE KEEPS ITS FRESH SUMMARIES if the second tree gets its first member
  pub beside_stays : {v w : Table E} {z y : Summaries S} {first second : Option Place} {s : List Place} {q : Place} → RepresentsAugmented n z v first s → z.fresh q ≡ None → IsAbsent q s → second ≡ None
      → ((t : List Place) → Represents n v second t → IsWrittenWithin z (q ∷ t) → (x : Place) → IsAbsent x (q ∷ t) → IsSameAt z y x)
      → ((t u : List Place) (other : Option Place) → Represents n v second t → IsDisjoint u t → RepresentsConsistent n z v other u → RepresentsConsistent n y w other u) → RepresentsAugmented n y w first s
  beside_stays {v} {w} {z} {y} {first} {second} {s} {q} one stale out none same right =
      still_summed n v w z y first s (λ x m. same [] (nothing_there v none) (within_itself z q stale) x (another q s out x m, tt)) one
      (right [] s first (nothing_there v none) (disjoint_nothing s) (still_consistent n v z first s one))

  -- the first tree keeps its fresh summaries if the one member of the second tree is removed
  pub leaving_stays : {v w : Table E} {z y : Summaries S} {first second : Option Place} {s : List Place} {q : Place} → RepresentsAugmented n z v first s → RepresentsAugmented n z v second (q ∷ []) → IsAbsent q s
      → ((t : List Place) → Represents n v second t → IsWrittenWithin z t → (x : Place) → IsAbsent x t → IsSameAt z y x)
      → ((t u : List Place) (other : Option Place) → Represents n v second t → IsDisjoint u t → RepresentsConsistent n z v other u → RepresentsConsistent n y w other u) → RepresentsAugmented n y w first s
  leaving_stays {v} {w} {z} {y} {first} {second} {s} {q} one two out same right =
      still_summed n v w z y first s (λ x m. same (q ∷ []) two.shows (summed_within n two) x (another q s out x m, tt)) one
      (right (q ∷ []) s first two.shows (disjoint_sym (q ∷ []) s (out, tt)) (still_consistent n v z first s one))

module _ {N E A : Type 0} {n : E → Node} {table : N → Table E} where
  -- a tree without a root is filled up to the index 0 if every count is stale
  pub filled_none : {root : Option Place} {summed : Augmented N (AugmentedTable ⊤ ℕ A)} → root ≡ None → (table (links_of summed)).extent.places ≡ 4
      → ((q : Place) → IsCovered (table (links_of summed)) q → index_of q < room_of (summaries_of summed)) → ((q : Place) → (counts (summaries_of summed)).fresh q ≡ None)
      → IsFilled n table root summed 0
  filled_none {root} {summed} none covers room stale = record {
    covers = covers;
    room = room;
    members = [];
    below = λ q m. absurd (omega (arith, m));
    shown = nothing_summed (counts (summaries_of summed)) (table (links_of summed)) none;
    stale = λ q high. stale q;
  }

  -- a tree that is filled up to an index is also filled up to a higher index
  pub filled_on : {root : Option Place} {summed : Augmented N (AugmentedTable ⊤ ℕ A)} {k m : ℕ} → k ≤ m → IsFilled n table root summed k → IsFilled n table root summed m
  filled_on low f = record {
    covers = f.covers;
    room = f.room;
    members = f.members;
    below = λ q m. omega (arith, low, f.below q m);
    shown = f.shown;
    stale = λ q high. f.stale q (omega (arith, low, high));
  }

  module _ {root : Option Place} {old : Augmented N (AugmentedTable ⊤ ℕ A)} {k : ℕ} (f : IsFilled n table root old k) where
    -- no place with the index `k` or a higher index is a member
    pub absent_above : (q : Place) → k ≤ index_of q → IsAbsent q f.members
    absent_above q high = times_absent q f.members (none (times_in q f.members) refl) where
      none : (t : ℕ) → times_in q f.members ≡ t → times_in q f.members ≡ 0
      none zero e = e
      none (suc t) e = absurd (omega (arith, high, f.below q (omega (arith, e))))

    -- the place `p` with the index `k` is inserted into a tree that is filled up to `k`. If all summaries of the tree are fresh afterwards, and the insert
    -- has changed no other summary, then the tree is filled up to `k + 1`
    pub filled_more : {new_root : Option Place} {new : Augmented N (AugmentedTable ⊤ ℕ A)} {p : Place} {at : Place → Ordering} → index_of p ≡ k
        → InsertsInOrder (RepresentsFresh n (counts (summaries_of new))) at (table (links_of old)) (table (links_of new)) new_root f.members p
        → (table (links_of new)).extent ≡ (table (links_of old)).extent
        → ((q : Place) → index_of q < room_of (summaries_of old) → index_of q < room_of (summaries_of new))
        → ((s : List Place) → Represents n (table (links_of old)) root s → IsWrittenWithin (counts (summaries_of old)) (p ∷ s) → (q : Place) → IsAbsent q (p ∷ s)
        → IsSameAt (counts (summaries_of old)) (counts (summaries_of new)) q)
        → IsFilled n table new_root new (k + 1)
    filled_more {new_root} {new} {p} {at} next put extent covers same = record {
      covers = ap (λ (e : Extent). e.places) extent ∙ f.covers;
      room = λ q covered. covers q (f.room q (subst (λ (e : Extent). index_of q < e.places) extent covered));
      members = insert put.gap p;
      below = among_first;
      shown = put.inserted.shows.summed;
      stale = still_stale;
    } where
      among_first : (q : Place) → 1 ≤ times_in q (insert put.gap p) → index_of q < k + 1
      among_first q m = elim (same_or_not q p) [
        | inl e ↦ let same_index : index_of q ≡ index_of p = ap index_of e in omega (arith, same_index, next)
        | inr other ↦
            let was : times_in q (join put.gap) ≡ times_in q f.members = ap (times_in q) put.same in
            let low = f.below q (omega (arith, m, was, times_append q put.gap.front put.gap.back, times_append q put.gap.front (p ∷ put.gap.back), one_at_other q p other)) in
            omega (arith, low)
      ]

      still_stale : (q : Place) → k + 1 ≤ index_of q → (counts (summaries_of new)).fresh q ≡ None
      still_stale q high =
          let other : q ≢ p = λ e. let same_index : index_of q ≡ index_of p = ap index_of e in absurd (omega (arith, same_index, next, high)) in
          let inside = stale_within (counts (summaries_of old)) f.members p (f.stale p (omega (arith, next))) (summed_within n f.shown) in
          (same f.members f.shown.shows inside q (other, absent_above q (omega (arith, high)))).fresh ∙ f.stale q (omega (arith, high))
