-- If a search by sums finds no member in a view of the words (`FindEnds`), it finds no member in the words.
use Rattle.std.proofs.Common.{◌≡◌, ℕ, List, [], ◌∷◌, Option, Some, None, inl, inr}
use Rattle.ic_link_ops.specs.Prelude.{Place}
use Rattle.ic_raw.specs.declared.table.RawTable.{RawTable}
use Rattle.ic_raw.specs.declared.words.RawThree.{RawThree}
use Rattle.ic_raw.specs.Tables.{raw_entries}
use Rattle.ic_raw.specs.Tree.{lent_table, table_of}
use Rattle.ic_raw_augmented.specs.declared.sums.RawSum.{RawSum}
use Rattle.ic_raw_augmented.specs.Ends.{EndsAbove, FindEnds, LeadsUp, OverlapEnds}

-- if w has the places above p in a view of the words, w has the places above p in the words
up_through : (t : RawTable RawThree) (p : Place) (w : List Place) → LeadsUp (lent_table t) p w → LeadsUp (table_of (raw_entries t)) p w
up_through t p [] h = h
up_through t p (x ∷ w) h = (h.0, up_through t x w h.1)

above_words : (t : RawTable RawThree) (at : Option Place) → EndsAbove (lent_table t) at → EndsAbove (table_of (raw_entries t)) at
above_words t None h = tt
above_words t (Some p) h = (h.0, up_through t p h.0 h.1)

pub above_back : (t : RawTable RawThree) {es : List RawThree} (at : Option Place) → raw_entries t ≡ es → EndsAbove (lent_table t) at → EndsAbove (table_of es) at
above_back t at view h = let back : EndsAbove (table_of (raw_entries t)) at = above_words t at h in rw (← view) back

-- if a search by sums finds no member in a view of the words, it finds no member in the words
find_words : (t : RawTable RawThree) (sums : List RawSum) (root at : Option Place) (bound : ℕ) → FindEnds (lent_table t) sums root at bound
    → FindEnds (table_of (raw_entries t)) sums root at bound
find_words t sums root None bound h = h
find_words t sums root (Some p) bound h = (h.0, above_words t (Some p) h.1)

pub find_back : (t : RawTable RawThree) {es : List RawThree} (sums : List RawSum) (root at : Option Place) (bound : ℕ) → raw_entries t ≡ es
    → FindEnds (lent_table t) sums root at bound → FindEnds (table_of es) sums root at bound
find_back t sums root at bound view h = let back : FindEnds (table_of (raw_entries t)) sums root at bound = find_words t sums root at bound h in rw (← view) back

pub overlap_back : (t : RawTable RawThree) {es : List RawThree} (sums : List RawSum) (root at : Option Place) (starts : List ℕ) (from to : ℕ) → raw_entries t ≡ es
    → OverlapEnds (lent_table t) sums root at starts from to → OverlapEnds (table_of es) sums root at starts from to
overlap_back t sums root at starts from to view h = rw (← view) (back h) where
  back : OverlapEnds (lent_table t) sums root at starts from to → OverlapEnds (table_of (raw_entries t)) sums root at starts from to
  back (inl ends) = inl (find_words t sums root at from ends)
  back (inr late) = inr (late.0, (λ S h i. late.1 S (record { linked = h.linked; left = h.left; right = h.right; parent = h.parent; starts = h.starts }) i), late.2)
