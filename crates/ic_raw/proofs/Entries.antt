-- These lemmas say how the entries of a table are read after words are written.
use Rattle.std.proofs.Common.{◌≡◌, ℕ, List, Bool, true, false, Option, slice_set, slice_index_or, ◌+◌, ◌%◌, ◌<◌, length, nat_eq, eqb-true, eq-eqb, sym, ap, ◌∙◌, arith, length-set}
use Rattle.ic_link_ops.specs.Prelude.{Place, index_of, word_of, place_at, ChangesOnly, IsNameable, entry_at, table_with, Width, narrow, HasRoom, nameable}
use Rattle.ic_unsafe_ref.specs.PlaceWords.{IsWord}
use Rattle.ic_unsafe_ref.proofs.PlaceLemmas.{place_at_word, word_at, word_fits}
use Rattle.ic_link_ops.specs.EntryLaws.{linked_in_range}
use Rattle.ic_link_ops.proofs.EntryLemmas.{entry_same, entry_read, others_same}
use Rattle.ic_link_ops.proofs.SeenEntries.{others_seen, entry_set, entry_seen}
use Rattle.ic_link_ops.proofs.WidthLemmas.{nameable_written, word_kept}
use Rattle.ic_raw.specs.Words.{number_in, place_in, narrow_number_in, narrow_place_in}

-- a write at p changes only the entry of p
pub changes_only : {E : Type 0} (d : E) {identity : List ℕ} (es : List E) (p : Place) (e : E) (i : ℕ) → i ≡ index_of p
    → ChangesOnly (table_with d identity es) (table_with d identity (slice_set es i e)) p
changes_only d {identity} es p e i at_p = record {
  extent = ap (λ (n : ℕ). record { places = n; identity = identity }) (length-set es i e);
  others = others_same d es p e i at_p;
}

-- the number in any word is 0 or the number of a place, so that it can be read as the number of the place that the word names
pub number_fits : (v : ℕ) → IsWord (number_in v)
number_fits v = (omega arith, omega arith)

pub number_read : (v : ℕ) → word_of (place_in v) ≡ number_in v
number_read v = word_at (number_in v) (number_fits v)

-- the word that a call writes for a place names this place
pub place_kept : (p : Option Place) → place_in (word_of p) ≡ p
place_kept p =
    let fits = word_fits p in
    let same : number_in (word_of p) ≡ word_of p = omega (arith, fits.0, fits.1) in
    ap place_at same ∙ place_at_word p

-- the number in any word of 4 bytes is 0 or the number of a place. If words of 4 bytes can name a place, the word that a call writes for the place
-- names it
pub narrow_number_fits : (v : ℕ) → IsWord (narrow_number_in v)
narrow_number_fits v = (omega arith, omega arith)

pub narrow_number_read : (v : ℕ) → word_of (narrow_place_in v) ≡ narrow_number_in v
narrow_number_read v = word_at (narrow_number_in v) (narrow_number_fits v)

pub narrow_place_kept : (p : Option Place) → IsNameable (HasRoom narrow) p → narrow_place_in (word_of p) ≡ p
narrow_place_kept p room =
    let fits = word_fits p in
    let small = word_kept narrow p room in
    let same : narrow_number_in (word_of p) ≡ word_of p = omega (arith, fits.0, fits.1, small) in
    ap place_at same ∙ place_at_word p

-- a word as a call writes it names its place. The word has the mark of a linked place if it is written as the word for the next place
pub named : (v : ℕ) (place : Option Place) → v ≡ word_of place → place_in v ≡ place
named v place e = ap place_in e ∙ place_kept place

pub named_marked : (v : ℕ) (next : Option Place) → v ≡ word_of next + 1 → (nat_eq (v % 2) 1 ≡ true) × (place_in v ≡ next)
named_marked v next e =
    let fits = word_fits next in
    let number : number_in v ≡ word_of next = omega (arith, e, fits.0, fits.1) in
    let marked : v % 2 ≡ 1 = omega (arith, e, fits.0, fits.1) in
    (eq-eqb (v % 2) 1 marked, ap place_at number ∙ place_at_word next)

pub narrow_named : (v : ℕ) (place : Option Place) → v < 4294967296 → v ≡ word_of place → narrow_place_in v ≡ place
narrow_named v place small e =
    let fits = word_fits place in
    let number : narrow_number_in v ≡ word_of place = omega (arith, e, small, fits.0, fits.1) in
    ap place_at number ∙ place_at_word place

pub narrow_named_marked : (v : ℕ) (next : Option Place) → v < 4294967296 → v ≡ word_of next + 1 → (nat_eq (v % 2) 1 ≡ true) × (narrow_place_in v ≡ next)
narrow_named_marked v next small e =
    let fits = word_fits next in
    let number : narrow_number_in v ≡ word_of next = omega (arith, e, small, fits.0, fits.1) in
    let marked : v % 2 ≡ 1 = omega (arith, e, fits.0, fits.1) in
    (eq-eqb (v % 2) 1 marked, ap place_at number ∙ place_at_word next)

-- ONE COMPARISON is enough to know that the word v has the mark of a linked place, and which place v names. The number in v is n
pub is_led : (v n : ℕ) (next : Option Place) → IsWord n → n + v % 2 ≡ word_of next + 1 → (nat_eq (v % 2) 1 ≡ true) × (place_at n ≡ next)
is_led v n next even same =
    let fits = word_fits next in
    let marked : v % 2 ≡ 1 = omega (arith, same, even.1, fits.1) in
    let number : n ≡ word_of next = omega (arith, same, marked) in
    (eq-eqb (v % 2) 1 marked, ap place_at number ∙ place_at_word next)

pub leads : (v n : ℕ) (next : Option Place) → IsWord n → nat_eq (v % 2) 1 ≡ true → next ≡ place_at n → n + v % 2 ≡ word_of next + 1
leads v n next even marked is =
    let one : v % 2 ≡ 1 = eqb-true (v % 2) 1 marked in
    let number : n ≡ word_of next = sym (ap word_of is ∙ word_at n even) in
    omega (arith, one, number)

-- if two places have the same word, they are equal
pub one_word : (a b : Option Place) {v w : ℕ} → v ≡ word_of a → w ≡ word_of b → v ≡ w → a ≡ b
one_word a b e f k = sym (place_at_word a) ∙ ap place_at (sym e ∙ k ∙ f) ∙ place_at_word b

pub same_word : (a b : Option Place) {v w : ℕ} → v ≡ word_of a → w ≡ word_of b → nat_eq v w ≡ true → a ≡ b
same_word a b {v} {w} e f k = one_word a b e f (eqb-true v w k)

module _ {E : Type 0} (is_linked : E → Bool) (d : E) (starts : is_linked d ≡ false) where
  -- A WRITE AT A LINKED PLACE: the words `old` were read at the place, and `new` is written. If `change` turns what `old` says into what `new` says,
  -- it does the same for the place's entry
  pub says_written : {R : Type 0} (says : E → R) (change : R → R) (es : List E) (p : Place) (old new beyond : E) (i : ℕ) → i ≡ index_of p
      → is_linked (entry_at d es p) ≡ true → old ≡ slice_index_or es i beyond → says new ≡ change (says old)
      → says (entry_at d (slice_set es i new) p) ≡ change (says (entry_at d es p))
  says_written says change es p old new beyond i at_p linked read written =
      let covered = linked_in_range is_linked d starts es (index_of p) linked in
      ap says (entry_same d es p new i at_p covered) ∙ written ∙ ap (λ e. change (says e)) (sym (entry_read d es p old beyond i at_p covered read))

-- THE LEMMAS FOR WORDS OF ONE WIDTH are about a table that has only the places that words of this width can name
module _ {E : Type 0} (w : Width) (d : E) where
  -- a write at p changes only the entry of p
  pub changes_seen : {identity : List ℕ} (es : List E) (p : Place) (e : E) (i : ℕ) → i ≡ index_of p → index_of p < length (nameable w es)
      → ChangesOnly (table_with d identity (nameable w es)) (table_with d identity (nameable w (slice_set es i e))) p
  changes_seen {identity} es p e i at_p covered = record {
    extent = ap (λ (n : ℕ). record { places = n; identity = identity }) (ap length (nameable_written w es i e (rw at_p covered)) ∙ length-set (nameable w es) i e);
    others = others_seen w d es p e i at_p covered;
  }

  module _ (is_linked : E → Bool) (starts : is_linked d ≡ false) where
    -- a linked place is one of the places that the words can name
    pub seen_covered : (es : List E) (p : Place) → is_linked (entry_at d (nameable w es) p) ≡ true → index_of p < length (nameable w es)
    seen_covered es p = linked_in_range is_linked d starts (nameable w es) (index_of p)

    -- the words that are read at the index of a linked place are those of a linked place
    pub seen_linked : (es : List E) (p : Place) (old beyond : E) (i : ℕ) → i ≡ index_of p → is_linked (entry_at d (nameable w es) p) ≡ true → old ≡ slice_index_or es i beyond
        → is_linked old ≡ true
    seen_linked es p old beyond i at_p linked read = ap is_linked (sym (entry_seen w d es p old beyond i at_p (seen_covered es p linked) read)) ∙ linked

    -- the words `old` were read at a linked place, and `new` is written. If `change` turns what `old` says into what `new` says, it does the same for
    -- the place's entry
    pub seen_written : {R : Type 0} (says : E → R) (change : R → R) (es : List E) (p : Place) (old new beyond : E) (i : ℕ) → i ≡ index_of p
        → is_linked (entry_at d (nameable w es) p) ≡ true → old ≡ slice_index_or es i beyond → says new ≡ change (says old)
        → says (entry_at d (nameable w (slice_set es i new)) p) ≡ change (says (entry_at d (nameable w es) p))
    seen_written says change es p old new beyond i at_p linked read written =
        let covered = seen_covered es p linked in
        ap says (entry_set w d es p new i at_p covered) ∙ written ∙ ap (λ e. change (says e)) (sym (entry_seen w d es p old beyond i at_p covered read))
