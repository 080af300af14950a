-- These lemmas say what the buckets of a table have room for, and that an edit keeps the buckets.
use Rattle.std.proofs.Common.{◌≡◌, ℕ, Bool, Option, None, List, [], ◌∷◌, length, map, inl, inr, sym, ap, ◌∙◌}
use Rattle.std.specs.List.{AllByRecursion}
use Rattle.ic_link_ops.specs.Prelude.{Place, place_at, word_of, Table, IsLinked, IsNameable, Successor}
use Rattle.ic_link_ops.proofs.Prelude.{place_at_word, gap_after_linked}
use Rattle.ic_link_ops.proofs.Naming.{end_named}
use Rattle.ic_link_ops.proofs.SinglyLists.{followed_linked}
use Rattle.ic_hash_table.specs.declared.table.HashTable.{HashTable}
use Rattle.ic_hash_table.specs.Buckets.{AreRewritten}
use Rattle.ic_hash_table.specs.Chains.{RepresentsFrom}
use Rattle.ic_hash_table.specs.HashTable.{KeepsBuckets}

-- if a property holds for each linked place, it holds for the first member of a represented chain. If the property is that buckets have room for the place, a
-- bucket has room for this member
pub front_kept : {E : Type 0} {successor : E → Successor} {linked : E → Bool} → ((e : E) → (successor e).linked ≡ linked e) → {t : Table E} {can : Place → Type 0}
    → ((q : Place) → IsLinked linked t q → can q) → (front : Option Place) (s : List Place) → RepresentsFrom successor t front s → IsNameable can front
front_kept alike {can = can} named front s shown = end_named can front (λ q e. named q (gap_after_linked (followed_linked alike) [] s shown (sym e ∙ shown.head)))

-- `Rewrites` says what edits may make of a row of buckets, and `count` says that edits keep the number of buckets
module _ {A B : Type 0} {fronts : B → List (Option Place)} {Rewrites : B → B → Type 0} (count : (a b : B) → Rewrites a b → length (fronts b) ≡ length (fronts a)) where
  -- a table keeps its buckets if its new row is a rewriting of its old row
  pub keeps_buckets : {old new : HashTable A B} → Rewrites old.buckets new.buckets → KeepsBuckets fronts Rewrites old new
  keeps_buckets {old} {new} r = record { count = count old.buckets new.buckets r; rewrites = r }

-- plain words that were all 0 are all 0 again, if they were rewritten and none of them names a place
pub emptied_words : (vs ws : List ℕ) → AreRewritten place_at word_of vs ws → AllByRecursion (λ word. word ≡ 0) vs → AllByRecursion (λ front. front ≡ None) (map place_at ws)
    → AllByRecursion (λ word. word ≡ 0) ws
emptied_words [] [] r zero none = tt
emptied_words [] (w ∷ ws) r zero none = absurd r
emptied_words (v ∷ vs) [] r zero none = tt
emptied_words (v ∷ vs) (w ∷ ws) r zero none = (
  elim r.0 [
    | inl same ↦ same ∙ zero.0
    | inr new ↦ new ∙ ap word_of none.0
  ],
  emptied_words vs ws r.1 zero.1 none.1,
)

-- words that are all 0 name no place
pub zero_fronts : (ws : List ℕ) → AllByRecursion (λ word. word ≡ 0) ws → AllByRecursion (λ front. front ≡ None) (map place_at ws)
zero_fronts [] zero = tt
zero_fronts (w ∷ ws) zero = (ap place_at zero.0 ∙ place_at_word None, zero_fronts ws zero.1)
