-- This file proves what the entries of a table are after a write, and after the table has grown.
use Rattle.std.proofs.Common.{◌≡◌, ◌≢◌, ℕ, ◌∷◌, ◌<◌, List, length, Option, Bool, true, false, slice_set, slice_index_or, sym, ap, ◌∙◌}
use Rattle.std.proofs.lemmas.List.{get_or-set_other, get_or_default, length-set}
use Rattle.std.proofs.Math.Seq.{map-set_same}
use Rattle.std.proofs.lemmas.Grind.{get_or-set_at}
use Rattle.ic_link_ops.specs.Base.{Place, index_of, place_at, word_of, ChangesOnly, LinksAlso}
use Rattle.ic_unsafe_ref.proofs.PlaceLemmas.{same_index, place_at_word}
use Rattle.ic_link_ops.specs.PlainTables.{entry_at, table_with, values_beside, linked_by}
use Rattle.ic_link_ops.specs.Links.{link_of, words_of, value_of}
use Rattle.ic_link_ops.specs.Readings.{successor_of, neighbors_of}
use Rattle.ic_link_ops.specs.EntryLaws.{linked_in_range}
use Rattle.ic_link_ops.specs.LinkedList.{IsBetween}
use Rattle.ic_link_ops.specs.declared.link.Link.{Link}

module _ {E : Type 0} (d : E) where
  -- A write at the place p changes no entry of another place.
  pub others_same : (es : List E) (p : Place) (e : E) (i : ℕ) → i ≡ index_of p → (q : Place) → q ≢ p → entry_at d (slice_set es i e) q ≡ entry_at d es q
  others_same es p e i at_p q apart = get_or-set_other es i (index_of q) e d (λ k. apart (same_index q p (k ∙ at_p)))

  -- After the entry e is written at the place p, the entry of p is e.
  pub entry_same : (es : List E) (p : Place) (e : E) (i : ℕ) → i ≡ index_of p → index_of p < length es → entry_at d (slice_set es i e) p ≡ e
  entry_same es p e i at_p covered = get_or-set_at es i (index_of p) e d (sym at_p) (rw at_p covered)

  -- An entry that was read at the index of the place p is the entry of p.
  pub entry_read : (es : List E) (p : Place) (e beyond : E) (i : ℕ) → i ≡ index_of p → index_of p < length es → e ≡ slice_index_or es i beyond → entry_at d es p ≡ e
  entry_read es p e beyond i at_p covered read = rw (← at_p) (get_or_default es i d beyond (rw at_p covered) ∙ sym read)

module _ {W V : Type 0} (printed : List V → List ℕ) where
  -- A write at the place p that keeps the value beside the link changes only the entry of p.
  pub changes_only : (d : Link W V) (es : List (Link W V)) (p : Place) (old new beyond : Link W V) (i : ℕ) → i ≡ index_of p → old ≡ slice_index_or es i beyond → value_of new ≡ value_of old
      → ChangesOnly (table_with d (printed (values_beside es)) es) (table_with d (printed (values_beside (slice_set es i new))) (slice_set es i new)) p
  changes_only d es p old new beyond i at_p read stays = record {
    extent = λ k. record { places = length-set es i new k; identity = printed (map-set_same value_of es i new beyond (stays ∙ ap value_of read) k) };
    others = others_same d es p new i at_p;
  }

-- In a lent table, a write at p that keeps the value beside the link changes only the entry of p.
module _ {W V : Type 0} (printed : List V → List ℕ) where
  pub view_changes_only : {name : ℕ} (d : Link W V) (es : List (Link W V)) (p : Place) (old new beyond : Link W V) (i : ℕ) → i ≡ index_of p → old ≡ slice_index_or es i beyond → value_of new ≡ value_of old
      → ChangesOnly (table_with d (name ∷ printed (values_beside es)) es) (table_with d (name ∷ printed (values_beside (slice_set es i new))) (slice_set es i new)) p
  view_changes_only {name} = changes_only (λ vs. name ∷ printed vs)

module _ {W V : Type 0} (is_linked : W → Bool) (d : Link W V) where
  -- A write that links the place p: before the write p is unlinked, and afterwards p is linked. Every other place is linked or
  -- unlinked as before.
  pub links_entry : {names names' : List ℕ} (es : List (Link W V)) (p : Place) (old new beyond : Link W V) (i : ℕ) → i ≡ index_of p → index_of p < length es
      → old ≡ slice_index_or es i beyond → linked_by is_linked old ≡ false → linked_by is_linked new ≡ true
      → LinksAlso (linked_by is_linked) (table_with d names es) (table_with d names' (slice_set es i new)) p
  links_entry es p old new beyond i at_p covered read was is =
      let linked = linked_by is_linked in record {
        was = ap linked (entry_read d es p old beyond i at_p covered read) ∙ was;
        is = ap linked (entry_same d es p new i at_p covered) ∙ is;
        others = λ q apart. ap linked (others_same d es p new i at_p q apart);
      }

  -- The link `old` is read at the linked place p, and the link `new` is written there. If `change` turns what `old` says into
  -- what `new` says, it also turns what the entry of p said before the write into what the entry says afterwards.
  pub says_written : (starts : linked_by is_linked d ≡ false) {R : Type 0} (says : Link W V → R) (change : R → R) (es : List (Link W V)) (p : Place) (old new beyond : Link W V) (i : ℕ)
      → i ≡ index_of p → linked_by is_linked (entry_at d es p) ≡ true → old ≡ slice_index_or es i beyond → says new ≡ change (says old)
      → says (entry_at d (slice_set es i new) p) ≡ change (says (entry_at d es p))
  says_written starts says change es p old new beyond i at_p linked read written =
      let covered = linked_in_range (linked_by is_linked) d starts es (index_of p) linked in
      ap says (entry_same d es p new i at_p covered) ∙ written ∙ ap (λ e. change (says e)) (sym (entry_read d es p old beyond i at_p covered read))

module _ {W : Type 0} (next_word : W → ℕ) (is_linked : W → Bool) where
  -- If the next word of a link is replaced by the word of a place, the link names that place as the next one, and nothing else
  -- changes.
  pub successor_set : (old new : W) (next : Option Place) → is_linked new ≡ is_linked old → next_word new ≡ word_of next
      → successor_of next_word is_linked (link_of new) ≡ record (successor_of next_word is_linked (link_of old)) { next = next }
  successor_set old new next stays names =
      let after : place_at (next_word new) ≡ next = ap place_at names ∙ place_at_word next in
      λ k. record { linked = stays k; next = after k }

  -- If the next word of a link with a previous place is replaced, the link names the new next place and still names its previous
  -- place.
  pub next_set : (prev : W → Option Place) (old new : W) (next : Option Place) → is_linked new ≡ is_linked old → next_word new ≡ word_of next → prev new ≡ prev old
      → neighbors_of next_word is_linked prev (link_of new) ≡ record (neighbors_of next_word is_linked prev (link_of old)) { next = next }
  next_set prev old new next stays names kept =
      let after : place_at (next_word new) ≡ next = ap place_at names ∙ place_at_word next in
      λ k. record { linked = stays k; prev = kept k; next = after k }

  -- If the previous place of a link is replaced, the link names the new previous place and still names its next place.
  pub prev_set : (prev : W → Option Place) (old new : W) (place : Option Place) → is_linked new ≡ is_linked old → next_word new ≡ next_word old → prev new ≡ place
      → neighbors_of next_word is_linked prev (link_of new) ≡ record (neighbors_of next_word is_linked prev (link_of old)) { prev = place }
  prev_set prev old new place stays kept names =
      λ k. record { linked = stays k; prev = names k; next = place_at (kept k) }

  -- If a link says that its place is linked and its next word is the word of a place, the link names that place as the next one.
  pub successor_is : (new : W) (next : Option Place) → is_linked new ≡ true → next_word new ≡ word_of next
      → successor_of next_word is_linked (link_of new) ≡ record { linked = true; next = next }
  successor_is new next linked names =
      let after : place_at (next_word new) ≡ next = ap place_at names ∙ place_at_word next in
      λ k. record { linked = linked k; next = after k }

  -- Let the link `new` belong to a linked place, have the word of `next` as its next word, and name `before` as the previous
  -- place. Then `new` says that its place is between `before` and `next`.
  pub between_is : {V : Type 0} (prev : W → Option Place) (new : Link W V) (before next : Option Place) → linked_by is_linked new ≡ true → next_word (words_of new) ≡ word_of next
      → prev (words_of new) ≡ before → IsBetween (neighbors_of next_word is_linked prev) new before next
  between_is prev new before next linked names kept =
      record { linked = linked; prev = kept; next = ap place_at names ∙ place_at_word next }
