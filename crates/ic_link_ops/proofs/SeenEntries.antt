-- This file proves what the entries of a table are after a write, if the words of the table can perhaps name only some of the
-- places.
use Rattle.std.proofs.Common.{◌≡◌, ◌≢◌, ℕ, ◌∷◌, ◌<◌, List, length, Bool, true, false, slice_set, slice_index_or, sym, ap, ◌∙◌, length-set}
use Rattle.std.proofs.Math.Seq.{map-set_same}
use Rattle.ic_link_ops.specs.Base.{Place, index_of, ChangesOnly, LinksAlso}
use Rattle.ic_link_ops.specs.PlainTables.{entry_at, table_with, nameable_table, values_beside, linked_by}
use Rattle.ic_link_ops.specs.Widths.{Width, nameable}
use Rattle.ic_link_ops.specs.Links.{value_of}
use Rattle.ic_link_ops.specs.EntryLaws.{linked_in_range}
use Rattle.ic_link_ops.specs.declared.link.Link.{Link}
use Rattle.ic_link_ops.proofs.LinkedSets.{everywhere}
use Rattle.ic_link_ops.proofs.EntryLemmas.{others_same, entry_same, entry_read}
use Rattle.ic_link_ops.proofs.WidthLemmas.{nameable_read, nameable_written}

module _ {E : Type 0} (w : Width) (d : E) where
  -- A write at the place p changes no entry of another place.
  pub others_seen : (es : List E) (p : Place) (e : E) (i : ℕ) → i ≡ index_of p → index_of p < length (nameable w es) → (q : Place) → q ≢ p
      → entry_at d (nameable w (slice_set es i e)) q ≡ entry_at d (nameable w es) q
  others_seen es p e i at_p covered q apart = ap (λ l. entry_at d l q) (nameable_written w es i e (rw at_p covered)) ∙ others_same d (nameable w es) p e i at_p q apart

  -- After the entry e is written at the place p, the entry of p is e.
  pub entry_set : (es : List E) (p : Place) (e : E) (i : ℕ) → i ≡ index_of p → index_of p < length (nameable w es) → entry_at d (nameable w (slice_set es i e)) p ≡ e
  entry_set es p e i at_p covered = ap (λ l. entry_at d l p) (nameable_written w es i e (rw at_p covered)) ∙ entry_same d (nameable w es) p e i at_p covered

  -- An entry that was read at the index of a covered place p is the entry of p.
  pub entry_seen : (es : List E) (p : Place) (e beyond : E) (i : ℕ) → i ≡ index_of p → index_of p < length (nameable w es) → e ≡ slice_index_or es i beyond
      → entry_at d (nameable w es) p ≡ e
  entry_seen es p e beyond i at_p covered read = entry_read d (nameable w es) p e beyond i at_p covered (read ∙ sym (nameable_read w es i beyond (rw at_p covered)))

module _ {E : Type 0} (w : Width) (d : E) where
  -- `says e` is what the entry e says of its place. If the new entry at p says of p what the old entry said, a write at p changes
  -- nothing that the entries say of any place.
  pub says_kept : {R : Type 0} (says : E → R) (es : List E) (p : Place) (old new beyond : E) (i : ℕ) → i ≡ index_of p → index_of p < length (nameable w es)
      → old ≡ slice_index_or es i beyond → says new ≡ says old → (q : Place) → says (entry_at d (nameable w (slice_set es i new)) q) ≡ says (entry_at d (nameable w es) q)
  says_kept says es p old new beyond i at_p covered read same q =
      everywhere (λ z. says (entry_at d (nameable w (slice_set es i new)) z) ≡ says (entry_at d (nameable w es) z)) p q
      (ap says (entry_set w d es p new i at_p covered) ∙ same ∙ ap says (sym (entry_seen w d es p old beyond i at_p covered read)))
      (λ apart. ap says (others_seen w d es p new i at_p covered q apart))

module _ {W V : Type 0} (printed : List V → List ℕ) where
  -- A write at the place p that keeps the value beside the link changes only the entry of p.
  pub changes_only : (w : Width) (d : Link W V) (es : List (Link W V)) (p : Place) (old new beyond : Link W V) (i : ℕ) → i ≡ index_of p → index_of p < length (nameable w es)
      → old ≡ slice_index_or es i beyond → value_of new ≡ value_of old → ChangesOnly (nameable_table w d printed es) (nameable_table w d printed (slice_set es i new)) p
  changes_only w d es p old new beyond i at_p covered read stays =
      let written = nameable_written w es i new (rw at_p covered) in
      let was : value_of new ≡ value_of (slice_index_or (nameable w es) i beyond) = stays ∙ ap value_of (read ∙ sym (nameable_read w es i beyond (rw at_p covered))) in
      let long = ap length written ∙ length-set (nameable w es) i new in
      let values = ap (λ l. printed (values_beside l)) written ∙ ap printed (map-set_same value_of (nameable w es) i new beyond was) in
      record {
        extent = λ k. record { places = long k; identity = values k };
        others = others_seen w d es p new i at_p covered;
      }

-- In a lent table, a write at p that keeps the value beside the link changes only the entry of p.
module _ {W V : Type 0} (printed : List V → List ℕ) where
  pub view_changes_only : {name : ℕ} (w : Width) (d : Link W V) (es : List (Link W V)) (p : Place) (old new beyond : Link W V) (i : ℕ) → i ≡ index_of p
      → index_of p < length (nameable w es) → old ≡ slice_index_or es i beyond → value_of new ≡ value_of old
      → ChangesOnly (nameable_table w d (λ vs. name ∷ printed vs) es) (nameable_table w d (λ vs. name ∷ printed vs) (slice_set es i new)) p
  view_changes_only {name} = changes_only (λ vs. name ∷ printed vs)

module _ {W V : Type 0} (is_linked : W → Bool) (w : Width) (d : Link W V) where
  -- A write that links the place p: before the write p is unlinked, and afterwards p is linked. Every other place is linked or
  -- unlinked as before.
  pub links_entry : {names names' : List ℕ} (es : List (Link W V)) (p : Place) (old new beyond : Link W V) (i : ℕ) → i ≡ index_of p → index_of p < length (nameable w es)
      → old ≡ slice_index_or es i beyond → linked_by is_linked old ≡ false → linked_by is_linked new ≡ true
      → LinksAlso (linked_by is_linked) (table_with d names (nameable w es)) (table_with d names' (nameable w (slice_set es i new))) p
  links_entry es p old new beyond i at_p covered read was is =
      let linked = linked_by is_linked in record {
        was = ap linked (entry_seen w d es p old beyond i at_p covered read) ∙ was;
        is = ap linked (entry_set w d es p new i at_p covered) ∙ is;
        others = λ q apart. ap linked (others_seen w d es p new i at_p covered q apart);
      }

  module _ (starts : linked_by is_linked d ≡ false) where
    -- If a place is linked, its index is below the number of covered places.
    pub linked_seen : (es : List (Link W V)) (p : Place) → linked_by is_linked (entry_at d (nameable w es) p) ≡ true → index_of p < length (nameable w es)
    linked_seen es p = linked_in_range (linked_by is_linked) d starts (nameable w es) (index_of p)

    -- The link `old` is read at the linked place p, and the link `new` is written there. If `change` turns what `old` says into
    -- what `new` says, it also turns what the entry of p said before the write into what the entry says afterwards.
    pub says_written : {R : Type 0} (says : Link W V → R) (change : R → R) (es : List (Link W V)) (p : Place) (old new beyond : Link W V) (i : ℕ)
        → i ≡ index_of p → linked_by is_linked (entry_at d (nameable w es) p) ≡ true → old ≡ slice_index_or es i beyond → says new ≡ change (says old)
        → says (entry_at d (nameable w (slice_set es i new)) p) ≡ change (says (entry_at d (nameable w es) p))
    says_written says change es p old new beyond i at_p linked read written =
        let covered = linked_seen es p linked in
        ap says (entry_set w d es p new i at_p covered) ∙ written ∙ ap (λ e. change (says e)) (sym (entry_seen w d es p old beyond i at_p covered read))

    -- A link that was read at a linked place says that its place is linked.
    pub linked_read : (es : List (Link W V)) (p : Place) (old beyond : Link W V) (i : ℕ) → i ≡ index_of p → linked_by is_linked (entry_at d (nameable w es) p) ≡ true
        → old ≡ slice_index_or es i beyond → linked_by is_linked old ≡ true
    linked_read es p old beyond i at_p linked read = ap (linked_by is_linked) (sym (entry_seen w d es p old beyond i at_p (linked_seen es p linked) read)) ∙ linked

  -- If the written link and the old link agree on whether the place is linked, the same places are linked after the write as
  -- before.
  pub keeps_linked : (es : List (Link W V)) (p : Place) (old new beyond : Link W V) (i : ℕ) → i ≡ index_of p → index_of p < length (nameable w es)
      → old ≡ slice_index_or es i beyond → linked_by is_linked new ≡ linked_by is_linked old
      → (q : Place) → linked_by is_linked (entry_at d (nameable w (slice_set es i new)) q) ≡ linked_by is_linked (entry_at d (nameable w es) q)
  keeps_linked = says_kept w d (linked_by is_linked)
