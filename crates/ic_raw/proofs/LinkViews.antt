-- If a statement holds of a view of doubly linked places, it holds of the words that the caller lent. Each place has two words of 8 bytes or of 4
-- bytes.
use Rattle.std.proofs.Common.{◌≡◌, false, List, [], Option, ap}
use Rattle.ic_link_ops.specs.Prelude.{Place, Cut, Table, index_of, IsLinked, IsNameable, ChangesOnlyIn, IsUnlinked, LinkStep, HasRoom, nameable, nameable_has_room, Inserts, Removes, Replaces, Splices, Splits}
use Rattle.ic_link_ops.specs.declared.link.Words as of_words
use Rattle.ic_link_ops.specs.declared.link.NextWord as of_next
use Rattle.ic_link_ops.specs.declared.link.PrevPlace as of_prev
use Rattle.ic_link_ops.specs.EntryLaws.{linked_in_range}
use Rattle.ic_link_ops.specs.StepLaws.{trace_within}
use Rattle.ic_link_ops.proofs.Naming.{end_named}
use Rattle.ic_raw.specs.declared.table.RawTable.{RawTable}
use Rattle.ic_raw.specs.LinkWords.{LinkWords, lent_table, table_of, FreeIn}
use Rattle.ic_raw.specs.Calls.{Clears}
use Rattle.ic_raw.specs.Prelude.{IsNoneOrLinked, raw_entries, IsFree, Touches}
use Rattle.ic_raw.proofs.Views as views

-- `link_words` is the record of the ghost members of `PrevPlace` and of the traits above it
abbrev pub link_words : {W : Type 0} → of_words.Ghosts W → of_next.Ghosts W → of_prev.Ghosts W → LinkWords W
link_words words next prev = record {
  unlinked = words.unlinked;
  is_linked = words.is_linked;
  width = words.width;
  next_word = next.next_word;
  KeepsOthers = next.KeepsOthers;
  prev = prev.prev;
}

module _ {W : Type 0} (words : LinkWords W) where
  -- THE WORDS CAN NAME EACH LINKED PLACE
  pub linked_has_room : words.is_linked words.unlinked ≡ false → (t : RawTable W) (p : Place) → IsLinked words.is_linked (lent_table words t) p → HasRoom words.width p
  linked_has_room starts t p linked =
      nameable_has_room words.width (raw_entries t) p (linked_in_range words.is_linked words.unlinked starts (nameable words.width (raw_entries t)) (index_of p) linked)

  pub frame_back : (a b : RawTable W) {s : List Place} → ChangesOnlyIn (lent_table words a) (lent_table words b) s
      → ChangesOnlyIn (table_of words (raw_entries a)) (table_of words (raw_entries b)) s
  frame_back a b f = record { extent = ap (λ e. record { places = e.places; identity = [] }) f.extent; others = f.others }

  -- if a place is free in the words that the caller lent, it is free in their view
  pub free_viewed : {es : List W} (t : RawTable W) {p : Place} → raw_entries t ≡ es → FreeIn words es p → IsFree words.is_linked (lent_table words t) p
  free_viewed t {p} e free =
      let same : FreeIn words (raw_entries t) p = rw e free in record { covered = same.covered; unlinked = same.unlinked }

  -- if a place is free in a view, it is free in the words that the caller lent
  pub free_back : {es : List W} (t : RawTable W) {p : Place} → raw_entries t ≡ es → IsFree words.is_linked (lent_table words t) p → FreeIn words es p
  free_back t {p} e free =
      let back : FreeIn words (raw_entries t) p = record { covered = free.covered; unlinked = free.unlinked } in rw (← e) back

  -- if a place is unlinked in a view, it is unlinked in the words that the caller lent
  pub unlinked_back : (b : RawTable W) {fs : List W} (p : Place) → fs ≡ raw_entries b → IsUnlinked words.is_linked (lent_table words b) p
      → IsUnlinked words.is_linked (table_of words fs) p
  unlinked_back b p f off =
      let back : IsUnlinked words.is_linked (table_of words (raw_entries b)) p = off in rw f back

  -- what an edit touches in a view is what it touches in the words that the caller lent
  pub touched_back : (a b : RawTable W) {es fs : List W} {steps : List LinkStep} {places places' : List (Option Place)} → raw_entries a ≡ es → fs ≡ raw_entries b
      → places' ≡ places → Touches words.is_linked (lent_table words a) (lent_table words b) steps places
      → Touches words.is_linked (table_of words es) (table_of words fs) steps places'
  touched_back a b {steps} {places} e f same touched =
      let back : Touches words.is_linked (table_of words (raw_entries a)) (table_of words (raw_entries b)) steps places =
      record { steps_are = trace_within words.is_linked _ _ steps _ _ touched.steps_are; others = touched.others } in
      rw (← e, f, same) back

  -- the words can name an end that is none or a linked place
  pub end_has_room : words.is_linked words.unlinked ≡ false → (t : RawTable W) (at : Option Place) → IsNoneOrLinked words.is_linked (lent_table words t) at
      → IsNameable (HasRoom words.width) at
  end_has_room starts t at stands = end_named (HasRoom words.width) at (λ q e. linked_has_room starts t q (stands q e))

  -- A VIEW OF THE PLACES THAT THE WORDS CAN NAME is a view of its own, so that all lemmas about views hold of it
  abbrev pub nameable_view : RawTable W → RawTable W
  nameable_view t = record { entries = record { ref_ptr = t.entries.ref_ptr; ghost_name = t.entries.ghost_name; now = nameable words.width (raw_entries t) } }

  -- `kept` says that a table still represents a sequence if none of its entries changes
  module _ {H : Type 0} {Represents : Table W → H → List Place → Type 0}
      (kept : (t u : Table W) (h : H) (s : List Place) → Represents t h s → ((q : Place) → u.entry q ≡ t.entry q) → Represents u h s) where
    pub viewed : {es : List W} (t : RawTable W) {h : H} {s : List Place} → raw_entries t ≡ es → Represents (table_of words es) h s → Represents (lent_table words t) h s
    viewed t e shown = views.viewed words.unlinked kept (nameable_view t) (ap (nameable words.width) e) shown

    pub represented_back : {es : List W} (t : RawTable W) {h : H} {s : List Place} → raw_entries t ≡ es → Represents (lent_table words t) h s → Represents (table_of words es) h s
    represented_back t e shown = views.represented_back words.unlinked kept (nameable_view t) (ap (nameable words.width) e) shown

    module _ (a b : RawTable W) {es fs : List W} {h h' : H} (e : raw_entries a ≡ es) (f : fs ≡ raw_entries b) (k : h' ≡ h) where
      pub inserted_back : {cut : Cut} {p : Place} → Inserts Represents (lent_table words a) (lent_table words b) h cut p
          → Inserts Represents (table_of words es) (table_of words fs) h' cut p
      inserted_back done = views.inserted_back words.unlinked kept (nameable_view a) (nameable_view b) (ap (nameable words.width) e) (ap (nameable words.width) f) k done

      pub removed_back : {cut : Cut} → Removes Represents (lent_table words a) (lent_table words b) h cut → Removes Represents (table_of words es) (table_of words fs) h' cut
      removed_back done = views.removed_back words.unlinked kept (nameable_view a) (nameable_view b) (ap (nameable words.width) e) (ap (nameable words.width) f) k done

      pub replaced_back : {cut : Cut} {p : Place} → Replaces Represents (lent_table words a) (lent_table words b) h cut p
          → Replaces Represents (table_of words es) (table_of words fs) h' cut p
      replaced_back done = views.replaced_back words.unlinked kept (nameable_view a) (nameable_view b) (ap (nameable words.width) e) (ap (nameable words.width) f) k done

      pub spliced_back : {cut : Cut} {t : List Place} → Splices Represents (lent_table words a) (lent_table words b) h cut t
          → Splices Represents (table_of words es) (table_of words fs) h' cut t
      spliced_back done = views.spliced_back words.unlinked kept (nameable_view a) (nameable_view b) (ap (nameable words.width) e) (ap (nameable words.width) f) k done

      pub splits_back : {g g' : H} {s t : List Place} → g' ≡ g → Splits Represents (lent_table words a) (lent_table words b) h g s t
          → Splits Represents (table_of words es) (table_of words fs) h' g' s t
      splits_back l done = views.splits_back words.unlinked kept (nameable_view a) (nameable_view b) (ap (nameable words.width) e) (ap (nameable words.width) f) k l done

  pub clears_back : (a b : RawTable W) {es fs : List W} {s : List Place} → raw_entries a ≡ es → fs ≡ raw_entries b
      → Clears words.is_linked (lent_table words a) (lent_table words b) s → Clears words.is_linked (table_of words es) (table_of words fs) s
  clears_back a b e f done =
      views.clears_back words.unlinked words.is_linked (nameable_view a) (nameable_view b) (ap (nameable words.width) e) (ap (nameable words.width) f) done
