-- If a statement holds of a view of a table, it holds of the words that the caller lent.
use Rattle.std.proofs.Common.{◌≡◌, ◌↔◌, Bool, Option, List, [], inl, refl, ap, subst, Ordering}
use Rattle.ic_link_ops.specs.Prelude.{Place, Cut, Table, ChangesOnlyIn, IsUnlinked, entry_at, table_of, Inserts, Removes, Replaces, Splices, Splits}
use Rattle.ic_rbtree.specs.Ordered.{InsertsInOrder}
use Rattle.ic_raw.specs.declared.table.RawTable.{RawTable}
use Rattle.ic_raw.specs.Calls.{Clears, OnlyUnlinks}
use Rattle.ic_raw.specs.Gaps.{NamesFree}
use Rattle.ic_raw.specs.Tables.{raw_entries, raw_table, IsFree}

module _ {W : Type 0} (unlinked : W) where
  pub frame_back : (a b : RawTable W) {s : List Place} → ChangesOnlyIn (raw_table unlinked a) (raw_table unlinked b) s
      → ChangesOnlyIn (table_of unlinked (raw_entries a)) (table_of unlinked (raw_entries b)) s
  frame_back a b f = record { extent = ap (λ e. record { places = e.places; identity = [] }) f.extent; others = f.others }

  -- if a place is free in the words that the caller lent, it is free in their view
  pub free_viewed : {is_linked : W → Bool} {es : List W} (t : RawTable W) {p : Place} → raw_entries t ≡ es → IsFree is_linked (table_of unlinked es) p
      → IsFree is_linked (raw_table unlinked t) p
  free_viewed {is_linked} {es} t {p} e free =
      let same : IsFree is_linked (table_of unlinked (raw_entries t)) p = rw e free in record { covered = same.covered; unlinked = same.unlinked }

  -- a place that the caller names is free in a view exactly if it is free in the words that the caller lent
  pub free_same : {is_linked : W → Bool} {es : List W} (t : RawTable W) {place named : Option Place} → raw_entries t ≡ es → place ≡ named
      → NamesFree is_linked (raw_table unlinked t) place ↔ NamesFree is_linked (table_of unlinked es) named
  free_same {is_linked} t {place} {named} e is =
      let seen = NamesFree is_linked (raw_table unlinked t) place in
      let same : seen ↔ NamesFree is_linked (table_of unlinked (raw_entries t)) place = (
        (λ x. (x.0, x.1, record { covered = x.2.covered; unlinked = x.2.unlinked })),
        (λ x. (x.0, x.1, record { covered = x.2.covered; unlinked = x.2.unlinked })),
      ) in
      subst (λ es. seen ↔ NamesFree is_linked (table_of unlinked es) named) e
      (subst (λ at. seen ↔ NamesFree is_linked (table_of unlinked (raw_entries t)) at) is same)

  -- `kept` says that a table still represents a sequence if none of its entries changes
  module _ {H : Type 0} {Represents : Table W → H → List Place → Type 0}
      (kept : (t u : Table W) (h : H) (s : List Place) → Represents t h s → ((q : Place) → u.entry q ≡ t.entry q) → Represents u h s) where
    -- a view represents each sequence that the words represent
    pub viewed : {es : List W} (t : RawTable W) {h : H} {s : List Place} → raw_entries t ≡ es → Represents (table_of unlinked es) h s → Represents (raw_table unlinked t) h s
    viewed t e shown = kept _ _ _ _ shown (λ q. ap (λ es. entry_at unlinked es q) e)

    -- the words that the caller lent represent each sequence that their view represents
    pub represented_back : {es : List W} (t : RawTable W) {h : H} {s : List Place} → raw_entries t ≡ es → Represents (raw_table unlinked t) h s → Represents (table_of unlinked es) h s
    represented_back t {h} {s} e shown =
        let back : Represents (table_of unlinked (raw_entries t)) h s = kept _ _ _ _ shown (λ q. refl) in
        rw (← e) back

    -- an edit of a view is an edit of the words that the caller lent, once the list is written back
    pub inserted_back : (a b : RawTable W) {es fs : List W} {h h' : H} {cut : Cut} {p : Place} → raw_entries a ≡ es → fs ≡ raw_entries b → h' ≡ h
        → Inserts Represents (raw_table unlinked a) (raw_table unlinked b) h cut p → Inserts Represents (table_of unlinked es) (table_of unlinked fs) h' cut p
    inserted_back a b {h} {cut} {p} e f k i =
        let back : Inserts Represents (table_of unlinked (raw_entries a)) (table_of unlinked (raw_entries b)) h cut p =
        record { shows = kept _ _ _ _ i.shows (λ q. refl); frame = frame_back a b i.frame } in
        rw (← e, f, k) back

    pub ordered_back : (at : Place → Ordering) (p : Place) (a b : RawTable W) {es fs : List W} {h h' : H} {s : List Place} → raw_entries a ≡ es → fs ≡ raw_entries b → h' ≡ h
        → InsertsInOrder Represents at (raw_table unlinked a) (raw_table unlinked b) h s p → InsertsInOrder Represents at (table_of unlinked es) (table_of unlinked fs) h' s p
    ordered_back at p a b {h'} e f k i = record { gap = i.gap; same = i.same; border = i.border; inserted = inserted_back a b {h' = h'} e f k i.inserted }

    pub removed_back : (a b : RawTable W) {es fs : List W} {h h' : H} {cut : Cut} → raw_entries a ≡ es → fs ≡ raw_entries b → h' ≡ h
        → Removes Represents (raw_table unlinked a) (raw_table unlinked b) h cut → Removes Represents (table_of unlinked es) (table_of unlinked fs) h' cut
    removed_back a b {h} {cut} e f k r =
        let back : Removes Represents (table_of unlinked (raw_entries a)) (table_of unlinked (raw_entries b)) h cut =
        record { shows = kept _ _ _ _ r.shows (λ q. refl); frame = frame_back a b r.frame } in
        rw (← e, f, k) back

    pub replaced_back : (a b : RawTable W) {es fs : List W} {h h' : H} {cut : Cut} {p : Place} → raw_entries a ≡ es → fs ≡ raw_entries b → h' ≡ h
        → Replaces Represents (raw_table unlinked a) (raw_table unlinked b) h cut p → Replaces Represents (table_of unlinked es) (table_of unlinked fs) h' cut p
    replaced_back a b {h} {cut} {p} e f k r =
        let back : Replaces Represents (table_of unlinked (raw_entries a)) (table_of unlinked (raw_entries b)) h cut p =
        record { shows = kept _ _ _ _ r.shows (λ q. refl); frame = frame_back a b r.frame } in
        rw (← e, f, k) back

    pub spliced_back : (a b : RawTable W) {es fs : List W} {h h' : H} {cut : Cut} {t : List Place} → raw_entries a ≡ es → fs ≡ raw_entries b → h' ≡ h
        → Splices Represents (raw_table unlinked a) (raw_table unlinked b) h cut t → Splices Represents (table_of unlinked es) (table_of unlinked fs) h' cut t
    spliced_back a b {h} {cut} {t} e f k r =
        let back : Splices Represents (table_of unlinked (raw_entries a)) (table_of unlinked (raw_entries b)) h cut t =
        record { shows = kept _ _ _ _ r.shows (λ q. refl); frame = frame_back a b r.frame } in
        rw (← e, f, k) back

    pub splits_back : (a b : RawTable W) {es fs : List W} {h h' g g' : H} {s t : List Place} → raw_entries a ≡ es → fs ≡ raw_entries b → h' ≡ h → g' ≡ g
        → Splits Represents (raw_table unlinked a) (raw_table unlinked b) h g s t → Splits Represents (table_of unlinked es) (table_of unlinked fs) h' g' s t
    splits_back a b {h} {g = g} {s} {t} e f k l r =
        let back : Splits Represents (table_of unlinked (raw_entries a)) (table_of unlinked (raw_entries b)) h g s t =
        record { keeps = kept _ _ _ _ r.keeps (λ q. refl); hands_out = kept _ _ _ _ r.hands_out (λ q. refl); frame = frame_back a b r.frame } in
        rw (← e, f, k, l) back

  pub clears_back : (is_linked : W → Bool) (a b : RawTable W) {es fs : List W} {s : List Place} → raw_entries a ≡ es → fs ≡ raw_entries b
      → Clears is_linked (raw_table unlinked a) (raw_table unlinked b) s → Clears is_linked (table_of unlinked es) (table_of unlinked fs) s
  clears_back is_linked a b {s = s} e f c =
      let back : Clears is_linked (table_of unlinked (raw_entries a)) (table_of unlinked (raw_entries b)) s = record { unlinked = c.unlinked; frame = frame_back a b c.frame } in
      rw (← e, f) back

  pub unlinks_back : {is_linked : W → Bool} {off : W → W} (a b : RawTable W) {es fs : List W} → raw_entries a ≡ es → fs ≡ raw_entries b
      → OnlyUnlinks is_linked off (raw_table unlinked a) (raw_table unlinked b) → OnlyUnlinks is_linked off (table_of unlinked es) (table_of unlinked fs)
  unlinks_back {is_linked} {off} a b e f c =
      let back : OnlyUnlinks is_linked off (table_of unlinked (raw_entries a)) (table_of unlinked (raw_entries b)) =
      record { extent = ap (λ x. record { places = x.places; identity = [] }) c.extent; entries = c.entries } in
      rw (← e, f) back

  -- if a place is unlinked in a view, it is unlinked in the words that the caller lent
  pub unlinked_back : (is_linked : W → Bool) (b : RawTable W) {fs : List W} (p : Place) → fs ≡ raw_entries b → IsUnlinked is_linked (raw_table unlinked b) p
      → IsUnlinked is_linked (table_of unlinked fs) p
  unlinked_back is_linked b {fs} p f off =
      let back : IsUnlinked is_linked (table_of unlinked (raw_entries b)) p = off in
      rw f back

-- if nothing changes, no place is unlinked
pub unlinks_none : {W : Type 0} {is_linked : W → Bool} {off : W → W} (t : Table W) → OnlyUnlinks is_linked off t t
unlinks_none t = record { extent = refl; entries = λ q. inl refl }

-- if `Trace` holds of the words before a call and after it, `Trace` holds of words that are equal to them
pub renamed : {W : Type 0} (Trace : List W → List W → Type 0) {old old' new new' : List W} → old' ≡ old → new ≡ new' → Trace old' new' → Trace old new
renamed Trace e f does = rw (← e, f) does
