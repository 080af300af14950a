-- A container's invariant holds after each kind of step, and its callers prove this by these lemmas.
use Rattle.std.proofs.Common.{◌≡◌, ◌≢◌, ℕ, Bool, true, false, cond, Option, Some, None, List, [], ◌∷◌, ◌++◌, refl, sym, ap, ◌∙◌, subst, arith, map, slice_index_or}
use Rattle.std.proofs.Math.ListN.{get_or-map}
use Rattle.std.proofs.lemmas.Bool.{false_from_ne_true}
use Rattle.std.specs.List.{AllByRecursion}
use Rattle.ic_link_ops.specs.Prelude.{Place, index_of, Objects, Places, Frees, object_at, IsAbsent, IsMember, IsDisjoint, Table, IsCovered, IsLinked, IsUnlinked, HasMember, no_members, Neighbors, link_of, entries, linked_by, Width, wide, nameable, is_end}
use Rattle.ic_link_ops.proofs.Prelude.{Puts, put_there, put_others, IsKind, kept_represented, others_stay, disjoint_cons, member_split, some_same, is_end_yes, is_end_no}
use Rattle.ic_link_ops.specs.DoublyEntries as doubly
use Rattle.ic_link_ops.specs.EntryLaws.{linked_in_range}
use Rattle.ic_link_ops.specs.LinkedList as lists
use Rattle.ic_link_ops.specs.PlainTables as plain
use Rattle.ic_link_ops.specs.Readings.{neighbors_of}
use Rattle.ic_link_ops.specs.TwoWords.{no_words, has_words, next_word_of, prev_of}
use Rattle.ic_link_ops.proofs.Calling.{has_member}
use Rattle.ic_link_ops.proofs.DoublyLists.{doubly_lists, members_represented, neighbors_covered}
use Rattle.ic_link_ops.proofs.LinkedSets.{everywhere}
use Rattle.ic_pool.specs.Pooled.{Grows}
use Rattle.ic_container.specs.NumberedLists.{Adds, Leaves, Moves, Stays, owner_or, owner_of, listed}
use Rattle.ic_container.specs.Edited.{HasJoined, HasLeft, HasMoved}
use Rattle.ic_container.specs.Holds.{lists_of, Holds, members_in}
use Rattle.ic_container.specs.ListReadings.{ReadsLists}
use Rattle.ic_container.proofs.NumberedListLemmas.{at_every_number, lists_disjoint, owned_same, owned_joined, owned_left, owned_moved, joins_from, owner_placed, owners_placed, owner_freed, owners_freed}

-- a container reads its tables by the five laws of a kind of collection, and `members` returns the sequence that a table represents
pub record Reading {L E H : Type 0} (Represents : Table E → H → List Place → Type 0) (linked : E → Bool) (empty : H) (table : L → Table E) (members : L → H → List Place) : Type 0 where
  pub kind : IsKind Represents linked empty
  pub members_are : (links : L) (head : H) (s : List Place) → Represents (table links) head s → members links head ≡ s

-- a container can read a table of lists, whatever the width of its words is
module _ {L E : Type 0} {neighbors : E → Neighbors} {linked : E → Bool} {table : L → Table E} (reads : ReadsLists neighbors linked table) where
  pub list_reading : Reading (lists.Represents neighbors) linked no_members table (members_in neighbors table)
  list_reading = record {
    kind = doubly_lists reads.alike;
    members_are = λ links head s shown. members_represented (table links) (neighbors_covered neighbors table reads.covered reads.alike links) head s shown;
  }

  -- A TABLE WITH ROOM FOR NO PLACE has no linked place
  pub nothing_linked : (links : L) → (table links).extent.places ≡ 0 → (p : Place) → IsUnlinked linked (table links) p
  nothing_linked links none p = false_from_ne_true _ (λ is. let within = reads.covered links p is in absurd (omega (arith, within, none)))

-- A PLAIN TABLE obeys the laws of a table of lists, whatever the width of its words is
module _ {W A : Type 0} (width : Width) (unlinked : W) (is_linked : W → Bool) (next_word : W → ℕ) (prev : W → Option Place) where
  pub plain_reads : is_linked unlinked ≡ false → ReadsLists (neighbors_of next_word is_linked prev) (linked_by is_linked) (plain.table {A = A} width unlinked)
  plain_reads starts = record {
    alike = λ e. refl;
    covered = λ links p is. linked_in_range (linked_by is_linked) (link_of unlinked) starts (nameable width (entries links)) (index_of p) is;
  }

-- a plain table of 8-byte words obeys the laws of a table of lists
pub wide_reads : {A : Type 0} → ReadsLists doubly.neighbors_of doubly.is_linked (doubly.plain_table {A = A})
wide_reads = plain_reads wide no_words has_words next_word_of prev_of refl

pub list_off : {A : Type 0} (links : doubly.DoublyLinkOps A) → (doubly.plain_table links).extent.places ≡ 0 → (p : Place) → IsUnlinked doubly.is_linked (doubly.plain_table links) p
list_off = nothing_linked wide_reads

-- the place p belongs to no collection, and each other place belongs where `owner` says
pub ownerless : Place → (Place → Option ℕ) → Place → Option ℕ
ownerless p owner q = cond (is_end (Some p) q) None (owner q)

ownerless_there : (p : Place) (owner : Place → Option ℕ) → ownerless p owner p ≡ None
unfolding ownerless
ownerless_there p owner = by (is_end (Some p) p) refl where
  by : (b : Bool) → is_end (Some p) p ≡ b → cond b None (owner p) ≡ None
  by true e = refl
  by false e = absurd (is_end_no (Some p) p e refl)

ownerless_beside : (p : Place) (owner : Place → Option ℕ) (q : Place) → q ≢ p → ownerless p owner q ≡ owner q
unfolding ownerless
ownerless_beside p owner q n = by (is_end (Some p) q) refl where
  by : (b : Bool) → is_end (Some p) q ≡ b → cond b None (owner q) ≡ owner q
  by true e = absurd (n (sym (some_same (is_end_yes (Some p) q e))))
  by false e = refl

module _ {L E H : Type 0} {Represents : Table E → H → List Place → Type 0} {linked : E → Bool} {empty : H} {table : L → Table E} {members : L → H → List Place} (reading : Reading Represents linked empty table members) where
  itself : (links : L) (head : H) {s : List Place} → Represents (table links) head s → Represents (table links) head (members links head)
  itself links head {s} shown = subst (Represents (table links) head) (sym (reading.members_are links head s shown)) shown

  -- AT FIRST no place belongs to a collection, and no place is linked
  module _ (links : L) {heads : ℕ → H} (none : (i : ℕ) → heads i ≡ empty) where
    pub none_stand : (i : ℕ) → lists_of members links heads i ≡ []
    none_stand i = reading.members_are links (heads i) [] (rw (none i) (reading.kind.nothing (table links)))

    pub holds_none : {owner : Place → Option ℕ} → ((p : Place) → owner p ≡ None) → ((p : Place) → IsUnlinked linked (table links) p) → Holds Represents linked table members links heads owner
    holds_none {owner} ownerless off = record {
      shown = λ i. itself links (heads i) {s = []} (rw (none i) (reading.kind.nothing (table links)));
      owned = record {
        own = λ i. subst (AllByRecursion (λ p. owner p ≡ Some i)) (sym (none_stand i)) tt;
        all = λ p i at. let never : None ≡ Some i = sym (ownerless p) ∙ at in absurd (cc);
      };
      only = λ p at. off p;
    }

  -- if a list has the heads of all collections, the members of collection i are item i of the list of their sequences
  pub lists_seen : (links : L) (heads : List H) → Stays (lists_of members links (listed empty heads)) (listed [] (map (members links) heads))
  lists_seen links heads i =
      let nothing : members links empty ≡ [] = reading.members_are links empty [] (reading.kind.nothing (table links)) in
      ap (λ d. slice_index_or (map (members links) heads) i d) (sym nothing) ∙ get_or-map (members links) heads i empty

  module _ {links : L} {heads : ℕ → H} {owner : Place → Option ℕ} (k : Holds Represents linked table members links heads owner) where
    -- a place that belongs to collection i is a member of collection i
    module _ (i : ℕ) (p : Place) (at : owner p ≡ Some i) where
      pub stands_at : (front : List Place) × (back : List Place) × (lists_of members links heads i ≡ front ++ p ∷ back)
      stands_at = member_split p (lists_of members links heads i) (k.owned.all p i at)

      pub stands : HasMember (Represents (table links) (heads i)) p
      stands = has_member (Represents (table links) (heads i)) (lists_of members links heads i) (k.shown i) (k.owned.all p i at)

    -- AFTER `cover` or `place`, whatever the call returned, the invariant holds for the table that may have grown
    module _ (grown : L) (grows : Grows (table links) (table grown)) where
      still_represented : (i : ℕ) → Represents (table grown) (heads i) (lists_of members links heads i)
      still_represented i = kept_represented reading.kind grows.entries (k.shown i)

      pub lists_grown : Stays (lists_of members links heads) (lists_of members grown heads)
      lists_grown i = reading.members_are grown (heads i) (lists_of members links heads i) (still_represented i)

      pub holds_grown : Holds Represents linked table members grown heads owner
      holds_grown = record {
        shown = λ i. itself grown (heads i) (still_represented i);
        owned = record { own = λ i. subst (AllByRecursion (λ p. owner p ≡ Some i)) (sym (lists_grown i)) (k.owned.own i); all = λ p i at. subst (IsMember p) (sym (lists_grown i)) (k.owned.all p i at) };
        only = λ p at. rw (grows.entries p) (k.only p at);
      }

    -- IF EACH PLACE BELONGS where it belonged before, the invariant still holds
    pub holds_same : {other : Place → Option ℕ} → ((p : Place) → other p ≡ owner p) → Holds Represents linked table members links heads other
    holds_same same = record { shown = k.shown; owned = owned_same k.owned same; only = λ p at. k.only p (sym (same p) ∙ at) }

    -- ONE EDIT of collection j leaves all other collections as they were
    module _ (j : ℕ) (new : L) {front : List Place} {p : Place} {back : List Place} {after : ℕ → H} (others : (i : ℕ) → i ≢ j → after i ≡ heads i) where
      module _ (e : HasJoined Represents linked (table links) (table new) (heads j) (after j) front p back) where
        joins_was : lists_of members links heads j ≡ front ++ back
        joins_was = reading.members_are links (heads j) (front ++ back) e.was

        joins_out : (i : ℕ) → IsAbsent p (lists_of members links heads i)
        joins_out i = reading.kind.free (table links) (heads i) (lists_of members links heads i) p (k.shown i) e.also.was

        joins_still : (i : ℕ) → i ≢ j → Represents (table new) (after i) (lists_of members links heads i)
        joins_still i n =
            rw (others i n) (others_stay reading.kind (p ∷ (front ++ back)) (k.shown i)
            (disjoint_cons p (lists_of members links heads i) (front ++ back) (joins_out i) (subst (IsDisjoint (lists_of members links heads i)) joins_was (lists_disjoint k.owned i j n))) e.frame)

        pub joined : Adds j front p back (lists_of members links heads) (lists_of members new after)
        joined = record {
          was = joins_was;
          is = reading.members_are new (after j) (front ++ p ∷ back) e.is;
          others = λ i n. reading.members_are new (after i) (lists_of members links heads i) (joins_still i n);
        }

        -- the invariant holds after the place p has joined collection j, if p belongs to collection j by `other`
        pub holds_joined : {other : Place → Option ℕ} → other p ≡ Some j → ((q : Place) → q ≢ p → other q ≡ owner q) → Holds Represents linked table members new after other
        holds_joined {other} here beside = record {
          shown = λ i. at_every_number (λ i. Represents (table new) (after i) (lists_of members new after i)) j i (itself new (after j) e.is) (λ n. itself new (after i) (joins_still i n));
          owned = owned_joined k.owned beside joined here joins_out;
          only = λ q. everywhere (λ q. other q ≡ None → IsUnlinked linked (table new) q) p q (λ at. let never : None ≡ Some j = sym at ∙ here in absurd (cc))
              (λ n at. e.also.others q n ∙ k.only q (sym (beside q n) ∙ at));
        }

      module _ (e : HasLeft Represents linked (table links) (table new) (heads j) (after j) front p back) where
        leaves_was : lists_of members links heads j ≡ front ++ p ∷ back
        leaves_was = reading.members_are links (heads j) (front ++ p ∷ back) e.was

        leaves_still : (i : ℕ) → i ≢ j → Represents (table new) (after i) (lists_of members links heads i)
        leaves_still i n =
            rw (others i n) (others_stay reading.kind (front ++ p ∷ back) (k.shown i) (subst (IsDisjoint (lists_of members links heads i)) leaves_was (lists_disjoint k.owned i j n)) e.frame)

        pub left : Leaves j front p back (lists_of members links heads) (lists_of members new after)
        left = record {
          was = leaves_was;
          is = reading.members_are new (after j) (front ++ back) e.is;
          others = λ i n. reading.members_are new (after i) (lists_of members links heads i) (leaves_still i n);
        }

        -- the invariant holds after the place p has left collection j, if p belongs to no collection by `other`
        pub holds_left : {other : Place → Option ℕ} → other p ≡ None → ((q : Place) → q ≢ p → other q ≡ owner q) → Holds Represents linked table members new after other
        holds_left {other} gone beside = record {
          shown = λ i. at_every_number (λ i. Represents (table new) (after i) (lists_of members new after i)) j i (itself new (after j) e.is) (λ n. itself new (after i) (leaves_still i n));
          owned = owned_left k.owned beside left gone (reading.kind.distinct (table links) (heads j) (lists_of members links heads j) (k.shown j));
          only = λ q. everywhere (λ q. other q ≡ None → IsUnlinked linked (table new) q) p q (λ at. e.off.is) (λ n at. e.off.others q n ∙ k.only q (sym (beside q n) ∙ at));
        }

      module _ {before following : List Place} (e : HasMoved Represents linked (table links) (table new) (heads j) (after j) front p back before following) where
        moves_still : (i : ℕ) → i ≢ j → Represents (table new) (after i) (lists_of members links heads i)
        moves_still i n =
            rw (others i n) (others_stay reading.kind (front ++ p ∷ back) (k.shown i)
            (subst (IsDisjoint (lists_of members links heads i)) (reading.members_are links (heads j) (front ++ p ∷ back) e.was) (lists_disjoint k.owned i j n)) e.frame)

        pub moved : Moves j front p back before following (lists_of members links heads) (lists_of members new after)
        moved = record {
          was = reading.members_are links (heads j) (front ++ p ∷ back) e.was;
          rest = e.rest;
          is = reading.members_are new (after j) (before ++ p ∷ following) e.is;
          others = λ i n. reading.members_are new (after i) (lists_of members links heads i) (moves_still i n);
        }

        -- the invariant holds after one member has moved within its collection
        pub holds_moved : Holds Represents linked table members new after owner
        holds_moved = record {
          shown = λ i. at_every_number (λ i. Represents (table new) (after i) (lists_of members new after i)) j i (itself new (after j) e.is) (λ n. itself new (after i) (moves_still i n));
          owned = owned_moved k.owned moved;
          only = λ q at. e.keeps q ∙ k.only q at;
        }

  -- A MEMBER GOES from collection j to collection i: it is removed from collection j, and then inserted into collection i
  module _ {links : L} {heads : ℕ → H} {owner : Place → Option ℕ} (k : Holds Represents linked table members links heads owner) (j : ℕ) (mid : L) {front : List Place} {p : Place} {back : List Place} {between : ℕ → H}
      (others : (i : ℕ) → i ≢ j → between i ≡ heads i) (off : HasLeft Represents linked (table links) (table mid) (heads j) (between j) front p back) where
    -- after the removal and before the insert, the place p belongs to no collection, and the invariant holds
    pub holds_off : Holds Represents linked table members mid between (ownerless p owner)
    holds_off = holds_left k j mid others off (ownerless_there p owner) (ownerless_beside p owner)

    module _ (i : ℕ) (new : L) {before following : List Place} {after : ℕ → H} (rest : (l : ℕ) → l ≢ i → after l ≡ between l) (on : HasJoined Represents linked (table mid) (table new) (between i) (after i) before p following) where
      pub holds_transferred : {other : Place → Option ℕ} → other p ≡ Some i → ((q : Place) → q ≢ p → other q ≡ owner q) → Holds Represents linked table members new after other
      holds_transferred here beside = holds_joined holds_off i new rest on here (λ q n. beside q n ∙ sym (ownerless_beside p owner q n))

      pub transferred : Leaves j front p back (lists_of members links heads) (lists_of members mid between) × Adds i before p following (lists_of members mid between) (lists_of members new after)
      transferred = (left k j mid others off, joined holds_off i new rest on)

  -- THE OBJECTS decide where places belong: `belongs` returns the number of the collection to which an object belongs, or none
  module _ {T : Type 0} (belongs : T → Option ℕ) (objects : Objects T) {links : L} {heads : ℕ → H} (k : Holds Represents linked table members links heads (owner_of belongs objects)) where
    -- a place without an object is not linked
    pub vacant_off : {p : Place} → object_at objects p ≡ None → IsUnlinked linked (table links) p
    vacant_off {p} none = k.only p (ap (owner_or belongs) none)

    -- an object is a member of the collection to which it belongs
    pub object_stands : {p : Place} {v : T} {j : ℕ} → object_at objects p ≡ Some v → belongs v ≡ Some j → HasMember (Represents (table links) (heads j)) p
    object_stands {p} {v} {j} there is = stands k j p (ap (owner_or belongs) there ∙ is)

    -- Lemmas about a new object that is stored at the place p, and inserted into collection j
    module _ {more : Objects T} {p : Place} {v : T} (places : Places objects more p v) (grown : L) (grows : Grows (table links) (table grown)) where
      -- the place of the new object is not linked yet
      pub new_off : IsUnlinked linked (table grown) p
      new_off = rw (grows.entries p) (vacant_off places.vacant)

      -- the place of the new object is no member of any collection yet
      pub new_absent : (i : ℕ) → IsAbsent p (lists_of members links heads i)
      new_absent i = reading.kind.free (table links) (heads i) (lists_of members links heads i) p (k.shown i) (vacant_off places.vacant)

      module _ (j : ℕ) (new : L) {front back : List Place} {after : ℕ → H} (others : (i : ℕ) → i ≢ j → after i ≡ heads i) (is : belongs v ≡ Some j)
          (e : HasJoined Represents linked (table grown) (table new) (heads j) (after j) front p back) where
        pub holds_new : Holds Represents linked table members new after (owner_of belongs more)
        holds_new = holds_joined (holds_grown k grown grows) j new others e (owner_placed belongs places ∙ is) (owners_placed belongs places)

        pub new_joined : Adds j front p back (lists_of members links heads) (lists_of members new after)
        new_joined = joins_from (lists_grown k grown grows) (joined (holds_grown k grown grows) j new others e)

    -- the invariant holds after the object at p was removed from collection j and from the objects
    pub holds_freed : {less : Objects T} {p : Place} → Frees objects less p → (j : ℕ) (new : L) {front back : List Place} {after : ℕ → H} → ((i : ℕ) → i ≢ j → after i ≡ heads i)
        → HasLeft Represents linked (table links) (table new) (heads j) (after j) front p back → Holds Represents linked table members new after (owner_of belongs less)
    holds_freed frees j new others e = holds_left k j new others e (owner_freed belongs frees) (owners_freed belongs frees)

    -- ANOTHER VALUE has replaced the value of an object and belongs to the collection of the old value, so the invariant holds
    pub holds_changed : {new : Objects T} {p : Place} {v : T} → Puts objects new p v → belongs v ≡ owner_of belongs objects p → Holds Represents linked table members links heads (owner_of belongs new)
    holds_changed {new} {p} puts same = holds_same k (λ q. everywhere (λ q. owner_of belongs new q ≡ owner_of belongs objects q) p q (ap (owner_or belongs) (put_there puts) ∙ same) (λ n. ap (owner_or belongs) (put_others puts q n)))
