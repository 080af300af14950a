-- Lemmas which say that each call of `Slots` maintains `IsKept`, and what each handle names after one slot has changed.
use Rattle.std.specs.Prelude.{⊤}
use Rattle.std.proofs.Common.{◌≡◌, ◌≢◌, ℕ, ◌+◌, ◌-◌, ◌≤◌, ◌<◌, true, false, cond, List, [], ◌∷◌, ◌++◌, drop, length, Option, Some, None, IsSome, is_some, inl, inr, refl, sym, ap, subst, ◌∙◌, arith, length-append, true≢false}
use Rattle.std.proofs.lemmas.Bool.{cases_eq, eqb-false, le-leb}
use Rattle.std.proofs.lemmas.Bool.Decides.{nat_tests}
use Rattle.std.specs.FinMap as map
use Rattle.std.specs.List.{AllByRecursion}
use Rattle.ic_link_ops.specs.Prelude.{Place, index_of, Objects, Places, object_at, with_object, first, IsAbsent, IsDistinct, IsMember, IsCovered, IsUnlinked, Unlinks, ChangesOnlyIn, link_of, entries, wide}
use Rattle.ic_link_ops.proofs.Prelude.{same_index, same_or_not, distinct_remove, first_is, member_split, none_not, few_places}
use Rattle.ic_unsafe_ref.proofs.Placing.{Puts, put_there, put_beside, put_others, placed_there, still_placed, placed_puts, exchanged_puts}
use Rattle.ic_link_ops.specs.declared.one_word.OneWord.{OneWord}
use Rattle.ic_link_ops.specs.declared.table.PlainTable.{PlainTable}
use Rattle.ic_link_ops.specs.EntryLaws.{linked_in_range}
use Rattle.ic_link_ops.specs.OneWord.{no_word, has_word}
use Rattle.ic_link_ops.specs.SinglyLinkedList.{Front, list_from, Represents}
use Rattle.ic_link_ops.proofs.SinglyLists.{members_represented, singly_lists}
use Rattle.ic_pool.specs.Pooled.{Grows}
use Rattle.ic_pool.proofs.Pooling.{pooled_first, pooled_grown, pooled_placed, pooled_linked, pooled_unlinked, pooled_changed}
use Rattle.ic_container.specs.Edited.{HasJoined}
use Rattle.ic_container.specs.NumberedLists.{alone, owner_of, owner_or}
use Rattle.ic_container.proofs.EditLemmas.{left_front}
use Rattle.ic_container.proofs.HoldsLemmas.{Reading, holds_changed, holds_grown, holds_joined, holds_left, holds_none}
use Rattle.ic_container.proofs.NumberedListLemmas.{alone_none, alone_others, owned_joined, owned_left}
use Rattle.pool_uses.specs.declared.slots.Handle.{Handle}
use Rattle.pool_uses.specs.declared.slots.Slot.{Slot}
use Rattle.pool_uses.specs.KeptSlots.{is_linked, successor, plain_table, members_of, value_in, vacant_owner, owner_with, taken_owner, taken_with, IsTaken, naming_of, IsCounted, IsKept}
use Rattle.pool_uses.specs.Slots.{Naming, named, is_given, named_in, given_in, is_last, IsUsable, HasVacant, Inserts, Removes}

same_handle : (h k : Handle) → index_of h.place ≡ index_of k.place → h.generation ≡ k.generation → h ≡ k
same_handle h k e f = λ i. record { place = same_index h.place k.place e i; generation = f i }

module _ {T : Type 0} where
  -- if a handle names a value, then its slot has this value and the handle's generation
  pub named_slot : (o : Option (Slot T)) (g : ℕ) {value : T} → Some value ≡ named_in o g → (slot : Slot T) × (o ≡ Some slot) × (slot.generation ≡ g) × (slot.value ≡ Some value)
  named_slot None g is = absurd (cc)
  named_slot (Some slot) g is = (slot, refl, grind (arith, nat_tests), grind (arith, nat_tests))

  -- the slot of `handle` changes. If the slot's handles with other generations name what they named before, then every handle except `handle` names what it
  -- named before
  others_said : {old new : Objects (Slot T)} (handle : Handle) {was : Option (Slot T)} {now : Slot T} (m n : ℕ) → object_at old handle.place ≡ was → Puts old new handle.place now
      → ((k : ℕ) → k ≢ handle.generation → (named_in (Some now) k ≡ named_in was k) × (given_in (Some now) k ≡ given_in was k))
      → (h : Handle) → h ≢ handle → (named (naming_of new n) h ≡ named (naming_of old m) h) × (is_given (naming_of new n) h ≡ is_given (naming_of old m) h)
  others_said {old} {new} handle {was} {now} m n there puts alike h other = elim (cases_eq (index_of h.place) (index_of handle.place)) [
    | inl same ↦ rw (ap (map.get new.values) same ∙ put_there puts, ap (map.get old.values) same ∙ there) (alike h.generation (λ e. other (same_handle h handle same e)))
    | inr apart ↦ rw (put_beside puts (index_of h.place) apart) (refl, refl)
  ]

  -- A NEW SLOT is placed with a value, and then the handle with the generation 0 of this slot names the value
  pub inserts_new : {old new : Objects (Slot T)} (p : Place) {value : T} (len : ℕ) → Places old new p (record { generation = 0; value = Some value })
      → Inserts (record { place = p; generation = 0 }) value (naming_of old len) (naming_of new (len + 1))
  inserts_new p {value} len places = record {
    never = ap (λ s. given_in s 0) places.vacant;
    nothing = ap (λ s. named_in s 0) places.vacant;
    names = ap (λ s. named_in s 0) (placed_there places);
    given = ap (λ s. given_in s 0) (placed_there places);
    others = others_said (record { place = p; generation = 0 }) len (len + 1) places.vacant (placed_puts places) (λ k n. grind (arith, nat_tests));
    count = refl;
  }

  module _ {old new : Objects (Slot T)} (handle : Handle) {was : Slot T} (len : ℕ) (there : object_at old handle.place ≡ Some was) (is : was.generation ≡ handle.generation) where
    -- a vacant slot gets a value, and then the handle with the slot's generation names the value
    pub inserts_filled : {value : T} → Puts old new handle.place (record was { value = Some value }) → was.value ≡ None → Inserts handle value (naming_of old len) (naming_of new (len + 1))
    inserts_filled {value} puts none = record {
      never = rw there (grind (arith, nat_tests));
      nothing = rw there (grind (arith, nat_tests));
      names = rw (put_there puts) (grind (arith, nat_tests));
      given = rw (put_there puts) (grind (arith, nat_tests));
      others = others_said handle len (len + 1) there puts (λ k n. grind (arith, nat_tests));
      count = refl;
    }

    -- THE HANDLE IS OLD after the value of its slot is removed. No call has returned the handle with the slot's next generation yet
    pub removes : Puts old new handle.place (record { generation = was.generation + 1; value = None }) → 1 ≤ len → (is_last handle ≡ false → HasVacant (naming_of new (len - 1)))
        → Removes handle (naming_of old len) (naming_of new (len - 1))
    removes puts some left = record {
      given = rw (put_there puts) (grind (arith, nat_tests));
      nothing = rw (put_there puts) (grind (arith, nat_tests));
      others = others_said handle len (len - 1) there puts (λ k n. grind (arith, nat_tests));
      count = omega (arith, some);
      vacant = left;
    }

-- the list of vacant slots reads its table as a singly linked list does
pub slot_reading : {K A : Type 0} → Reading {L = PlainTable (OneWord K ℕ) A ⊤} (Represents successor) is_linked (list_from None) plain_table members_of
slot_reading = record {
  kind = singly_lists (λ e. refl);
  members_are = λ links list s shown. members_represented (plain_table links) (λ q linked. linked_in_range is_linked (link_of no_word) refl (entries links) (index_of q) linked) list s shown;
}

module _ {T : Type 0} where
  -- a slot belongs in the list of vacant slots exactly if it has no value and can get one
  usable_owner : (o : Option (Slot T)) → IsUsable o → owner_or vacant_owner o ≡ Some 0
  usable_owner None can = absurd can
  usable_owner (Some slot) can = grind (arith, nat_tests)

  owner_usable : (o : Option (Slot T)) → owner_or vacant_owner o ≡ Some 0 → (slot : Slot T) × (o ≡ Some slot) × IsUsable (Some slot)
  owner_usable None h = absurd (none_not 0 h)
  owner_usable (Some slot) h = (slot, refl, grind (arith, nat_tests))

-- a place that belongs in no list is not among the members of any list
absent_off : (owner : Place → Option ℕ) (p : Place) → owner p ≡ None → (i : ℕ) (s : List Place) → AllByRecursion (λ q. owner q ≡ Some i) s → IsAbsent p s
absent_off owner p none i [] own = tt
absent_off owner p none i (x ∷ s) own = ((λ e. none_not i (sym none ∙ ap owner e ∙ own.0)), absent_off owner p none i s own.1)

module _ {T : Type 0} {objects : Objects (Slot T)} {len : ℕ} (k : IsCounted objects len) where
  -- at most 8,589,934,591 slots have a value, because no place is counted twice
  pub few : len ≤ 8589934591
  few = omega (arith, k.count, few_places k.taken k.once)

  -- ONE SLOT CHANGES, at the place `p`, and all other slots keep their contents
  module _ {new : Objects (Slot T)} {p : Place} {slot : Slot T} (puts : Puts objects new p slot) where
    below_put : (IsSome slot.value → IsTaken (Some slot)) → (q : Place) → IsSome (value_in (object_at new q)) → IsTaken (object_at new q)
    below_put here q = elim (same_or_not q p) [ inl e ↦ rw (e, put_there puts) here | inr n ↦ rw (put_others puts q n) (k.below q) ]

    owners : (q : Place) → q ≢ p → owner_of taken_owner new q ≡ owner_of taken_owner objects q
    owners q n = ap (owner_or taken_owner) (put_others puts q n)

    -- if the changed slot gets a value, then one further slot has a value
    counted_more : {value : T} → slot.value ≡ Some value → slot.generation < 18446744073709551615 → owner_of taken_owner objects p ≡ None → IsCounted new (len + 1)
    counted_more has below none =
        let out = absent_off (owner_of taken_owner objects) p none in record {
          below = below_put (λ is. (is, below));
          taken = p ∷ k.taken;
          once = (out 0 k.taken (k.owned.own 0), k.once);
          owned = owned_joined k.owned {front = []} {back = k.taken} owners (record { was = refl; is = refl; others = alone_others [] k.taken (p ∷ k.taken) }) (ap (owner_or taken_owner) (put_there puts) ∙ ap taken_with has) (λ i. out i (alone [] k.taken i) (k.owned.own i));
          count = omega (arith, k.count);
        }

    -- if the changed slot loses its value, then one slot fewer has a value
    counted_less : slot.value ≡ None → owner_of taken_owner objects p ≡ Some 0 → IsCounted new (len - 1)
    counted_less none here =
        let m = member_split p k.taken (k.owned.all p 0 here) in record {
          below = below_put (λ is. absurd (true≢false (sym (sym (ap is_some none) ∙ is))));
          taken = m.0 ++ m.1;
          once = distinct_remove m.0 m.1 p (subst IsDistinct m.2 k.once);
          owned = owned_left k.owned {front = m.0} {back = m.1} owners (record { was = m.2; is = refl; others = alone_others [] k.taken (m.0 ++ m.1) }) (ap (owner_or taken_owner) (put_there puts) ∙ ap taken_with none) k.once;
          count = omega (arith, k.count, ap length m.2, length-append m.0 (p ∷ m.1), length-append m.0 m.1);
        }

  some_value : (p : Place) → owner_of taken_owner objects p ≡ Some 0 → 1 ≤ len
  some_value p here = let m = member_split p k.taken (k.owned.all p 0 here) in omega (arith, k.count, ap length m.2, length-append m.0 (p ∷ m.1))

-- NEW SLOTS, which have no object and an empty table, maintain `IsKept`
pub kept_none : {T K A : Type 0} (objects : Objects (Slot T)) (links : PlainTable (OneWord K ℕ) A ⊤) → ((p : Place) → object_at objects p ≡ None) → (plain_table links).extent.places ≡ 0
    → IsKept objects links (list_from None) 0
kept_none {T} objects links vacant no_links =
    let pooled = pooled_first wide has_word no_word refl links no_links vacant in
    record {
      holds = holds_none slot_reading links (alone_none (list_from None) (list_from None) refl) (λ p. ap (owner_or vacant_owner) (vacant p)) (λ p. pooled.vacant p (vacant p));
      pooled = pooled;
      counted = record {
        below = λ p is. absurd (true≢false (sym (sym (ap (λ o. is_some (value_in o)) (vacant p)) ∙ is)));
        taken = [];
        once = tt;
        owned = record {
          own = λ i. subst (AllByRecursion (λ p. owner_of taken_owner objects p ≡ Some i)) (sym (alone_none {X = List Place} [] [] refl i)) tt;
          all = λ p i at. absurd (none_not i (sym (ap (owner_or taken_owner) (vacant p)) ∙ at));
        };
        count = refl;
      };
    }

module _ {T K A : Type 0} {objects : Objects (Slot T)} {links : PlainTable (OneWord K ℕ) A ⊤} {vacant : Front} {len : ℕ} (k : IsKept objects links vacant len) where
  abbrev pub members : List Place
  members = members_of links vacant

  pub shown : Represents successor (plain_table links) vacant (members_of links vacant)
  shown = k.holds.shown 0

  -- IF SOME SLOT IS VACANT, then the list of vacant slots has a first member
  pub first_of_vacant : HasVacant (naming_of objects len) → IsSome (first (members_of links vacant))
  first_of_vacant can = by members (k.holds.owned.all can.0 0 (usable_owner (object_at objects can.0) can.1)) where
    by : (s : List Place) → IsMember can.0 s → IsSome (first s)
    by [] member = absurd (member tt)
    by (p ∷ s) member = refl

  -- AFTER THE TABLE HAS GROWN, the slots still maintain `IsKept`
  pub kept_grown : {grown : PlainTable (OneWord K ℕ) A ⊤} → Grows (plain_table links) (plain_table grown) → IsKept objects grown vacant len
  kept_grown {grown} grows = record { holds = holds_grown slot_reading k.holds grown grows; pooled = pooled_grown k.pooled grows; counted = k.counted }

  -- A NEW SLOT is placed with a value, and the slots still maintain `IsKept`
  pub kept_placed : {grown : PlainTable (OneWord K ℕ) A ⊤} {new : Objects (Slot T)} {p : Place} {value : T} → Grows (plain_table links) (plain_table grown) → Places objects new p (record { generation = 0; value = Some value })
      → IsCovered (plain_table grown) p → IsKept new grown vacant (len + 1)
  kept_placed {grown} {p = p} grows places room = record {
    holds = holds_changed slot_reading vacant_owner objects (holds_grown slot_reading k.holds grown grows) (placed_puts places) (sym (ap (owner_or vacant_owner) places.vacant));
    pooled = pooled_placed k.pooled grows places room;
    counted = counted_more k.counted (placed_puts places) refl (omega arith) (ap (owner_or taken_owner) places.vacant);
  }

  -- THE FIRST VACANT SLOT is removed from the list and gets a value, and the slots still maintain `IsKept`
  module _ (after : PlainTable (OneWord K ℕ) A ⊤) (front : Front) (value : T) {new : Objects (Slot T)} {p : Place} {g : ℕ} (answer : (s : List Place) → Represents successor (plain_table links) vacant s → Some p ≡ first s)
      (popped : (s : List Place) → Represents successor (plain_table links) vacant s → Represents successor (plain_table after) front (drop 1 s)) (off : Unlinks is_linked (plain_table links) (plain_table after) p)
      (frame : (s : List Place) → Represents successor (plain_table links) vacant s → ChangesOnlyIn (plain_table links) (plain_table after) s)
      (fills : (s : Slot T) → object_at objects p ≡ Some s → (g ≡ s.generation) × (new ≡ with_object objects p (record s { value = Some value }))) where
    -- before the list's first member gets the value, its slot at the place `p` is vacant
    first_vacant : (was : Slot T) × (object_at objects p ≡ Some was) × IsUsable (Some was)
    first_vacant = owner_usable (object_at objects p) (subst (AllByRecursion (λ q. owner_or vacant_owner (object_at objects q) ≡ Some 0)) (first_is members (answer members shown)) (k.holds.owned.own 0)).0

    filled_puts : Puts objects new p (record first_vacant.0 { value = Some value })
    filled_puts = exchanged_puts (fills first_vacant.0 first_vacant.1).1

    pub filled : IsKept new after front (len + 1)
    filled = record {
      holds = holds_left slot_reading k.holds 0 after (alone_others (list_from None) vacant front) (left_front members shown answer popped off frame)
          (ap (owner_or vacant_owner) (put_there filled_puts)) (λ q n. ap (owner_or vacant_owner) (put_others filled_puts q n));
      pooled = pooled_changed (pooled_unlinked k.pooled off (frame members shown).extent) (still_placed filled_puts (ap is_some first_vacant.1));
      counted = counted_more k.counted filled_puts refl first_vacant.2.1 (ap (owner_or taken_owner) first_vacant.1 ∙ ap taken_with first_vacant.2.0);
    }

    -- the slot at the place `p` was vacant before it got the value
    pub filled_usable : IsUsable (object_at objects p)
    filled_usable = subst IsUsable (sym first_vacant.1) first_vacant.2

    pub filled_handle : Inserts (record { place = p; generation = g }) value (naming_of objects len) (naming_of new (len + 1))
    filled_handle = inserts_filled (record { place = p; generation = g }) len first_vacant.1 (sym (fills first_vacant.0 first_vacant.1).0) filled_puts first_vacant.2.0

  -- THE VALUE IS REMOVED from the slot of a handle that names a value
  module _ (h : Handle) {new : Objects (Slot T)} {seen value : T} (is : Some seen ≡ named_in (object_at objects h.place) h.generation)
      (empties : (s : Slot T) → object_at objects h.place ≡ Some s → (s.value ≡ Some value) × (new ≡ with_object objects h.place (record { generation = s.generation + 1; value = None }))) where
    own : (slot : Slot T) × (object_at objects h.place ≡ Some slot) × (slot.generation ≡ h.generation) × (slot.value ≡ Some seen)
    own = named_slot (object_at objects h.place) h.generation is

    emptied_below : h.generation < 18446744073709551615
    emptied_below = omega (arith, (subst IsTaken own.1 (k.counted.below h.place (ap is_some (ap value_in own.1 ∙ own.3)))).1, own.2)

    puts : Puts objects new h.place (record { generation = own.0.generation + 1; value = None })
    puts = exchanged_puts (empties own.0 own.1).1

    owner_was : owner_or vacant_owner (object_at objects h.place) ≡ None
    owner_was = ap (owner_or vacant_owner) own.1 ∙ ap (λ (o : Option T). owner_with o own.0.generation) own.3

    taken_was : owner_of taken_owner objects h.place ≡ Some 0
    taken_was = ap (owner_or taken_owner) own.1 ∙ ap taken_with own.3

    pub emptied_some : 1 ≤ len
    emptied_some = some_value k.counted h.place taken_was

    pub emptied_free : IsUnlinked is_linked (plain_table links) h.place
    emptied_free = k.holds.only h.place owner_was

    pub emptied_value : Some value ≡ named_in (object_at objects h.place) h.generation
    emptied_value = sym (empties own.0 own.1).0 ∙ own.3 ∙ is

    pub emptied_usable : h.generation + 1 ≢ 18446744073709551615 → IsUsable (object_at new h.place)
    emptied_usable more = subst IsUsable (sym (put_there puts)) (refl, omega (arith, emptied_below, own.2, more))

    -- if the slot's next generation is the last one, then the slot is used up. Otherwise the slot is inserted at the front of the list (`kept_vacated`). In
    -- both cases the slots still maintain `IsKept`
    pub kept_used_up : h.generation + 1 ≡ 18446744073709551615 → IsKept new links vacant (len - 1)
    kept_used_up last = record {
      holds = holds_changed slot_reading vacant_owner objects k.holds puts (ap (λ b. cond b None (Some 0)) (le-leb 18446744073709551615 (own.0.generation + 1) (omega (arith, own.2, last))) ∙ sym owner_was);
      pooled = pooled_changed k.pooled (still_placed puts (ap is_some own.1));
      counted = counted_less k.counted puts refl taken_was;
    }

    pub kept_vacated : h.generation + 1 ≢ 18446744073709551615 → {more : PlainTable (OneWord K ℕ) A ⊤} {front : Front} {s : List Place}
        → HasJoined (Represents successor) is_linked (plain_table links) (plain_table more) vacant front [] h.place s → IsKept new more front (len - 1)
    kept_vacated last {more} {front} e = record {
      holds = holds_joined slot_reading k.holds 0 more (alone_others (list_from None) vacant front) e (usable_owner (object_at new h.place) (emptied_usable last)) (λ q n. ap (owner_or vacant_owner) (put_others puts q n));
      pooled = pooled_linked (pooled_changed k.pooled (still_placed puts (ap is_some own.1))) (ap is_some (put_there puts)) e.also e.frame.extent;
      counted = counted_less k.counted puts refl taken_was;
    }

    pub emptied_handle : Removes h (naming_of objects len) (naming_of new (len - 1))
    emptied_handle = removes h len own.1 own.2 puts emptied_some (λ no. (h.place, emptied_usable (eqb-false (h.generation + 1) 18446744073709551615 no)))

-- A HANDLE IS OLD if a call returned it and it now names nothing. It stays old, whatever is inserted and removed later
pub record IsOld {T : Type 0} (slots : Naming T) (h : Handle) : Type 0 where
  pub given : is_given slots h ≡ true
  pub nothing : named slots h ≡ None

module _ {T : Type 0} {old new : Naming T} {h handle : Handle} (is : IsOld old h) where
  beside_old : h ≢ handle → (h ≢ handle → (named new h ≡ named old h) × (is_given new h ≡ is_given old h)) → IsOld new h
  beside_old other stays = record { given = (stays other).1 ∙ is.given; nothing = (stays other).0 ∙ is.nothing }

  pub old_inserts : {value : T} → Inserts handle value old new → IsOld new h
  old_inserts did = beside_old (λ e. let never : false ≡ true = sym did.never ∙ ap (is_given old) (sym e) ∙ is.given in absurd (cc)) (did.others h)

  pub old_removes : Removes handle old new → IsOld new h
  old_removes did = elim (cases_eq (index_of h.place) (index_of handle.place)) [
    | inl e ↦ elim (cases_eq h.generation handle.generation) [
      | inl f ↦ let same = same_handle h handle e f in record { given = ap (is_given new) same ∙ did.given; nothing = ap (named new) same ∙ did.nothing }
      | inr n ↦ beside_old (λ same. n (ap (λ x. x.generation) same)) (did.others h)
    ]
    | inr n ↦ beside_old (λ same. n (ap (λ x. index_of x.place) same)) (did.others h)
  ]
