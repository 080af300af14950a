-- Objects are in an array of lists, and these lemmas say what each kind of step keeps and what it does to the lists.
use Rattle.std.proofs.Common.{◌≡◌, ◌≢◌, ℕ, ◌<◌, Bool, Option, Some, None, IfSome, IfNone, List, [], refl, sym, ap, ◌∙◌, subst, drop}
use Rattle.ic_link_ops.specs.Prelude.{Place, Objects, Places, Frees, object_at, with_object, first, Table, IsUnlinked, HasMember, Ends, no_members}
use Rattle.ic_link_ops.proofs.Prelude.{puts_other, put_there, put_others, first_is, nothing_first, some_same}
use Rattle.ic_link_ops.specs.DoublyEntries.{DoublyLinkOps, is_linked, neighbors_of, plain_table}
use Rattle.ic_link_ops.specs.LinkedList.{Neighbors, Represents}
use Rattle.ic_pool.specs.Pooled.{Grows}
use Rattle.ic_container.specs.Holds.{lists_in, members_in}
use Rattle.ic_container.specs.ListReadings.{ReadsLists}
use Rattle.ic_container.specs.ListArray.{ListArray, members_at, list_at, list_array_in, list_array_of, in_its_list, AreInTheirLists, IsFirst, IsListArray, IsEmpty, IsUnchanged, ListArrayAdds, ListArrayLeaves, ListArrayMoves, Pushes, Goes, TakesFirst, TakesOut, Renews}
use Rattle.ic_container.specs.NumberedLists.{Stays, owner_or, owner_of}
use Rattle.ic_container.proofs.HoldsLemmas.{list_reading, nothing_linked, wide_reads, holds_freed, holds_grown, holds_new, holds_none, holds_transferred, left, new_joined, new_off, none_stand, object_stands, lists_grown, lists_seen, transferred}
use Rattle.ic_container.proofs.NumberedListLemmas.{back_seen, leaves_seen, member_owner, no_front, puts_back}

module _ {L E : Type 0} {neighbors : E → Neighbors} {linked : E → Bool} {table : L → Table E} (reads : ReadsLists neighbors linked table) {T : Type 0} (objects : Objects T) (links : L) (lists : List Ends) where
  -- for each list, the table represents exactly the places that the `ListArray` has for this list
  lists_are : Stays (lists_in neighbors table links (list_at lists)) (members_at (list_array_in (members_in neighbors table) objects links lists))
  lists_are = lists_seen (list_reading reads) links lists

  -- AT FIRST all lists are empty and there is no object, so each object is in its list
  module _ (empty : (i : ℕ) → list_at lists i ≡ no_members) (vacant : (p : Place) → object_at objects p ≡ None) where
    pub in_lists_first : (list_index : T → ℕ) → (table links).extent.places ≡ 0 → AreInTheirLists list_index neighbors linked table objects links lists
    in_lists_first list_index none = record {
      reading = reads;
      holds = holds_none (list_reading reads) links empty (λ p. ap (owner_or (in_its_list list_index)) (vacant p)) (nothing_linked reads links none);
    }

    pub array_first : IsEmpty (list_array_in (members_in neighbors table) objects links lists)
    array_first = record { all_empty = λ i. lists_are i ∙ none_stand (list_reading reads) links empty i; no_object = vacant }

-- over a plain table of 8-byte words, for each list, the table represents exactly the places that the `ListArray` has for this list
module _ {T A : Type 0} (objects : Objects T) (links : DoublyLinkOps A) (lists : List Ends) where
  pub array_seen : Stays (lists_in neighbors_of plain_table links (list_at lists)) (members_at (list_array_of objects links lists))
  array_seen = lists_are wide_reads objects links lists

  module _ (empty : (i : ℕ) → list_at lists i ≡ no_members) (vacant : (p : Place) → object_at objects p ≡ None) where
    pub in_lists_none : (list_index : T → ℕ) → (plain_table links).extent.places ≡ 0 → IsListArray list_index objects links lists
    in_lists_none = in_lists_first wide_reads objects links lists empty vacant

    pub array_empty : IsEmpty (list_array_of objects links lists)
    array_empty = array_first wide_reads objects links lists empty vacant

module _ {L E : Type 0} {neighbors : E → Neighbors} {linked : E → Bool} {table : L → Table E} {T : Type 0} (list_index : T → ℕ) {objects : Objects T} {links : L} {lists : List Ends} (k : AreInTheirLists list_index neighbors linked table objects links lists) where
  -- the array of lists with these objects, as the table represents it
  abbrev array_at : Objects T → L → List Ends → ListArray T
  array_at = list_array_in (members_in neighbors table)

  -- an object is a member of the list with its index
  pub in_lists_stands : {p : Place} {v : T} → object_at objects p ≡ Some v → HasMember (Represents neighbors (table links) (list_at lists (list_index v))) p
  in_lists_stands there = object_stands (list_reading k.reading) (in_its_list list_index) objects k.holds there refl

  pub in_lists_unchanged : IsUnchanged (array_at objects links lists) (array_at objects links lists)
  in_lists_unchanged = record { same_lists = λ i. refl; same_values = refl }

  -- AFTER `place`, whatever the call returned, each object is in its list
  module _ (grown : L) (grows : Grows (table links) (table grown)) where
    pub in_lists_grown : AreInTheirLists list_index neighbors linked table objects grown lists
    in_lists_grown = record { reading = k.reading; holds = holds_grown (list_reading k.reading) k.holds grown grows }

    pub array_grown : IsUnchanged (array_at objects links lists) (array_at objects grown lists)
    array_grown = record { same_lists = λ i. lists_are k.reading objects grown lists i ∙ lists_grown (list_reading k.reading) k.holds grown grows i ∙ sym (lists_are k.reading objects links lists i); same_values = refl }

    -- A NEW OBJECT is not linked yet
    module _ {more : Objects T} {p : Place} {v : T} (places : Places objects more p v) where
      pub in_lists_off : IsUnlinked linked (table grown) p
      in_lists_off = new_off (list_reading k.reading) (in_its_list list_index) objects k.holds places grown grows

      -- a new object is inserted after all other objects of its list
      module _ (after : L) (ends : List Ends) {s : List Place} (e : ListArrayAdds neighbors linked (list_index v) (table grown) (table after) lists ends s p []) where
        pub in_lists_new : AreInTheirLists list_index neighbors linked table more after ends
        in_lists_new = record { reading = k.reading; holds = holds_new (list_reading k.reading) (in_its_list list_index) objects k.holds places grown grows (list_index v) after e.others refl e.edit }

        pub array_new : Pushes list_index p v (array_at objects links lists) (array_at more after ends)
        array_new = record {
          placed = places;
          back = back_seen _ _ (lists_are k.reading objects links lists) (lists_are k.reading more after ends)
              (puts_back (new_joined (list_reading k.reading) (in_its_list list_index) objects k.holds places grown grows (list_index v) after e.others refl e.edit));
        }

  module _ {p : Place} {v : T} (there : object_at objects p ≡ Some v) (after : L) (ends : List Ends) where
    -- Lemmas about an object that is removed from its list, and then from the objects
    module _ {less : Objects T} (frees : Frees objects less p) (e : (front : List Place) × (back : List Place) × ListArrayLeaves neighbors linked (list_index v) (table links) (table after) lists ends front p back) where
      pub in_lists_freed : AreInTheirLists list_index neighbors linked table less after ends
      in_lists_freed = record { reading = k.reading; holds = holds_freed (list_reading k.reading) (in_its_list list_index) objects k.holds frees (list_index v) after e.2.others e.2.edit }

      pub array_freed : TakesOut list_index p v (array_at objects links lists) (array_at less after ends)
      array_freed = record {
        front = e.0;
        back = e.1;
        goes = record {
          named = there;
          freed = frees;
          leaves = leaves_seen _ _ (lists_are k.reading objects links lists) (lists_are k.reading less after ends) (left (list_reading k.reading) k.holds (list_index v) after e.2.others e.2.edit);
        };
      }

    -- Lemmas about an object whose value was replaced by another value. The object moves to the list of the new value
    module _ (value : T) (e : ListArrayMoves neighbors linked table (list_index v) (list_index value) links after lists ends p) where
      pub in_lists_renewed : AreInTheirLists list_index neighbors linked table (with_object objects p value) after ends
      in_lists_renewed =
          let puts = puts_other objects p value in
          record {
            reading = k.reading;
            holds = holds_transferred (list_reading k.reading) k.holds (list_index v) e.mid e.off.others e.off.edit (list_index value) after e.on.others e.on.edit (ap (owner_or (in_its_list list_index)) (put_there puts))
                (λ q n. ap (owner_or (in_its_list list_index)) (put_others puts q n));
          }

      pub array_renewed : Renews list_index p v value (array_at objects links lists) (array_at (with_object objects p value) after ends)
      array_renewed =
          let t = transferred (list_reading k.reading) k.holds (list_index v) e.mid e.off.others e.off.edit (list_index value) after e.on.others e.on.edit in
          record {
            named = there;
            values = refl;
            between = lists_in neighbors table e.mid (list_at e.between);
            front = e.front;
            back = e.back;
            leaves = leaves_seen _ _ (lists_are k.reading objects links lists) (λ i. refl) t.0;
            joins = back_seen _ _ (λ i. refl) (lists_are k.reading (with_object objects p value) after ends) (puts_back t.1);
          }

  -- a list without a first place has no members. The lemmas from here on are about the first object of the first list that is not empty
  empty_at : (i : ℕ) → (list_at lists i).head ≡ None → members_at (array_at objects links lists) i ≡ []
  empty_at i none = lists_are k.reading objects links lists i ∙ nothing_first (lists_in neighbors table links (list_at lists) i) (sym none ∙ (k.holds.shown i).head)

  pub none_first : IsFirst lists None → (i : ℕ) → members_at (array_at objects links lists) i ≡ []
  none_first none i = empty_at i (none i)

  module _ (p : Place) (at : IsFirst lists (Some p)) where
    is_first : Some p ≡ first (lists_in neighbors table links (list_at lists) at.0)
    is_first = sym at.1 ∙ (k.holds.shown at.0).head

    first_owner : owner_of (in_its_list list_index) objects p ≡ Some at.0
    first_owner = member_owner k.holds.owned at.0 [] p (drop 1 (lists_in neighbors table links (list_at lists) at.0)) (first_is (lists_in neighbors table links (list_at lists) at.0) is_first)

    -- there is an object at the first place of the first list that is not empty
    pub first_named : object_at objects p ≢ None
    first_named none = let never : None ≡ Some at.0 = sym (ap (owner_or (in_its_list list_index)) none) ∙ first_owner in absurd (cc)

    -- if the object at the place p of `IsFirst` is removed, it was the first object of the first list that was not empty
    pub takes_first : (v : T) (new : ListArray T) → TakesOut list_index p v (array_at objects links lists) new → TakesFirst list_index v (array_at objects links lists) new
    takes_first v new out = record {
      place = p;
      back = out.back;
      goes = subst (λ (f : List Place). Goes list_index p v f out.back (array_at objects links lists) new) none out.goes;
      lowest = λ i less. empty_at i (at.2 i (subst (λ (n : ℕ). i < n) is_index less));
    } where
      is_index : list_index v ≡ at.0
      is_index = some_same (sym (ap (owner_or (in_its_list list_index)) out.goes.named) ∙ first_owner)

      none : out.front ≡ []
      none = no_front p (lists_in neighbors table links (list_at lists) at.0) (k.holds.shown at.0).distinct is_first out.front out.back
          (sym (lists_are k.reading objects links lists at.0) ∙ ap (members_at (array_at objects links lists)) (sym is_index) ∙ out.goes.leaves.was)

    -- if the call removed an object, this object was the first object of the first list that was not empty
    pub if_first_taken : (o : Option T) (new : ListArray T) → IfSome o (λ v. TakesOut list_index p v (array_at objects links lists) new) → IfSome o (λ v. TakesFirst list_index v (array_at objects links lists) new)
    if_first_taken None new out = tt
    if_first_taken (Some v) new out = takes_first v new out

    pub first_is_taken : (o : Option T) (X Y : Type 0) → IfNone o ((object_at objects p ≡ None) × X) → IfNone o Y
    first_is_taken None X Y none = absurd (first_named none.0)
    first_is_taken (Some v) X Y none = tt
