-- All objects of a container are in one list, and these lemmas say what each kind of step keeps and what it does to the order and the values.
use Rattle.std.proofs.Common.{◌≡◌, ◌≢◌, ◌+◌, ◌-◌, Bool, true, Option, None, Some, IfSome, is_some, List, [], ◌∷◌, ◌++◌, ◌∙◌, ap, sym, refl, subst, length, length-append, arith, nat_cmp}
use Rattle.std.specs.FinMap as map
use Rattle.std.specs.FinMap.{len-empty}
use Rattle.ic_link_ops.specs.Prelude.{Place, Objects, Places, Frees, object_at, is_placed, first, last, IsDistinct, Table, IsUnlinked, HasMember, object_there, ArePlaced, values_at, Ends, no_members}
use Rattle.ic_link_ops.proofs.Prelude.{Puts, others_left, others_placed, placed_there, first_is, member_split}
use Rattle.ic_container.proofs.CountLemmas.{count_freed, count_placed, count_put, length_moved}
use Rattle.ic_link_ops.specs.LinkedList.{Neighbors, Represents}
use Rattle.ic_pool.specs.Pooled.{Grows}
use Rattle.ic_container.specs.Holds.{members_in, ListAdds, ListLeaves, ListMoves}
use Rattle.ic_container.specs.ListReadings.{ReadsLists}
use Rattle.ic_container.specs.Orders.{Order, order_of, values_of, IsListed, IsWhole}
use Rattle.ic_container.specs.NumberedLists.{owner_or, to_one}
use Rattle.ic_container.specs.Values.{last_value, Without}
use Rattle.ic_container.proofs.HoldsLemmas.{list_reading, nothing_linked, none_stand, holds_none, holds_changed, holds_freed, holds_grown, holds_moved, holds_new, left, moved, new_absent, new_joined, new_off, lists_grown, stands}
use Rattle.ic_container.proofs.NumberedListLemmas.{alone_none, alone_others, owned_placed, owner_one, puts_front}
use Rattle.ic_container.proofs.ValueLemmas.{last_is, last_placed, value_cut, values_front, values_left, values_moved}

-- AN OBJECT of an order is one of its values
pub whole_value : {T : Type 0} {o : Order T} → IsWhole o → (p : Place) {value : T} → object_at o.values p ≡ Some value → (rest : List T) × Without value (values_of o) rest
whole_value {o = o} w p there =
    let at = member_split p o.order (w.all p (ap is_some there)) in value_cut o.values o.values (λ q n. refl) there o.order at.0 at.1 at.2

-- AT FIRST the list is empty and there is no object, so each object is in the list
module _ {L E : Type 0} {neighbors : E → Neighbors} {linked : E → Bool} {table : L → Table E} (reads : ReadsLists neighbors linked table) (links : L) {list : Ends} (none : list ≡ no_members) where
  pub order_none : members_in neighbors table links list ≡ []
  order_none = none_stand (list_reading reads) links (alone_none no_members list none) 0

  pub listed_none : {T : Type 0} {objects : Objects T} → objects.values ≡ map.empty → ((p : Place) → object_at objects p ≡ None) → (table links).extent.places ≡ 0 → IsListed neighbors linked table objects links list
  listed_none empty vacant off = record {
    reading = reads;
    holds = holds_none (list_reading reads) links (alone_none no_members list none) (λ p. ap (owner_or to_one) (vacant p)) (nothing_linked reads links off);
    count = ap map.len empty ∙ len-empty nat_cmp _ ∙ sym (ap length order_none);
  }

module _ {L E : Type 0} {neighbors : E → Neighbors} {linked : E → Bool} {table : L → Table E} {T : Type 0} {objects : Objects T} {links : L} {list : Ends} (k : IsListed neighbors linked table objects links list) where
  -- an object is a member of the list
  pub listed_stands : {p : Place} → is_placed objects p ≡ true → HasMember (Represents neighbors (table links) list) p
  listed_stands {p} is = stands (list_reading k.reading) k.holds 0 p (owner_one objects p is)

  pub listed_distinct : IsDistinct (members_in neighbors table links list)
  listed_distinct = (k.holds.shown 0).distinct

  pub listed_placed : ArePlaced objects (members_in neighbors table links list)
  listed_placed = owned_placed objects 0 (members_in neighbors table links list) (k.holds.owned.own 0)

  pub listed_whole : IsWhole (order_of neighbors table objects links list)
  listed_whole = record { once = listed_distinct; placed = listed_placed; all = λ p is. k.holds.owned.all p 0 (owner_one objects p is) }

  -- there is an object at the head of the list and one at its tail, if the list is not empty
  pub listed_first : IfSome list.head (λ p. is_placed objects p ≡ true)
  listed_first = by list.head (k.holds.shown 0).head listed_placed where
    by : (o : Option Place) → o ≡ first (members_in neighbors table links list) → ArePlaced objects (members_in neighbors table links list) → IfSome o (λ p. is_placed objects p ≡ true)
    by None e placed = tt
    by (Some p) e placed = (subst (ArePlaced objects) (first_is (members_in neighbors table links list) e) placed).0

  pub listed_last : IfSome list.tail (λ p. is_placed objects p ≡ true)
  listed_last = by list.tail (k.holds.shown 0).tail where
    by : (o : Option Place) → o ≡ last (members_in neighbors table links list) → IfSome o (λ p. is_placed objects p ≡ true)
    by None e = tt
    by (Some p) e = last_placed objects (members_in neighbors table links list) (sym e) listed_placed

  -- the object at the tail of the list is the last value
  pub last_there : object_there objects list.tail ≡ last_value (values_at objects (members_in neighbors table links list))
  last_there = ap (object_there objects) (k.holds.shown 0).tail ∙ last_is objects (members_in neighbors table links list) listed_placed

  -- AFTER `place`, whatever the call returned, each object is in the list
  module _ (grown : L) (grows : Grows (table links) (table grown)) where
    pub listed_grown : IsListed neighbors linked table objects grown list
    listed_grown = record { reading = k.reading; holds = holds_grown (list_reading k.reading) k.holds grown grows; count = k.count ∙ sym (ap length (lists_grown (list_reading k.reading) k.holds grown grows 0)) }

    pub order_grown : order_of neighbors table objects grown list ≡ order_of neighbors table objects links list
    order_grown = ap (λ (s : List Place). record { order = s; values = objects }) (lists_grown (list_reading k.reading) k.holds grown grows 0)

    -- A NEW OBJECT is not linked yet
    module _ {p : Place} {value : T} {new : Objects T} (places : Places objects new p value) where
      pub listed_off : IsUnlinked linked (table grown) p
      listed_off = new_off (list_reading k.reading) to_one objects k.holds places grown grows

      -- Lemmas about a new object that is inserted before all other objects
      module _ (after : L) (ends : Ends) {s : List Place} (e : ListAdds neighbors linked (table grown) (table after) list ends [] p s) where
        pub order_new : members_in neighbors table after ends ≡ p ∷ members_in neighbors table links list
        order_new = (puts_front (new_joined (list_reading k.reading) to_one objects k.holds places grown grows 0 after (alone_others no_members list ends) refl e)).is

        pub listed_new : IsListed neighbors linked table new after ends
        listed_new = record {
          reading = k.reading;
          holds = holds_new (list_reading k.reading) to_one objects k.holds places grown grows 0 after (alone_others no_members list ends) refl e;
          count = omega (arith, k.count, count_placed places, ap length order_new);
        }

        pub listed_values_new : values_at new (members_in neighbors table after ends) ≡ value ∷ values_at objects (members_in neighbors table links list)
        listed_values_new =
            values_front objects new (others_placed places) (placed_there places)
            (new_joined (list_reading k.reading) to_one objects k.holds places grown grows 0 after (alone_others no_members list ends) refl e)
            (new_absent (list_reading k.reading) to_one objects k.holds places grown grows 0)

  -- Lemmas about an object that has moved to the position before all other objects
  module _ {p : Place} (after : L) (ends : Ends) (e : (front : List Place) × (back : List Place) × (following : List Place) × ListMoves neighbors linked (table links) (table after) list ends front p back [] following) where
    pub listed_moved : IsListed neighbors linked table objects after ends
    listed_moved = record {
      reading = k.reading;
      holds = holds_moved (list_reading k.reading) k.holds 0 after (alone_others no_members list ends) e.3;
      count = k.count ∙ sym (length_moved (moved (list_reading k.reading) k.holds 0 after (alone_others no_members list ends) e.3));
    }

    pub order_moved : (others : List Place) × Without p (members_in neighbors table links list) others × (members_in neighbors table after ends ≡ p ∷ others)
    order_moved = let t = moved (list_reading k.reading) k.holds 0 after (alone_others no_members list ends) e.3 in (e.2, record { front = e.0; back = e.1; was = t.was; is = sym t.rest }, t.is)

    -- an object moves to the front with its old value or with another value, and the other values keep their order
    pub listed_values_moved : (new : Objects T) → ((q : Place) → q ≢ p → object_at new q ≡ object_at objects q) → {out value : T} → object_at objects p ≡ Some out → object_at new p ≡ Some value
        → (rest : List T) × Without out (values_at objects (members_in neighbors table links list)) rest × (values_at new (members_in neighbors table after ends) ≡ value ∷ rest)
    listed_values_moved new same was there =
        values_moved objects new same was listed_distinct there (moved (list_reading k.reading) k.holds 0 after (alone_others no_members list ends) e.3)

  -- ANOTHER VALUE has replaced the value of an object, and each object is still in the list
  pub listed_changed : {new : Objects T} {p : Place} {value : T} → is_placed objects p ≡ true → Puts objects new p value → IsListed neighbors linked table new links list
  listed_changed {p = p} is puts = record { reading = k.reading; holds = holds_changed (list_reading k.reading) to_one objects k.holds puts (sym (owner_one objects p is)); count = count_put is puts ∙ k.count }

  -- Lemmas about an object that is removed from the list, and then from the objects
  module _ {p : Place} {less : Objects T} (frees : Frees objects less p) (after : L) (ends : Ends) {front back : List Place} (e : ListLeaves neighbors linked (table links) (table after) list ends front p back) where
    pub order_freed : Without p (members_in neighbors table links list) (members_in neighbors table after ends)
    order_freed = let l = left (list_reading k.reading) k.holds 0 after (alone_others no_members list ends) e in record { front = front; back = back; was = l.was; is = l.is }

    pub listed_freed : IsListed neighbors linked table less after ends
    listed_freed = record {
      reading = k.reading;
      holds = holds_freed (list_reading k.reading) to_one objects k.holds frees 0 after (alone_others no_members list ends) e;
      count = count_freed listed_placed frees order_freed k.count;
    }

    pub listed_values_freed : {out : T} → object_at objects p ≡ Some out → Without out (values_at objects (members_in neighbors table links list)) (values_at less (members_in neighbors table after ends))
    listed_values_freed there =
        values_left objects less (others_left frees) there listed_distinct (left (list_reading k.reading) k.holds 0 after (alone_others no_members list ends) e)
