-- All objects of a container are in one list. These lemmas are about the ends of the list: the count, the first and the last object, and inserts at the
-- back.
use Rattle.std.proofs.Common.{◌≡◌, Bool, true, Option, None, Some, IfSome, IsSome, List, [], ◌∷◌, ◌++◌, ◌∙◌, ap, sym, refl, subst, length, append-nil, length-append, arith, true≢false}
use Rattle.std.proofs.lemmas.List.Elements.{filter_map-append}
use Rattle.std.specs.FinMap as map
use Rattle.std.specs.List.{cons_option}
use Rattle.ic_link_ops.specs.Prelude.{Place, Objects, Places, Frees, is_placed, object_at, first, last, IsAbsent, IsDistinct, Table, object_there, ArePlaced, RepresentsPlaced, values_at, Ends, no_members}
use Rattle.ic_link_ops.proofs.Prelude.{others_left, others_placed, placed_there, values_beside, distinct_middle, none_not}
use Rattle.ic_link_ops.specs.LinkedList.{Neighbors, Represents}
use Rattle.ic_pool.specs.Pooled.{Grows}
use Rattle.ic_container.specs.Holds.{members_in, ListAdds, ListMoves}
use Rattle.ic_container.specs.ListReadings.{ReadsLists}
use Rattle.ic_container.specs.Orders.{Order, values_of, IsListed, IsWhole}
use Rattle.ic_container.specs.NumberedLists.{to_one}
use Rattle.ic_container.specs.Values.{first_value, last_value, Without}
use Rattle.ic_container.proofs.CountLemmas.{count_placed, length_moved}
use Rattle.ic_container.proofs.HoldsLemmas.{list_reading, holds_moved, holds_new, moved, new_absent, new_joined}
use Rattle.ic_container.proofs.ListedLemmas.{listed_first, listed_last, listed_placed}
use Rattle.ic_container.proofs.NumberedListLemmas.{alone_others, no_front, puts_back, without_last}
use Rattle.ic_container.proofs.ValueLemmas.{as_many, last_is}

-- AT THE ENDS of a list of values: if there is no first or no last value, the list is empty
pub no_first : {T : Type 0} (values : List T) → first_value values ≡ None → values ≡ []
no_first [] e = refl
no_first (x ∷ values) e = absurd (none_not x (sym e))

pub no_last : {T : Type 0} (values : List T) → last_value values ≡ None → values ≡ []
no_last [] e = refl
no_last (x ∷ []) e = absurd (none_not x (sym e))
no_last (x ∷ y ∷ values) e = let r = ap length (no_last (y ∷ values) e) in absurd (omega (arith, r))

-- the object at the first member of a sequence is the first of its values
pub first_is_there : {T : Type 0} (objects : Objects T) (s : List Place) → ArePlaced objects s → object_there objects (first s) ≡ first_value (values_at objects s)
first_is_there objects [] placed = refl
first_is_there {T} objects (x ∷ s) placed = by (object_at objects x) placed.0 where
  by : (o : Option T) → IsSome o → o ≡ first_value (cons_option o (values_at objects s))
  by None h = absurd (true≢false (sym h))
  by (Some value) h = refl

-- if no object is at the last member of a sequence, the sequence has no values
pub none_at : {T : Type 0} (objects : Objects T) (s : List Place) → ArePlaced objects s → object_there objects (last s) ≡ None → values_at objects s ≡ []
none_at objects s placed none = no_last (values_at objects s) (sym (last_is objects s placed) ∙ none)

module _ {T : Type 0} {o : Order T} (w : IsWhole o) where
  -- an order has as many values as places
  pub whole_count : length (values_of o) ≡ length o.order
  whole_count = as_many o.values o.order w.placed

  -- ONE OBJECT IS REMOVED: if it was the first, the others come after it, and if it was the last, the others come before it
  module _ {less : Order T} {p : Place} {out : T} (there : object_at o.values p ≡ Some out) (frees : Frees o.values less.values p) (is : Without p o.order less.order) where
    apart : IsAbsent p (is.front ++ is.back)
    apart = distinct_middle is.front is.back p (subst IsDistinct is.was w.once)

    same : values_of less ≡ values_at o.values (is.front ++ is.back)
    same = ap (values_at less.values) is.is ∙ values_beside o.values less.values p (others_left frees) (is.front ++ is.back) apart

    cut : values_of o ≡ values_at o.values is.front ++ out ∷ values_at o.values is.back
    cut =
        ap (values_at o.values) is.was ∙ filter_map-append (object_at o.values) is.front (p ∷ is.back)
        ∙ ap (λ (v : Option T). values_at o.values is.front ++ cons_option v (values_at o.values is.back)) there

    pub first_out : first o.order ≡ Some p → values_of o ≡ out ∷ values_of less
    first_out e =
        let none = no_front p o.order w.once (sym e) is.front is.back is.was in
        cut ∙ ap (λ (s : List Place). values_at o.values s ++ out ∷ values_at o.values is.back) none
        ∙ ap (λ (l : List T). out ∷ l) (sym (same ∙ ap (λ (s : List Place). values_at o.values (s ++ is.back)) none))

    pub last_out : last o.order ≡ Some p → values_of o ≡ values_of less ++ out ∷ []
    last_out e =
        let none = without_last o.order w.once e is.front is.back is.was in
        cut ∙ ap (λ (s : List Place). values_at o.values is.front ++ out ∷ values_at o.values s) none
        ∙ ap (λ (l : List T). l ++ out ∷ []) (sym (same ∙ ap (λ (s : List Place). values_at o.values (is.front ++ s)) none ∙ ap (values_at o.values) (append-nil is.front)))

module _ {L E : Type 0} {neighbors : E → Neighbors} {linked : E → Bool} {table : L → Table E} {T : Type 0} {objects : Objects T} {links : L} {list : Ends} (k : IsListed neighbors linked table objects links list) where
  -- the list has as many values as there are objects
  pub listed_count : map.len objects.values ≡ length (values_at objects (members_in neighbors table links list))
  listed_count = k.count ∙ sym (as_many objects (members_in neighbors table links list) (listed_placed k))

  -- the object at the head of the list is the first value
  pub first_there : object_there objects list.head ≡ first_value (values_at objects (members_in neighbors table links list))
  first_there = ap (object_there objects) (k.holds.shown 0).head ∙ first_is_there objects (members_in neighbors table links list) (listed_placed k)

  -- if the list has no head, there is no value
  pub none_first : list.head ≡ None → values_at objects (members_in neighbors table links list) ≡ []
  none_first e = no_first (values_at objects (members_in neighbors table links list)) (sym first_there ∙ ap (object_there objects) e)

  pub none_last : list.tail ≡ None → values_at objects (members_in neighbors table links list) ≡ []
  none_last e = none_at objects (members_in neighbors table links list) (listed_placed k) (ap (object_there objects) (sym (k.holds.shown 0).tail ∙ e))

  -- if the list has a head, there is an object at the head
  pub first_placed : {p : Place} → list.head ≡ Some p → is_placed objects p ≡ true
  first_placed e = subst (λ (o : Option Place). IfSome o (λ p. is_placed objects p ≡ true)) e (listed_first k)

  pub last_is_placed : {p : Place} → list.tail ≡ Some p → is_placed objects p ≡ true
  last_is_placed e = subst (λ (o : Option Place). IfSome o (λ p. is_placed objects p ≡ true)) e (listed_last k)

  -- a walk over the list can return all objects
  pub all_walked : RepresentsPlaced (Represents neighbors (table links) list) objects
  all_walked = record { members = members_in neighbors table links list; shown = k.holds.shown 0; placed = listed_placed k }

  -- Lemmas about a new object that is inserted after all other objects
  module _ (grown : L) (grows : Grows (table links) (table grown)) {p : Place} {value : T} {new : Objects T} (places : Places objects new p value) (after : L) (ends : Ends) {s : List Place} (e : ListAdds neighbors linked (table grown) (table after) list ends s p []) where
    pub order_after : members_in neighbors table after ends ≡ members_in neighbors table links list ++ p ∷ []
    order_after = (puts_back (new_joined (list_reading k.reading) to_one objects k.holds places grown grows 0 after (alone_others no_members list ends) refl e)).is

    pub listed_after : IsListed neighbors linked table new after ends
    listed_after = record {
      reading = k.reading;
      holds = holds_new (list_reading k.reading) to_one objects k.holds places grown grows 0 after (alone_others no_members list ends) refl e;
      count = omega (arith, k.count, count_placed places, ap length order_after, length-append (members_in neighbors table links list) (p ∷ []));
    }

    pub listed_values_after : values_at new (members_in neighbors table after ends) ≡ values_at objects (members_in neighbors table links list) ++ value ∷ []
    listed_values_after =
        ap (values_at new) order_after ∙ filter_map-append (object_at new) (members_in neighbors table links list) (p ∷ [])
        ∙ ap (λ (v : Option T). values_at new (members_in neighbors table links list) ++ cons_option v []) (placed_there places)
        ∙ ap (λ (l : List T). l ++ value ∷ []) (values_beside objects new p (others_placed places) (members_in neighbors table links list) (new_absent (list_reading k.reading) to_one objects k.holds places grown grows 0))

  -- Lemmas about an object that has moved to the position after all other objects
  module _ {p : Place} (after : L) (ends : Ends) (e : (front : List Place) × (back : List Place) × (before : List Place) × ListMoves neighbors linked (table links) (table after) list ends front p back before []) where
    pub listed_moved_after : IsListed neighbors linked table objects after ends
    listed_moved_after = record {
      reading = k.reading;
      holds = holds_moved (list_reading k.reading) k.holds 0 after (alone_others no_members list ends) e.3;
      count = k.count ∙ sym (length_moved (moved (list_reading k.reading) k.holds 0 after (alone_others no_members list ends) e.3));
    }

    pub order_moved_after : (others : List Place) × Without p (members_in neighbors table links list) others × (members_in neighbors table after ends ≡ others ++ p ∷ [])
    order_moved_after =
        let t = moved (list_reading k.reading) k.holds 0 after (alone_others no_members list ends) e.3 in
        (e.2, record { front = e.0; back = e.1; was = t.was; is = sym (t.rest ∙ append-nil e.2) }, t.is)

    pub listed_values_moved_after : {value : T} → object_at objects p ≡ Some value
        → (rest : List T) × Without value (values_at objects (members_in neighbors table links list)) rest × (values_at objects (members_in neighbors table after ends) ≡ rest ++ value ∷ [])
    listed_values_moved_after {value} there =
        let t = moved (list_reading k.reading) k.holds 0 after (alone_others no_members list ends) e.3 in (
          values_at objects e.0 ++ values_at objects e.1,
          record {
            front = values_at objects e.0;
            back = values_at objects e.1;
            was = ap (values_at objects) t.was ∙ filter_map-append (object_at objects) e.0 (p ∷ e.1) ∙ ap (λ (v : Option T). values_at objects e.0 ++ cons_option v (values_at objects e.1)) there;
            is = refl;
          },
          ap (values_at objects) (t.is ∙ ap (λ (l : List Place). l ++ p ∷ []) (sym (t.rest ∙ append-nil e.2))) ∙ filter_map-append (object_at objects) (e.0 ++ e.1) (p ∷ [])
              ∙ ap (λ (v : Option T). values_at objects (e.0 ++ e.1) ++ cons_option v []) there
              ∙ ap (λ (l : List T). l ++ value ∷ []) (filter_map-append (object_at objects) e.0 e.1),
        )
