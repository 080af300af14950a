-- Objects are in an array of lists over one table. Each object has the index of the list in which it is.
use Rattle.std.specs.Prelude.{◌≡◌, ◌≢◌, ℕ, ◌<◌, Bool, Option, Some, None, List, [], map, refl}
use Rattle.std.specs.Coded.{Coded, code_by, coded×, coded_list}
use Rattle.ic_link_ops.specs.Prelude.{Place, place_code, Objects, Places, Frees, object_at, objects_code, with_object, Table, Ends, no_members, Neighbors}
use Rattle.ic_link_ops.specs.DoublyEntries as wide
use Rattle.ic_link_ops.specs.DoublyEntries.{DoublyLinkOps}
use Rattle.ic_container.specs.Holds.{HoldsLists, ListAdds, ListLeaves, members_in}
use Rattle.ic_container.specs.ListReadings.{ReadsLists}
use Rattle.ic_container.specs.NumberedLists.{NumberedLists, Stays, PutsBack, Leaves, owner_of, listed}

-- list i of the array, or an empty list beyond the last one
abbrev pub list_at : List Ends → ℕ → Ends
list_at = listed no_members

module _ {E : Type 0} (neighbors : E → Neighbors) (linked : E → Bool) where
  -- ONE EDIT of list k: a place joins the list (`ListArrayAdds`) or leaves it (`ListArrayLeaves`), and the other lists stay as they were
  module _ (k : ℕ) (old new : Table E) (lists after : List Ends) where
    pub record ListArrayAdds (front : List Place) (p : Place) (back : List Place) : Type 0 where
      pub edit : ListAdds neighbors linked old new (list_at lists k) (list_at after k) front p back
      pub others : (i : ℕ) → i ≢ k → list_at after i ≡ list_at lists i

    pub record ListArrayLeaves (front : List Place) (p : Place) (back : List Place) : Type 0 where
      pub edit : ListLeaves neighbors linked old new (list_at lists k) (list_at after k) front p back
      pub others : (i : ℕ) → i ≢ k → list_at after i ≡ list_at lists i

  -- the place p moves from anywhere in list k to the back of list j
  pub record ListArrayMoves {L : Type 0} (table : L → Table E) (k j : ℕ) (old new : L) (lists after : List Ends) (p : Place) : Type 0 where
    pub mid : L
    pub between : List Ends
    pub front : List Place
    pub back : List Place
    pub off : ListArrayLeaves k (table old) (table mid) lists between front p back
    pub on : ListArrayAdds j (table mid) (table new) between after (members_in neighbors table mid (list_at between j)) p []

-- THE FIRST PLACE of all is the first place of the first list that is not empty. If all lists are empty, there is none
abbrev pub IsFirst : List Ends → Option Place → Type 0
IsFirst lists None = (i : ℕ) → (list_at lists i).head ≡ None
IsFirst lists (Some p) = (k : ℕ) × ((list_at lists k).head ≡ Some p) × ((i : ℕ) → i < k → (list_at lists i).head ≡ None)

-- `lists` has the places of each list, from front to back, and `values` has the objects
pub record ListArray (T : Type 0) : Type 0 where
  pub lists : List (List Place)
  pub values : Objects T

-- a value of the type `ListArray` is stored as the pair of its fields
abbrev pub list_array_code : {T : Type 0} → Coded T → Coded (ListArray T)
list_array_code {T} code =
    code_by (List (List Place) × Objects T) (coded× (coded_list (coded_list place_code)) (objects_code code)) (λ l. (l.lists, l.values)) (λ p. record { lists = p.0; values = p.1 }) (λ _. refl)

-- the places of list i, or none beyond the last list
abbrev pub members_at : {T : Type 0} → ListArray T → NumberedLists
members_at l = listed [] l.lists

-- `list_array_in` has the members that `members` gives for each list, and the objects. `list_array_of` has the members that a plain table of 8-byte words
-- represents for each list
abbrev pub list_array_in : {T L : Type 0} → (L → Ends → List Place) → Objects T → L → List Ends → ListArray T
list_array_in members objects links lists = record { lists = map (λ list. members links list) lists; values = objects }

abbrev pub list_array_of : {T A : Type 0} → Objects T → DoublyLinkOps A → List Ends → ListArray T
list_array_of = list_array_in wide.members_of

-- THERE IS NO OBJECT, and each list is empty
pub record IsEmpty {T : Type 0} (l : ListArray T) : Type 0 where
  pub all_empty : (i : ℕ) → members_at l i ≡ []
  pub no_object : (p : Place) → object_at l.values p ≡ None

-- NOTHING HAS CHANGED in any list, and no object has changed
pub record IsUnchanged {T : Type 0} (old new : ListArray T) : Type 0 where
  pub same_lists : Stays (members_at old) (members_at new)
  pub same_values : new.values ≡ old.values

module _ {T : Type 0} (list_index : T → ℕ) where
  -- ONE OBJECT MORE: the object `value` is stored at the place p, which is now the last of its list
  pub record Pushes (p : Place) (value : T) (old new : ListArray T) : Type 0 where
    pub placed : Places old.values new.values p value
    pub back : PutsBack (list_index value) p (members_at old) (members_at new)

  -- ONE OBJECT LESS: the object `value` at the place p is removed from its list, where it was between the places `front` and the places `back`
  pub record Goes (p : Place) (value : T) (front back : List Place) (old new : ListArray T) : Type 0 where
    pub named : object_at old.values p ≡ Some value
    pub freed : Frees old.values new.values p
    pub leaves : Leaves (list_index value) front p back (members_at old) (members_at new)

  -- the object `value` is removed, which was the first object of the first list that had one
  pub record TakesFirst (value : T) (old new : ListArray T) : Type 0 where
    pub place : Place
    pub back : List Place
    pub goes : Goes place value [] back old new
    pub lowest : (i : ℕ) → i < list_index value → members_at old i ≡ []

  -- the object `value` at the place p is removed, at whichever position of its list it was
  pub record TakesOut (p : Place) (value : T) (old new : ListArray T) : Type 0 where
    pub front : List Place
    pub back : List Place
    pub goes : Goes p value front back old new

  -- ANOTHER VALUE replaces the value `out` of the object at p. The object moves from its list to the back of the list of the new value
  pub record Renews (p : Place) (out value : T) (old new : ListArray T) : Type 0 where
    pub named : object_at old.values p ≡ Some out
    pub values : new.values ≡ with_object old.values p value
    pub between : NumberedLists
    pub front : List Place
    pub back : List Place
    pub leaves : Leaves (list_index out) front p back (members_at old) between
    pub joins : PutsBack (list_index value) p between (members_at new)

  -- an object belongs in the list with the index that `list_index` gives for it
  abbrev pub in_its_list : T → Option ℕ
  in_its_list value = Some (list_index value)

  -- WHAT AN ARRAY OF LISTS MAINTAINS: each list has the objects with its index, and no other place is linked
  module _ {L E : Type 0} (neighbors : E → Neighbors) (linked : E → Bool) (table : L → Table E) where
    pub record AreInTheirLists (objects : Objects T) (links : L) (lists : List Ends) : Type 0 where
      pub reading : ReadsLists neighbors linked table
      pub holds : HoldsLists neighbors linked table links (list_at lists) (owner_of in_its_list objects)

  -- over a plain table of 8-byte words, each list has the objects with its index, and no other place is linked
  abbrev pub IsListArray : {A : Type 0} → Objects T → DoublyLinkOps A → List Ends → Type 0
  IsListArray = AreInTheirLists wide.neighbors_of wide.is_linked wide.plain_table
