-- Lemmas for callers about a list together with the values of the objects at its members, in the order of the list.
use Rattle.std.proofs.Common.{◌≡◌, ◌≢◌, Bool, Option, Some, IsSome, IfSome, List, [], drop, take, ◌≤◌, is_some, length, ◌∷◌, ◌++◌, Result, OnOk, OnErr, ℕ, sym, ap, ◌∙◌, inl, inr, take_all}
use Rattle.std.proofs.lemmas.Option.{same_Some}
use Rattle.ic_link_ops.specs.Prelude.{Place, Objects, Places, Frees, object_at, first, Table, IsLinked, LinksAlso, Unlinks, object_there, RepresentsPlaced, StandAt, Ends}
use Rattle.ic_link_ops.proofs.Prelude.{same_or_not, placed_there, others_placed, others_left, some_same}
use Rattle.ic_link_ops.specs.LinkedList.{Neighbors, Represents}
use Rattle.ic_link_ops.proofs.DoublyLists.{doubly_lists}
use Rattle.ic_linked_list.specs.ListedValues.{HasValues}
use Rattle.ic_link_ops.proofs.Calling.{accepted, still_represented}
use Rattle.ic_link_ops.proofs.PlacedValues.{stand_begins, stand_beside, stand_placed, stand_rest}

-- if the objects at the places s have the values v and then `values`, the object at the first place of s has the value v
front_of : {T : Type 0} {objects : Objects T} (s : List Place) {v : T} {values : List T} → StandAt objects s (v ∷ values)
    → (p : Place) × (Some p ≡ first s) × (object_at objects p ≡ Some v)
front_of s {v} {values} stand = elim (stand_begins s stand) [
  | inl none ↦ absurd (cc)
  | inr begin ↦ let same : begin.value ≡ v = cc begin.begin in (begin.place, begin.first, begin.there ∙ ap Some same)
]

module _ {E T : Type 0} {n : E → Neighbors} {linked : E → Bool} where
  -- the table represents the members of a list of values, and an object is at each member. A call of `iter` requires these facts
  pub has_placed : {t : Table E} {list : Ends} {objects : Objects T} {values : List T} → HasValues n linked t list objects values
      → RepresentsPlaced (Represents n t list) objects
  has_placed has = record { members = has.members; shown = has.shown; placed = has.placed }

  stand_of : {t : Table E} {list : Ends} {objects : Objects T} {values : List T} (has : HasValues n linked t list objects values) → StandAt objects has.members values
  stand_of has = record { placed = has.placed; are = has.are }

  -- a position on the first member of a list of values is on an object with the first value
  pub has_first : {t : Table E} {list : Ends} {objects : Objects T} {v : T} {values : List T} {position : Option Place} → HasValues n linked t list objects (v ∷ values)
      → ((s : List Place) → Represents n t list s → position ≡ first s) → IsSome position × (object_there objects position ≡ Some v)
  has_first {objects = objects} has answer =
      let f = front_of has.members (stand_of has) in
      let on = answer has.members has.shown ∙ sym f.1 in (ap is_some on, ap (object_there objects) on ∙ f.2)

  -- a list of the first `count` values is a list of all values, if `count` is at least the number of values. A loop that links the objects of the values one
  -- by one has such a `count` at its end
  pub has_all : {t : Table E} {list : Ends} {objects : Objects T} {values : List T} {count : ℕ} → HasValues n linked t list objects (take count values)
      → length values ≤ count → HasValues n linked t list objects values
  has_all {values = values} {count} has over = rw (take_all count values over) at has

  -- AFTER A CALL OF `cover` a list of values stays one, because no entry changes, whatever the call returns
  pub has_covered : {old new : Table E} {list : Ends} {objects : Objects T} {values : List T} → ((q : Place) → new.entry q ≡ old.entry q)
      → HasValues n linked old list objects values → HasValues n linked new list objects values
  has_covered stays has = record {
    members = has.members;
    shown = still_represented stays has.shown;
    placed = has.placed;
    are = has.are;
    vacant = λ p none. rw (stays p) (has.vacant p none);
  }

  -- AFTER `from_box` AND `push_back` of a new object, the list has the old values and then the value of the new object. The link of the new object is
  -- not refused
  pub has_pushed : {t0 t1 : Table E} {list0 list1 : Ends} {old new : Objects T} {values all : List T} {p : Place} {v : T} {A X : Type 0} (Same : Type 0) (r : Result A X)
      → HasValues n linked t0 list0 old values → Places old new p v → ((s : List Place) → Represents n t0 list0 s → OnOk r (Represents n t1 list1 (s ++ p ∷ [])))
      → OnOk r (LinksAlso linked t0 t1 p) → OnErr r (IsLinked linked t0 p × Same) → all ≡ values ++ v ∷ [] → HasValues n linked t1 list1 new all
  has_pushed {t0} {t1} {list0} {list1} {old} {new} {values} {all} {p} {v} Same r has places inserted acquired refused more =
      let off = has.vacant p places.vacant in
      let links : LinksAlso linked t0 t1 p = accepted Same r off refused acquired in
      let with = stand_placed places (stand_of has) in record {
        members = has.members ++ p ∷ [];
        shown = accepted Same r off refused (inserted has.members has.shown);
        placed = with.placed;
        are = with.are ∙ sym more;
        vacant = λ q none.
            let other : q ≢ p = λ e. let never = sym none ∙ ap (object_at new) e ∙ placed_there places in absurd (cc) in
            links.others q other ∙ has.vacant q (sym (others_placed places q other) ∙ none);
      }

  -- AFTER `pop_front` AND `into_box` of the popped object, the object that was taken has the first value, and the list has the other values
  pub has_taken : ((e : E) → (n e).linked ≡ linked e) → {t0 t1 : Table E} {list0 list1 : Ends} {old new : Objects T} {v taken : T} {values : List T} {popped : Option Place} {p : Place}
      → HasValues n linked t0 list0 old (v ∷ values) → ((s : List Place) → Represents n t0 list0 s → popped ≡ first s) → ((s : List Place) → Represents n t0 list0 s → Represents n t1 list1 (drop 1 s))
      → IfSome popped (Unlinks linked t0 t1) → popped ≡ Some p → object_at old p ≡ Some taken → Frees old new p
      → (taken ≡ v) × HasValues n linked t1 list1 new values
  has_taken alike {t0} {t1} {list0} {list1} {old} {new} {v} {taken} {values} {popped} {p} has answer removed released is stood frees =
      let f = front_of has.members (stand_of has) in
      let one : f.0 ≡ p = some_same (f.1 ∙ sym (answer has.members has.shown) ∙ is) in
      let links : Unlinks linked t0 t1 p = rw is at released in
      let shown = removed has.members has.shown in
      let absent = (doubly_lists alike).free t1 list1 (drop 1 has.members) p shown links.is in
      let rest = stand_beside old new p (others_left frees) absent (stand_rest old f.0 f.2 f.1 (stand_of has)) in (
        same_Some _ _ (sym stood ∙ rw one at f.2),
        record {
          members = drop 1 has.members;
          shown = shown;
          placed = rest.placed;
          are = rest.are;
          vacant = λ q none. elim (same_or_not q p) [
            | inl e ↦ rw e links.is
            | inr other ↦ links.others q other ∙ has.vacant q (sym (others_left frees q other) ∙ none)
          ];
        },
      )
