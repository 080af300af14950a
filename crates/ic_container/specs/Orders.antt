-- A container has its objects in an order.
use Rattle.std.specs.Prelude.{◌≡◌, Bool, true, List, length, refl}
use Rattle.std.specs.FinMap as map
use Rattle.std.specs.Coded.{Coded, code_by, coded×, coded_list}
use Rattle.ic_link_ops.specs.Prelude.{Place, place_code, Objects, is_placed, objects_code, IsDistinct, IsMember, Table, ArePlaced, values_at, Ends, no_members, Neighbors}
use Rattle.ic_container.specs.Holds.{HoldsLists, members_in}
use Rattle.ic_container.specs.ListReadings.{ReadsLists}
use Rattle.ic_container.specs.NumberedLists.{alone, owner_of, to_one}

-- `order` has the places of the objects in order, and `values` has the objects. Each object has exactly one position
pub record Order (T : Type 0) : Type 0 where
  pub order : List Place
  pub values : Objects T

-- a value of the type `Order` is stored as the pair of its fields
abbrev pub order_code : {T : Type 0} → Coded T → Coded (Order T)
order_code {T} code = code_by (List Place × Objects T) (coded× (coded_list place_code) (objects_code code)) (λ o. (o.order, o.values)) (λ p. record { order = p.0; values = p.1 }) (λ _. refl)

-- the values of the objects, in their order
abbrev pub values_of : {T : Type 0} → Order T → List T
values_of o = values_at o.values o.order

-- EVERY OBJECT IS IN THE ORDER exactly once, and each place of the order has an object
pub record IsWhole {T : Type 0} (o : Order T) : Type 0 where
  pub once : IsDistinct o.order
  pub placed : ArePlaced o.values o.order
  pub all : (p : Place) → is_placed o.values p ≡ true → IsMember p o.order

-- the order of the objects in a list: their places are the members that the table represents for the list, for words of any width
abbrev pub order_of : {L E T : Type 0} → (E → Neighbors) → (L → Table E) → Objects T → L → Ends → Order T
order_of neighbors table objects links list = record { order = members_in neighbors table links list; values = objects }

-- WHAT A CONTAINER MAINTAINS: each object is in the list, no other place is linked, and there are as many objects as members
module _ {L E : Type 0} (neighbors : E → Neighbors) (linked : E → Bool) (table : L → Table E) where
  pub record IsListed {T : Type 0} (objects : Objects T) (links : L) (list : Ends) : Type 0 where
    pub reading : ReadsLists neighbors linked table
    pub holds : HoldsLists neighbors linked table links (alone no_members list) (owner_of to_one objects)
    pub count : map.len objects.values ≡ length (members_in neighbors table links list)
