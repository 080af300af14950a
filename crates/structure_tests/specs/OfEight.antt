-- Each call in the tests of algorithms maintains these facts about a list whose members are some of eight objects.
use Rattle.std.specs.Prelude.{◌≡◌, ◌<◌, ℕ, true, Option}
use Rattle.ic_link_ops.specs.Prelude.{Place, index_of, Objects, is_placed, Table, ListHead, RepresentsSomeChain}

-- the table `t` covers eight places and represents the list `list`, and `objects` has an object at each of the eight places
pub record HoldsOfEight {E W : Type 0} (between : E → Option Place → Option Place → Type 0) (kept : Option Place → W) (t : Table E) (list : ListHead W) (objects : Objects ℕ) : Type 0 where
  pub covers : t.extent.places ≡ 8
  pub shown : RepresentsSomeChain between kept t list
  pub placed : (q : Place) → index_of q < 8 → is_placed objects q ≡ true
