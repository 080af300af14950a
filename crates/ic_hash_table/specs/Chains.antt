-- A hash table has chains, and its members are the members of all chains.
use Rattle.std.specs.Prelude.{◌≡◌, ℕ, suc, Option, List, [], ◌∷◌, ◌++◌}
use Rattle.std.specs.List.{AllByRecursion}
use Rattle.ic_link_ops.specs.Prelude.{Place, Table}
use Rattle.ic_link_ops.specs.SinglyLinkedList.{Successor, list_from, Represents}

-- THE TABLE REPRESENTS s as a chain: the chain begins with the member `front` and has the members s, in their order
abbrev pub RepresentsFrom : {E : Type 0} → (E → Successor) → Table E → Option Place → List Place → Type 0
RepresentsFrom successor t front = Represents successor t (list_from front)

-- the table represents some sequence of members for the chain that begins with the member `front`
abbrev pub RepresentsFromSome : {E : Type 0} → (E → Successor) → Table E → Option Place → Type 0
RepresentsFromSome successor t front = (s : List Place) × RepresentsFrom successor t front s

-- `Belongs i p` says that the place p belongs in chain i
module _ {E : Type 0} (successor : E → Successor) (Belongs : ℕ → Place → Type 0) (t : Table E) where
  -- `AreChained i fronts s`: the chains from number i on begin with the first members `fronts`. The sequence s has the members of these chains, chain after
  -- chain, and each member belongs in its chain
  abbrev pub AreChained : ℕ → List (Option Place) → List Place → Type 0
  AreChained i [] s = s ≡ []
  AreChained i (front ∷ fronts) s =
      (chain rest : List Place) × (s ≡ chain ++ rest) × RepresentsFrom successor t front chain × AllByRecursion (Belongs i) chain × AreChained (suc i) fronts rest
