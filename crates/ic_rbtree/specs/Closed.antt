-- Sets of places out of which no link leads. An edit is safe if all links that it follows stay in a closed set, whatever else the link words contain.
use Rattle.std.specs.Prelude.{◌≡◌, Bool, true, Option, Some, None, List, [], ◌∷◌}
use Rattle.ic_link_ops.specs.Prelude.{Place, Table, Node}

-- the optional place is none or is in the set S
abbrev pub IsIn : (Place → Bool) → Option Place → Type 0
IsIn S None = Unit {0}
IsIn S (Some p) = S p ≡ true

-- each optional place of the list is none or is in the set S
abbrev pub AreIn : (Place → Bool) → List (Option Place) → Type 0
AreIn S [] = Unit {0}
AreIn S (o ∷ os) = IsIn S o × AreIn S os

module _ {E : Type 0} (n : E → Node) where
  -- p is linked, according to the node of its entry
  abbrev pub IsNode : Table E → Place → Type 0
  IsNode v p = (n (v.entry p)).linked ≡ true

  -- the optional place o is none, or it is linked according to its node
  abbrev pub IsNamed : Table E → Option Place → Type 0
  IsNamed v o = (q : Place) → o ≡ Some q → IsNode v q

  -- exactly the places that are linked in the table v are linked in the table w, according to their nodes
  abbrev pub KeepsNodes : Table E → Table E → Type 0
  KeepsNodes v w = (q : Place) → (n (w.entry q)).linked ≡ (n (v.entry q)).linked

  -- each place of S is linked, and no link leads out of S, except maybe from the place `but`. The root is none or in S
  pub record IsClosedBut (v : Table E) (root but : Option Place) (S : Place → Bool) : Type 0 where
    pub linked : (p : Place) → S p ≡ true → IsNode v p
    pub left : (p : Place) → S p ≡ true → (but ≡ Some p → ⊥) → IsIn S (n (v.entry p)).left
    pub right : (p : Place) → S p ≡ true → (but ≡ Some p → ⊥) → IsIn S (n (v.entry p)).right
    pub parent : (p : Place) → S p ≡ true → (but ≡ Some p → ⊥) → IsIn S (n (v.entry p)).parent
    pub starts : IsIn S root

  -- CLOSED: each place of S is linked, no link leads out of S, and the root is none or in S
  abbrev pub IsClosed : Table E → Option Place → (Place → Bool) → Type 0
  IsClosed v root S = IsClosedBut v root None S

  -- some closed set contains all places of the list `ends`
  abbrev pub IsSafe : Table E → Option Place → List (Option Place) → Type 0
  IsSafe v root ends = (S : Place → Bool) × IsClosed v root S × AreIn S ends

  -- some set that is closed except at p contains all places of the list `ends`
  abbrev pub IsSafeBut : Table E → Option Place → Place → List (Option Place) → Type 0
  IsSafeBut v root p ends = (S : Place → Bool) × IsClosedBut v root (Some p) S × AreIn S ends

  -- if a set is closed in the table v and contains the places of the list `ends`, it is closed in the table w, too, and contains the places of the list
  -- `others`
  abbrev pub StaysClosed : Table E → Table E → Option Place → Option Place → List (Option Place) → List (Option Place) → Type 0
  StaysClosed v w root new_root ends others =
      (S : Place → Bool) → IsClosed v root S → AreIn S ends → IsClosed w new_root S × AreIn S others

  -- if a set is closed in the table v except at one place, and contains the places of the list `ends`, it is closed in the table w except at the same place
  abbrev pub StaysClosedBut : Table E → Table E → Option Place → Option Place → List (Option Place) → Type 0
  StaysClosedBut v w root new_root ends =
      (but : Option Place) (S : Place → Bool) → IsClosedBut v root but S → AreIn S ends → IsClosedBut w new_root but S

  -- if a set is closed in the table v except at p, and contains the places of the list `ends`, it is closed everywhere in the table w
  abbrev pub ClosesAt : Table E → Table E → Option Place → Option Place → Place → List (Option Place) → Type 0
  ClosesAt v w root new_root p ends =
      (S : Place → Bool) → IsClosedBut v root (Some p) S → AreIn S ends → IsClosed w new_root S
