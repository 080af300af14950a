-- Which members a table represents for a ring, and what a change of a ring keeps. The head of a ring is a place of the table.
use Rattle.std.specs.Prelude.{◌≡◌, ◌≢◌, ◌⊎◌, cond, Option, Some, List, [], ◌∷◌, ◌++◌}
use Rattle.ic_link_ops.specs.Prelude.{Place, IsAbsent, IsMember, IsDistinct, IsDisjoint, first, last, Table, Ends, is_end}
use Rattle.ic_link_ops.specs.LinkedList as doubly
use Rattle.ic_link_ops.specs.LinkedList.{Neighbors, neighbors_at, IsChain, members_between}

module _ {E : Type 0} (neighbors : E → Neighbors) where
  -- r IS A CIRCLE: no place occurs twice in r, and each entry names the previous and the next place of r. The first place of r comes after the last
  pub record IsCircle (entry : Place → E) (r : List Place) : Type 0 where
    pub distinct : IsDistinct r
    pub chain : IsChain neighbors entry (last r) r (first r)

  -- THE TABLE REPRESENTS s for the ring with the given head: the head, followed by the members s, is a circle
  abbrev pub Represents : Table E → Place → List Place → Type 0
  Represents t head s = IsCircle t.entry (head ∷ s)

  -- the place p is in a ring, as its head or as a member. A ring can be read from each of its places, so p is taken as the head
  abbrev pub InRing : Table E → Place → Type 0
  InRing t p = (s : List Place) × Represents t p s

  -- r has the places of the ring in which the place p is, and the ring's head is one of them. r may begin with any of these places
  abbrev pub IsRingOf : Table E → Place → List Place → Type 0
  IsRingOf t p r = IsCircle t.entry r × IsMember p r

  -- WITHOUT p, the ring with the given head has the members s: either p is not in this ring, or p is one more member of it
  abbrev pub RepresentsBeside : Table E → Place → Place → List Place → Type 0
  RepresentsBeside t p head s = (Represents t head s × IsAbsent p (head ∷ s))
      ⊎ ((front back : List Place) × Represents t head (front ++ p ∷ back) × (s ≡ front ++ back))

  -- THE OTHERS STAY: each ring that contains none of the given places stays as it was, and each list stays as it was
  pub record OthersStay (old new : Table E) (places : List Place) : Type 0 where
    pub rings : (r : List Place) → IsCircle old.entry r → IsDisjoint places r → IsCircle new.entry r
    pub lists : (list : Ends) (s : List Place) → doubly.Represents neighbors old list s → doubly.Represents neighbors new list s

  -- TWO NEIGHBORS ARE SET: the place after `first` is now `next`, and the place before `second` is now `prev`. All other places before and after a
  -- place stay, and the same places are linked
  pub record TurnsTo (old new : Table E) (first second next prev : Place) : Type 0 where
    pub next_is : (neighbors_at neighbors new first).next ≡ Some next
    pub prev_is : (neighbors_at neighbors new second).prev ≡ Some prev
    pub other_next : (q : Place) → q ≢ first → (neighbors_at neighbors new q).next ≡ (neighbors_at neighbors old q).next
    pub other_prev : (q : Place) → q ≢ second → (neighbors_at neighbors new q).prev ≡ (neighbors_at neighbors old q).prev
    pub linked : (q : Place) → (neighbors_at neighbors new q).linked ≡ (neighbors_at neighbors old q).linked

  -- the places of a ring from `front` on up to the place before `end`. There are no such places if `front` is `end`
  abbrev pub members_until : Table E → Option Place → Place → List Place
  members_until t front end = cond (is_end front end) [] (members_between neighbors t front (neighbors_at neighbors t end).prev)

  -- the members of the ring with the given head
  abbrev pub members : Table E → Place → List Place
  members t head = members_until t (neighbors_at neighbors t head).next head
