-- The invariant of a container: each place that belongs to a collection is a member of this collection, and no other place is linked.
use Rattle.std.specs.Prelude.{◌≡◌, ℕ, Bool, Option, None, List}
use Rattle.ic_link_ops.specs.Prelude.{Place, Table, IsUnlinked, Ends, Neighbors}
use Rattle.ic_link_ops.specs.LinkedList as lists
use Rattle.ic_container.specs.Edited.{HasJoined, HasLeft, HasMoved}
use Rattle.ic_container.specs.NumberedLists.{NumberedLists, EachInItsList}

-- list i has the members of collection i, whose head is `heads i`. `members links head` is the sequence that the table represents for the head
abbrev pub lists_of : {L H : Type 0} → (L → H → List Place) → L → (ℕ → H) → NumberedLists
lists_of members links heads i = members links (heads i)

module _ {L E H : Type 0} (Represents : Table E → H → List Place → Type 0) (linked : E → Bool) (table : L → Table E) (members : L → H → List Place) where
  pub record Holds (links : L) (heads : ℕ → H) (owner : Place → Option ℕ) : Type 0 where
    pub shown : (i : ℕ) → Represents (table links) (heads i) (lists_of members links heads i)
    pub owned : EachInItsList owner (lists_of members links heads)
    pub only : (p : Place) → owner p ≡ None → IsUnlinked linked (table links) p

-- `members_in` gives the members of a list, as the table represents them, and `lists_in` the members of each list, over links of any width
module _ {L E : Type 0} (neighbors : E → Neighbors) (table : L → Table E) where
  abbrev pub members_in : L → Ends → List Place
  members_in links list = lists.members neighbors (table links) list

  abbrev pub lists_in : L → (ℕ → Ends) → NumberedLists
  lists_in = lists_of members_in

abbrev pub HoldsLists : {L E : Type 0} → (E → Neighbors) → (E → Bool) → (L → Table E) → L → (ℕ → Ends) → (Place → Option ℕ) → Type 0
HoldsLists neighbors linked table = Holds (lists.Represents neighbors) linked table (members_in neighbors table)

-- one edit of a list: a place joins the list (`ListAdds`), leaves it (`ListLeaves`), or moves in it (`ListMoves`)
module _ {E : Type 0} (neighbors : E → Neighbors) (linked : E → Bool) (old new : Table E) (head after : Ends) where
  abbrev pub ListAdds : List Place → Place → List Place → Type 0
  ListAdds = HasJoined (lists.Represents neighbors) linked old new head after

  abbrev pub ListLeaves : List Place → Place → List Place → Type 0
  ListLeaves = HasLeft (lists.Represents neighbors) linked old new head after

  abbrev pub ListMoves : List Place → Place → List Place → List Place → List Place → Type 0
  ListMoves = HasMoved (lists.Represents neighbors) linked old new head after
