-- An edit of a tree reads a caller's words as if every place of the table were linked. If a word names a place outside the table, the edit reads the
-- word as if it named no place.
use Rattle.std.specs.Prelude.{◌≡◌, ◌≢◌, ◌⊎◌, ℕ, Bool, true, cond, nat_lt, Option, Some, None, List}
use Rattle.ic_link_ops.specs.Prelude.{Place, index_of, Table, IsLinked, KeepsLinked, Node, is_end}
use Rattle.ic_link_ops.specs.declared.side.Side.{Side}
use Rattle.ic_rbtree.specs.Closed.{IsIn, AreIn, IsClosed, IsClosedBut}
use Rattle.ic_rbtree.specs.StepsTo.{StepEnds, StepsTo}
use Rattle.ic_raw.specs.declared.words.RawThree.{RawThree}
use Rattle.ic_raw.specs.declared.nodes.Seen.{Seen}
use Rattle.ic_raw.specs.Words.{place_in, is_linked_three, color_of, HasNumber}

-- `named_within` is the place that a word names, or none if a table of this many places does not have the place
abbrev pub named_within : ℕ → Option Place → Option Place
named_within places None = None
named_within places (Some q) = cond (nat_lt (index_of q) places) (Some q) None

-- `seen_node` is the node at a place as an edit reads it. The node counts as linked if the table has the place
abbrev pub seen_node : Seen → Node
seen_node e = record {
  linked = nat_lt (index_of e.place) e.places;
  left = named_within e.places (place_in e.words.left);
  right = named_within e.places (place_in e.words.right);
  parent = named_within e.places (place_in e.words.parent);
  color = color_of e.words;
}

-- `seen t` is the table t as an edit of a tree reads it
abbrev pub seen : Table RawThree → Table Seen
seen t = record { extent = t.extent; entry = λ p. record { words = t.entry p; place = p; places = t.extent.places } }

-- `has_place` says whether the table has the place p
abbrev pub has_place : Table RawThree → Place → Bool
has_place t p = nat_lt (index_of p) t.extent.places

-- THE WORDS w NAME NO PLACE OUTSIDE a table of this many places: each of the three words names none, or a place that the table has. An edit then
-- reads these words as they are
pub record NamesWithin (places : ℕ) (w : RawThree) : Type 0 where
  pub left : named_within places (place_in w.left) ≡ place_in w.left
  pub right : named_within places (place_in w.right) ≡ place_in w.right
  pub parent : named_within places (place_in w.parent) ≡ place_in w.parent

-- each word of the place p names none, or a place that the table has
abbrev pub IsWithin : Table RawThree → Place → Type 0
IsWithin t p = NamesWithin t.extent.places (t.entry p)

-- an edit keeps the extent of the table, and it keeps which places have the mark of a linked place. If the words of a place name only places of the
-- table before the edit, they still do after the edit
pub record KeepsMarks (old new : Table RawThree) : Type 0 where
  pub extent : new.extent ≡ old.extent
  pub marks : KeepsLinked is_linked_three old new
  pub names : (q : Place) → IsWithin old q → IsWithin new q

-- LINKS LEAD TO THE PLACE q from the root or from the places `ends`. This means that q is in each set of places that has the root and `ends`, and out
-- of which no link leads. The links are those that an edit reads from the words
abbrev pub IsReached : Table RawThree → (root : Option Place) → List (Option Place) → Place → Type 0
IsReached t root ends q = (S : Place → Bool) → IsClosed seen_node (seen t) root S → AreIn S ends → S q ≡ true

-- `number` is the number of a linked place to which links lead from the root or from the places `ends`
abbrev pub HandsOutReached : Table RawThree → (root : Option Place) → List (Option Place) → ℕ → Type 0
HandsOutReached t root ends number = (q : Place) × IsLinked is_linked_three t q × HasNumber q number × IsReached t root ends q

-- A STEP FINDS A PLACE: the step from the place `at` to this side leads to a linked place with the number `number`, as an edit reads the words
abbrev pub HandsOutStep : Table RawThree → (root : Option Place) → Side → (at : Option Place) → ℕ → Type 0
HandsOutStep t root side at number = (q : Place) × IsLinked is_linked_three t q × HasNumber q number × StepsTo seen_node (seen t) root side at q

-- A STEP FINDS NO PLACE: the links end on this side of the place `at`, as an edit reads the words
abbrev pub StepEndsIn : Table RawThree → (root : Option Place) → Side → (at : Option Place) → Type 0
StepEndsIn t = StepEnds seen_node (seen t)

-- `also came S` is the set S with one more place, which is `came`
abbrev pub also : Option Place → (Place → Bool) → Place → Bool
also came S q = cond (is_end came q) true (S q)

-- WHAT AN EDIT LEAVES, WHATEVER THE WORDS CONTAIN. The edit has inserted the place `came` and removed the place `left`, whose words may then be
-- anything. The root is none or a place of the table. Words that named only places of the table still do, and so do the words of `came`. Take a set
-- of places that has the root and the places `ends`, and out of which no link led before the edit. If `came` is added to the set, no link leads out
-- of it after the edit. Links are those that an edit reads from the words
pub record StaysWithin (old new : Table RawThree) (root root' came left : Option Place) (ends : List (Option Place)) : Type 0 where
  pub extent : new.extent ≡ old.extent
  pub starts : IsIn (has_place new) root'
  pub names : (q : Place) → left ≢ Some q → (came ≡ Some q) ⊎ IsWithin old q → IsWithin new q
  pub closed : (S : Place → Bool) → IsClosed seen_node (seen old) root S → AreIn S ends
      → IsClosedBut seen_node (seen new) root' left (also came S)
