-- A ring is a circle of places in words that a caller lends. One of the places is the head, and all others are its members.
use Rattle.std.specs.Prelude.{◌≡◌, List, [], ◌∷◌, ◌++◌, Option, Some, true}
use Rattle.ic_link_ops.specs.Prelude.{Place, Table, ChangesOnlyIn, neighbors_at}
use Rattle.ic_ring.specs.Rings as rings
use Rattle.ic_raw.specs.declared.gap.GapSide.{GapSide}
use Rattle.ic_raw.specs.declared.gap.GapSide.TheVariants.{After, Before}
use Rattle.ic_raw.specs.LinkWords.{LinkWords, neighbors}

module _ {W : Type 0} (words : LinkWords W) where
  -- THE PLACES OF A LIST ARE A CIRCLE: no place is in the list twice, the words of each place name its neighbors in the list, and the first place
  -- comes again after the last
  abbrev pub IsCircle : Table W → List Place → Type 0
  IsCircle t = rings.IsCircle (neighbors words) t.entry

  -- y IS AFTER x by their words: both places are linked, the words of x name y as the next place, and the words of y name x as the previous place
  pub record AreLinked (t : Table W) (x y : Place) : Type 0 where
    pub linked : words.is_linked (t.entry x) ≡ true
    pub next : (neighbors_at (neighbors words) t x).next ≡ Some y
    pub stands : words.is_linked (t.entry y) ≡ true
    pub prev : (neighbors_at (neighbors words) t y).prev ≡ Some x

  -- `beside` is the neighbor of the place p on this side, which the word of p names
  abbrev pub beside : GapSide → Table W → Place → Option Place
  beside After t p = (neighbors_at (neighbors words) t p).next
  beside Before t p = (neighbors_at (neighbors words) t p).prev

  -- `around` is the two neighbors of the place p, which the words of p name
  abbrev pub around : Table W → Place → List (Option Place)
  around t p = beside Before t p ∷ beside After t p ∷ []

  -- the places `made` are a circle after the call, which changes only the entries of the places `touched`
  pub record Makes (old new : Table W) (touched made : List Place) : Type 0 where
    pub circle : IsCircle new made
    pub frame : ChangesOnlyIn old new touched

  -- the places `made` are a circle after the call, and the places `other` are a second circle. The call changes only the entries of the places
  -- `touched`
  pub record MakesTwo (old new : Table W) (touched made other : List Place) : Type 0 where
    pub circle : IsCircle new made
    pub beside : IsCircle new other
    pub frame : ChangesOnlyIn old new touched

-- `own_on` is the place of a pair of neighbors that has its neighbor on this side: the first one for `After`, and the second one for `Before`
abbrev pub own_on : GapSide → Place × Place → Place
own_on After x = x.0
own_on Before x = x.1

-- `neighbor_on` is the place of a pair of neighbors that is on this side of its neighbor: the second one for `After`, and the first one for `Before`
abbrev pub neighbor_on : GapSide → Place × Place → Place
neighbor_on After x = x.1
neighbor_on Before x = x.0

-- `put_in` is the circle `at` ∷ s after p was inserted on this side of `at`
abbrev pub put_in : GapSide → (at p : Place) → List Place → List Place
put_in After at p s = at ∷ p ∷ s
put_in Before at p s = p ∷ at ∷ s

-- `all_put_in` is the circle `at` ∷ r after the members s were inserted on this side of `at`
abbrev pub all_put_in : GapSide → (at : Place) (r s : List Place) → List Place
all_put_in After at r s = at ∷ s ++ r
all_put_in Before at r s = at ∷ r ++ s
