-- A climb from a tree follows stored parents upwards, and these definitions say which summaries it cannot reach.
use Rattle.std.specs.Prelude.{◌≡◌, ◌≢◌, ◌≤◌, Bool, true, false, Option, Some, List}
use Rattle.ic_link_ops.specs.Prelude.{Place, IsMember, times_in}
use Rattle.ic_rbtree.specs.Closed.{IsIn}
use Rattle.ic_augmented.specs.Summaries.{Summaries, is_fresh}
use Rattle.ic_augmented.specs.Consistent.{IsSameAt}

module _ {S : Type 0} where
  -- THE SUMMARIES ARE WRITTEN WITHIN s: if a member of s has a fresh summary, the parent that is stored with the summary is a member of s or none
  abbrev pub IsWrittenWithin : Summaries S → List Place → Type 0
  IsWrittenWithin z s = (q p : Place) → 1 ≤ times_in q s → is_fresh (z.fresh q) ≡ true → z.upper q ≡ Some p → 1 ≤ times_in p s

  -- `inside` is a set of places. If a place of the set has a fresh summary, the parent that is stored with the summary is in the set or none
  abbrev pub IsWrittenIn : Summaries S → (Place → Bool) → Type 0
  IsWrittenIn z inside = (q p : Place) → inside q ≡ true → is_fresh (z.fresh q) ≡ true → z.upper q ≡ Some p → inside p ≡ true

  -- each place outside the set `inside` has the same summary and the same stored parent in the states z and w
  abbrev pub IsSameBeside : Summaries S → Summaries S → (Place → Bool) → Type 0
  IsSameBeside z w inside = (q : Place) → inside q ≡ false → IsSameAt z w q

  -- an edit turns the summaries z into w, and the edge `was` into the edge `is`. (The edge is the place whose summary may be wrong.) If the edge is in the set
  -- `inside` before the edit, it is in the set afterwards. If the summaries of the set were also written within the set, nothing outside the set has changed
  abbrev pub StaysInside : Summaries S → Summaries S → Option Place → Option Place → (Place → Bool) → Type 0
  StaysInside z w was is inside = IsIn inside was → IsIn inside is × (IsWrittenIn z inside → IsSameBeside z w inside)

-- the edge (the place whose summary may be wrong) is p, or a member of s, or none
abbrev pub IsEdgeOf : Option Place → Place → List Place → Type 0
IsEdgeOf edge p s = (q : Place) → edge ≡ Some q → q ≢ p → IsMember q s
