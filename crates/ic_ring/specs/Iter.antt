-- Which members and objects a walk over a ring has not returned yet.
use Rattle.std.specs.Prelude.{◌≡◌, Some, List, ◌++◌}
use Rattle.ic_link_ops.specs.Prelude.{Place, Objects, first_or, Table, ArePlaced, values_at, Neighbors}
use Rattle.ic_ring.specs.Rings.{Represents, members_until}
use Rattle.ic_ring.specs.declared.iter.Iter.{Iter}

-- `values`: the object at each place
module _ {T L O E : Type 0} (neighbors : E → Neighbors) (table : L → Table E) (values : O → Objects T) where
  -- the objects that the walk has not returned yet
  abbrev pub objects_left : Iter T L O → List T
  objects_left t = values_at (values t.objects.now) (members_until neighbors (table t.links.now) (Some t.front) t.end)

  -- the members w remain to be returned: they are the last members of the ring, if the ring is read from the place at which the walk ends
  pub record IsLeft (t : Iter T L O) (w : List Place) : Type 0 where
    pub given : List Place
    pub ring : Represents neighbors (table t.links.now) t.end (given ++ w)
    pub starts : Some t.front ≡ first_or w (Some t.end)

  -- the walk can be walked to its end: some sequence of members remains, maybe an empty one, and an object is at each of these members
  abbrev pub CanWalk : Iter T L O → Type 0
  CanWalk t = (w : List Place) × IsLeft t w × ArePlaced (values t.objects.now) w
