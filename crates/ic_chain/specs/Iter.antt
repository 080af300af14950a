-- Which members and objects a walk over a list has not returned yet.
use Rattle.std.specs.Prelude.{Bool, Option, List}
use Rattle.ic_link_ops.specs.Prelude.{Place, Objects, last, Table, ArePlaced, values_at, IsStretch, walked}
use Rattle.ic_chain.specs.Walk.{WalkEnds}
use Rattle.ic_chain.specs.declared.iter.Iter.{Iter}

-- `values`: the object at each place
module _ {K T L O E : Type 0} (step : E → Option Place → Option Place) (table : L → Table E) (values : O → Objects T) where
  -- the members that the walk has not returned yet
  abbrev pub rest_of : Iter K T L O → List Place
  rest_of t = walked step (table t.links.now) t.before t.head t.tail

  -- the objects that the walk has not returned yet
  abbrev pub objects_left : Iter K T L O → List T
  objects_left t = values_at (values t.objects.now) (rest_of t)

-- `keeps_last`: whether lists of the kind store their last member
module _ {K T L O E : Type 0} (keeps_last : Bool) (between : E → Option Place → Option Place → Type 0) (table : L → Table E) (values : O → Objects T) where
  -- the members w remain to be returned, and the entries of the table link them in this order up to the end of the walk
  abbrev pub IsLeft : Iter K T L O → List Place → Type 0
  IsLeft t w = IsStretch between (table t.links.now).entry t.before t.head (last w) t.after w × WalkEnds keeps_last t.tail t.after (last w)

  -- the walk can be walked to its end: some sequence of members remains, maybe an empty one, and an object is at each of these members
  abbrev pub CanWalk : Iter K T L O → Type 0
  CanWalk t = (w : List Place) × IsLeft t w × ArePlaced (values t.objects.now) w
