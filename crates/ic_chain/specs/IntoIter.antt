-- What a walk that removes each member from its list has left to return.
use Rattle.std.specs.Prelude.{Option, None, List}
use Rattle.ic_link_ops.specs.Prelude.{Place, Table, walked, ListHead}
use Rattle.ic_link_ops.specs.Taking.{Taking}
use Rattle.ic_chain.specs.declared.into_iter.IntoIter.{IntoIter}

module _ {K T L W P : Type 0} where
  -- the head of the list that remains, and the walk's table
  abbrev pub rest_of : IntoIter K T L W P → Taking L (ListHead W)
  rest_of t = record { head = t.list; links = t.links }

  -- the members that the walk has not returned yet, in the order in which the entries of the table link them
  abbrev pub members_left : {E : Type 0} → (E → Option Place → Option Place) → (L → Table E) → IntoIter K T L W P → List Place
  members_left step table t = walked step (table t.links.now) None t.list.head None
