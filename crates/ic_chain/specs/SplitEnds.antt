-- The first and last members that two lists store after a split.
use Rattle.std.specs.Prelude.{◌≡◌, Option, None}
use Rattle.ic_unsafe_ref.specs.declared.place.Place.{Place}
use Rattle.ic_link_ops.specs.Chains.{ListHead, TurnsTail, end_of}

-- THE ENDS AFTER A SPLIT between the members `before` and `after`. The kept list `new` has the first member of the list `old`, or is empty if `before` is
-- none, and ends with `before`. The returned list `rest` begins with `after` and has the last member of `old`, or is empty if `after` is none
pub record SplitsEnds {W : Type 0} (kept : Option Place → W) (old new rest : ListHead W) (before after : Option Place) : Type 0 where
  pub head : new.head ≡ end_of before None old.head
  pub tail : new.tail ≡ kept before
  pub rest_head : rest.head ≡ after
  pub rest_tail : TurnsTail kept old.tail rest.tail after None
