-- These definitions state to which place a step leads over any links, even if the links are not a tree.
use Rattle.std.specs.Prelude.{◌≡◌, ◌⊎◌, List, [], ◌∷◌, Option, Some, None}
use Rattle.ic_link_ops.specs.Prelude.{Place, Table, Node, node_at}
use Rattle.ic_link_ops.specs.Frames.{across, child_on}
use Rattle.ic_link_ops.specs.declared.side.Side.{Side}

module _ {E : Type 0} (n : E → Node) (v : Table E) (side : Side) where
  -- a path leads from the place p down through the places of the list to y, the last of them. Each place of the list is, on the side `side`, the child of the
  -- place before it
  abbrev pub GoesDown : Place → List Place → Place → Type 0
  GoesDown p [] y = p ≡ y
  GoesDown p (x ∷ w) y = (child_on side (node_at n v p) ≡ Some x) × GoesDown x w y

  -- y is the place p, or y is below p on the path along the children on the side `side`
  abbrev pub IsBelow : Place → Place → Type 0
  IsBelow p y = (w : List Place) × GoesDown p w y

  -- a path leads from the place p up through the places of the list to `end`, the parent of the last of them. Each place of the list is the parent of the place
  -- before it, and has that place as its child on the side `side`
  abbrev pub GoesUp : Place → List Place → Option Place → Type 0
  GoesUp p [] end = (node_at n v p).parent ≡ end
  GoesUp p (x ∷ w) end = ((node_at n v p).parent ≡ Some x) × (child_on side (node_at n v x) ≡ Some p) × GoesUp x w end

  -- a path leads from the place p up along the parents to `end`. Before its last step the path goes only from children on the side `side` to their parents
  abbrev pub ComesUpTo : Place → Option Place → Type 0
  ComesUpTo p end = (w : List Place) × GoesUp p w end

-- A STEP to the side `side` LEADS TO y. If the place has a child on this side, y is at or below this child, on the path along the children on the other side.
-- If the place has no child on this side, y is on the path up. A step from null begins at the root
module _ {E : Type 0} (n : E → Node) (v : Table E) (root : Option Place) (side : Side) where
  abbrev pub StepsTo : Option Place → Place → Type 0
  StepsTo None y = (q : Place) × (root ≡ Some q) × IsBelow n v (across side) q y
  StepsTo (Some p) y =
      ((q : Place) × (child_on side (node_at n v p) ≡ Some q) × IsBelow n v (across side) q y)
      ⊎ ((child_on side (node_at n v p) ≡ None) × ComesUpTo n v side p (Some y))

  -- A STEP to the side `side` ENDS at null: the place has no child on this side, and the path up from the place leads to none. A step from null ends at null if
  -- there is no root
  abbrev pub StepEnds : Option Place → Type 0
  StepEnds None = root ≡ None
  StepEnds (Some p) = (child_on side (node_at n v p) ≡ None) × ComesUpTo n v side p None
