-- A descent goes down from the root of a tree. At each member a test chooses the side.
use Rattle.std.specs.Prelude.{◌≡◌, Bool, true, false, cond, Option, Some, None, List, [], ◌∷◌, ◌++◌}
use Rattle.ic_link_ops.specs.Prelude.{Place, Cut, first, last, Table, Tree, leaf, fork, in_order, is_end, Node}
use Rattle.ic_link_ops.specs.declared.side.Side.{Side}
use Rattle.ic_link_ops.specs.declared.side.Side.TheVariants.{Left, Right}
use Rattle.ic_link_ops.specs.Frames.{Frame, frame}
use Rattle.std.specs.declared.cmp.Ordering.{Ordering}
use Rattle.ic_rbtree.specs.Comparing.{goes_left}
use Rattle.ic_rbtree.specs.Borders.{equal_at}
use Rattle.ic_rbtree.specs.Insertion.{IsInsertPos}
use Rattle.ic_rbtree.specs.declared.keys.descent.Descent.{Descent}

-- the side to which a descent goes at a member: left if the member passes the test, and right if it fails
abbrev pub side_of : Bool → Side
side_of true = Left
side_of false = Right

-- a gap of the left subtree of p, seen as a gap of the tree with the root p. `right_of` does this for a gap of the right subtree
abbrev pub left_of : Cut → Place → Tree → Cut
left_of gap p b = record { front = gap.front; back = gap.back ++ p ∷ in_order b }

abbrev pub right_of : Tree → Place → Cut → Cut
right_of a p gap = record { front = in_order a ++ p ∷ gap.front; back = gap.back }

-- THE GAP that a descent by a test reaches from the root: the descent goes left at each member that passes the test, and right at each member that fails
abbrev pub gap_in : (Place → Bool) → Tree → Cut
gap_in test leaf = record { front = []; back = [] }
gap_in test (fork c a p b) = cond (test p) (left_of (gap_in test a) p b) (right_of a p (gap_in test b))

-- a descent by the test goes down through all frames of the list: at each frame's member the test chooses the side of the frame
abbrev pub SendsPast : (Place → Bool) → List Frame → Type 0
SendsPast test [] = Unit {0}
SendsPast test (frame d c p b ∷ fs) = (d ≡ side_of (test p)) × SendsPast test fs

-- the state of a descent at the root, before it has compared any member
abbrev pub at_root : Descent
at_root = record { parent = None; side = Left; front = None; back = None; equal = None }

-- the last member that compared equal after p has been compared: p if `equal` is true, otherwise the member `old`
abbrev pub last_equal : Option Place → Place → Bool → Option Place
last_equal old p equal = cond equal (Some p) old

-- the state of a descent after it has passed the member p: it went left if the first flag is true, otherwise right. The second flag is true if p compared
-- equal
abbrev pub passed : Descent → Place → Bool → Bool → Descent
passed old p true equal = record { parent = Some p; side = Left; front = old.front; back = Some p; equal = last_equal old.equal p equal }
passed old p false equal = record { parent = Some p; side = Right; front = Some p; back = old.back; equal = last_equal old.equal p equal }

-- whether a member p is after the gap, and p is the last member that compared equal, `equal`
abbrev pub is_last : Option Place → Option Place → Bool
is_last equal None = false
is_last equal (Some p) = is_end equal p

abbrev pub is_equal : Descent → Bool
is_equal d = is_last d.equal d.back

-- whether there is a member at the position, and the searched key is equal to the member's key
abbrev pub equal_there : (Place → Ordering) → Option Place → Bool
equal_there at None = false
equal_there at (Some p) = equal_at at p

module _ {E : Type 0} (n : E → Node) where
  -- THE DESCENT ENDS in the gap to which the comparisons lead. `equals` is the side to which the descent goes at an equal member
  pub record EndsAt (t : Table E) (at : Place → Ordering) (equals : Side) (tree : Tree) (d : Descent) : Type 0 where
    pub insert_pos : IsInsertPos n t d.parent d.side (gap_in (λ p. goes_left equals (at p)) tree)
    pub front_is : d.front ≡ last (gap_in (λ p. goes_left equals (at p)) tree).front
    pub back_is : d.back ≡ first (gap_in (λ p. goes_left equals (at p)) tree).back
    pub equal_is : is_equal d ≡ equal_there at d.back
