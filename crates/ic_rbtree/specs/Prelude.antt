-- This file declares nothing. It exports the names that most proofs about trees use.
pub use Rattle.ic_rbtree.specs.Borders.{Finds, IsBorder, IsLowerBorder, IsSorted, IsSortedFor, IsUpperBorder, at_most_at, equal_at, if_passes, less_at}
pub use Rattle.ic_rbtree.specs.Closed.{AreIn, IsClosed, IsClosedBut, IsIn, IsNamed, IsNode, IsSafe, IsSafeBut, KeepsNodes, StaysClosed}
pub use Rattle.ic_rbtree.specs.Comparing.{HasRoom, Looks, WithinComparisonBound, answer_at, compared, compared_within, goes_left, is_beyond, meets_lower, meets_upper, order_of, own_order}
pub use Rattle.ic_rbtree.specs.CursorMut.{SameBorrows}
pub use Rattle.ic_rbtree.specs.Descents.{EndsAt, gap_in, side_of}
pub use Rattle.ic_rbtree.specs.Ends.{end_on}
pub use Rattle.ic_rbtree.specs.Height.{IsLowest, height, turns}
pub use Rattle.ic_rbtree.specs.Insertion.{Attaches, IsInsertPos, RedAt}
pub use Rattle.ic_rbtree.specs.Join.{Appends, IsSpine, RepresentsParts}
pub use Rattle.ic_rbtree.specs.Kept.{IsEmptied, Kept, RepresentsFor, RepresentsKept, RepresentsWithEnds, TellsEnds, alone, end_for, end_with, ended, root_kept}
pub use Rattle.ic_rbtree.specs.KeyProbe.{HasAdapter, key_order, looks_of}
pub use Rattle.ic_rbtree.specs.Members.{between, members, members_around}
pub use Rattle.ic_rbtree.specs.Ordered.{InsertsInOrder}
pub use Rattle.ic_rbtree.specs.Pieces.{ArePieces, ClimbState, Held, Piece, Represented, around, below, cell, loose}
pub use Rattle.ic_rbtree.specs.PlainTrees.{PlainRepresents, PlainRepresentsSome, TreeLinkOps, is_linked, members_of, node_by, plain_table}
pub use Rattle.ic_rbtree.specs.Ranges.{IsRange, runs_up}
pub use Rattle.ic_rbtree.specs.Removal.{IsOn, Short, ShortAt, is_red, red_at}
pub use Rattle.ic_rbtree.specs.Shortage.{EvenAround, PairsAround, color_above, wanted}
pub use Rattle.ic_rbtree.specs.Sides.{IsBeside, IsInTree, beyond, nearest}
pub use Rattle.ic_rbtree.specs.SortedObjects.{RepresentsSorted, against, key_at, key_or, keys_at}
pub use Rattle.ic_rbtree.specs.Steps.{Adopts, IsSideOf, Rotates}
pub use Rattle.ic_rbtree.specs.StepsTo.{StepsTo}
pub use Rattle.ic_rbtree.specs.Transplants.{TakesAway, TakesPlace}
pub use Rattle.ic_rbtree.specs.Tree.{head_of, root_in, root_of}
pub use Rattle.ic_rbtree.specs.Vines.{IsVine, RepresentsVine, RepresentsVineSome, along}
