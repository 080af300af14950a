-- If a walk from both ends has ended with nothing left, it has lent each object of its sequence once. The sequence consists of
-- the items from the front, followed by the items from the back in reverse order.
use Rattle.std.proofs.Common.{◌≡◌, List, [], ◌++◌, reverse, Bor, refl, sym, ◌∙◌}
use Rattle.ic_link_ops.specs.Walk.{GivesFirst, GivesLast}
use Rattle.ic_link_ops.specs.BothEnds.{Item, Leads, from_front, from_back}
use Rattle.ic_link_ops.proofs.BothEnds.{both_ends}

-- `left s` is the list of objects that the walk s has not lent yet.
module _ {S T : Type 0} (left : S → List T) where
  pub two_ended_walk : (start end : S) (items : List (Item (Bor T))) → Leads (GivesFirst left) (GivesLast left) start items end → left end ≡ []
      → from_front (λ x. x.now) items ++ reverse (from_back (λ x. x.now) items) ≡ left start
  two_ended_walk start end items leads over =
      both_ends (λ x. x.now) (GivesFirst left) (GivesLast left) (λ s w. left s ≡ w) (λ s t x w gives is. (left t, sym is ∙ gives.0, refl))
      (λ s t x w gives is. (left t, sym is ∙ gives.0, refl)) start end items (left start) leads refl (λ r is. sym is ∙ over)
