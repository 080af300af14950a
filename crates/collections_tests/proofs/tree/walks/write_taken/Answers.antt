use Rattle.collections_tests.proofs.tree.walks.write_taken.Goals as goal
use Rattle.collections_tests.proofs.tree.walks.write_taken.Goals.{then-from_back, else-from_back}

pub finish-requires : goal.finish-requires
finish-requires c =
    let s = c.requires.shown in
    let left = c.next.ensures.steps.removed s.0 (c.into_iter-rest.ensures.tree s.0 (rw c.take.ensures.whole s.1)) in
    elim c.if-from_back.branch [
      | then-from_back w ↦ record { can_take = rw w.rest-is (_, w.next_back.ensures.steps.removed _ left) }
      | else-from_back w ↦ record { can_take = rw w.rest-is (_, left) }
    ]

pub next_back-requires : goal.next_back-requires
next_back-requires c =
    let s = c.requires.shown in
    (_, c.next.ensures.steps.removed s.0 (c.into_iter-rest.ensures.tree s.0 (rw c.take.ensures.whole s.1)))
