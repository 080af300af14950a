use Rattle.std.proofs.Common.{[], ◌∷◌}
use Rattle.ic_link_ops.proofs.CollectionLaws.{new_represents_nothing}
use Rattle.ic_link_ops.proofs.DoublyLists.{plain_lists}
use Rattle.uses_tests.proofs.lists.two_members_come_off_a_table_that_is_one_of_two.Goals as goal

pub push_back-requires-2-clause-shown : goal.push_back-requires-2-clause-shown
push_back-requires-2-clause-shown g c =
    let one = rw c.expect.ensures at c.push_back.ensures.inserted in
    (c.two-table.result.1 ∷ [], one [] (rw c.new-list.ensures (new_represents_nothing plain_lists _)))

pub take_both-requires : goal.take_both-requires
take_both-requires g c =
    let one = rw c.expect.ensures at c.push_back.ensures.inserted in
    let two = rw c.expect-2.ensures at c.push_back-2.ensures.inserted in
    let both = two (c.two-table.result.1 ∷ []) (one [] (rw c.new-list.ensures (new_represents_nothing plain_lists _))) in
    record { shown = (c.two-table.result.1 ∷ c.two-table.result.2 ∷ [], both) }
