use Rattle.std.proofs.Common.{[], ◌∷◌}
use Rattle.ic_link_ops.proofs.CollectionLaws.{new_represents_nothing}
use Rattle.ic_link_ops.proofs.DoublyLists.{plain_lists}
use Rattle.uses_tests.proofs.lists.link_steps_are_noted.Goals as goal

pub pop_front-taken-requires : goal.pop_front-taken-requires
pop_front-taken-requires g c =
    let one = rw c.expect.ensures at c.push_back.ensures.inserted in
    record { shown = (c.two-table.result.1 ∷ [], one [] (rw c.new-list.ensures (new_represents_nothing plain_lists _))) }
