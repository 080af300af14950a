use Rattle.std.proofs.Common.{[], ◌∷◌, refl}
use Rattle.ic_link_ops.specs.DoublyEntries.{plain_table}
use Rattle.ic_link_ops.proofs.CollectionLaws.{new_represents_nothing}
use Rattle.ic_link_ops.proofs.SinglyLists.{singly_lists}
use Rattle.uses_tests.proofs.lists.the_latest_object_is_taken.Goals as goal

pub give_and_take-requires-clause-shown : goal.give_and_take-requires-clause-shown
give_and_take-requires-clause-shown g c =
    let one = rw c.expect.ensures at c.give_back.ensures.given in
    (c.two-links.result.1 ∷ [], one [] (rw c.new-free.ensures (new_represents_nothing (singly_lists (λ e. refl)) (plain_table c.two-links.result.0))))

pub take-oldest-requires : goal.take-oldest-requires
take-oldest-requires g c =
    let one = rw c.expect.ensures at c.give_back.ensures.given in
    let same = rw c.expect-latest.ensures at c.give_and_take.ensures.sequence in
    record { shown = (c.two-links.result.1 ∷ [], same (c.two-links.result.1 ∷ []) (one [] (rw c.new-free.ensures (new_represents_nothing (singly_lists (λ e. refl)) (plain_table c.two-links.result.0))))) }
