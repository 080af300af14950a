use Rattle.std.proofs.Common.{[], ◌∷◌, ◌∙◌}
use Rattle.ic_link_ops.specs.Sequences.{at_front}
use Rattle.ic_link_ops.proofs.CollectionLaws.{new_represents_nothing}
use Rattle.ic_link_ops.proofs.DoublyLists.{plain_lists}
use Rattle.ic_link_ops.proofs.Covering.{still_covered}
use Rattle.ic_chain.proofs.Standing.{stands_at_null}
use Rattle.uses.proofs.first_steps.first_steps.Goals as goal

pub push_back-requires-2-clause-covered : goal.push_back-requires-2-clause-covered
push_back-requires-2-clause-covered g c = still_covered c.args.second (c.in_ok-push_back.ensures.frame [] (rw c.new-list.ensures (new_represents_nothing plain_lists _))) c.requires.second

pub push_back-requires-2-clause-shown : goal.push_back-requires-2-clause-shown
push_back-requires-2-clause-shown g c = (c.args.first ∷ [], c.in_ok-push_back.ensures.inserted [] (rw c.new-list.ensures (new_represents_nothing plain_lists _)))

pub move_next-requires : goal.move_next-requires
move_next-requires g c =
    let two = c.in_ok-push_back-2.ensures.inserted (c.args.first ∷ []) (c.in_ok-push_back.ensures.inserted [] (rw c.new-list.ensures (new_represents_nothing plain_lists _))) in
    let e = c.cursor-cursor.ensures in
    record { stands = stands_at_null (c.args.first ∷ c.args.second ∷ []) (rw (e.links, e.list) two) e.null }

pub returns-clause-position : goal.returns-clause-position
returns-clause-position g c =
    let two = c.in_ok-push_back-2.ensures.inserted (c.args.first ∷ []) (c.in_ok-push_back.ensures.inserted [] (rw c.new-list.ensures (new_represents_nothing plain_lists _))) in
    let e = c.cursor-cursor.ensures in
    c.get_ptr.ensures ∙ c.move_next.ensures.moved.leads (at_front (c.args.first ∷ c.args.second ∷ [])) (rw (e.links, e.list) two) e.null
