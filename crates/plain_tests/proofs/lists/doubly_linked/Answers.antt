use Rattle.plain_tests.proofs.lists.doubly_linked.Goals as goal

pub is_empty-requires : goal.is_empty-requires
is_empty-requires g c = record { shown = c.new_doubly-list.ensures.shows _ }

pub push_back-requires-clause-shown : goal.push_back-requires-clause-shown
push_back-requires-clause-shown g c = c.new_doubly-list.ensures.shows _
