use Rattle.plain_tests.proofs.lists.xor_linked.Goals as goal

pub push_front-requires-clause-shown : goal.push_front-requires-clause-shown
push_front-requires-clause-shown g c = c.new_xor-list.ensures.shows _
