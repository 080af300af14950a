use Rattle.std.proofs.Common.{rules, []}
use Rattle.claims_tests.proofs.links.gathers.Goals as goal

pub pop_front-requires : goal.pop_front-requires
pop_front-requires c = record { shown = (_, c.gather.ensures.gathered.4 [] (search rules)) }

pub push_back-requires-clause-shown : goal.push_back-requires-clause-shown
push_back-requires-clause-shown c = (_, c.pop_front.ensures.removed _ (c.gather.ensures.gathered.4 [] (search rules)))
