use Rattle.ic_container.proofs.ListedLemmas.{listed_whole}
use Rattle.ic_indexed.proofs.indexed.Indexed.find.Goals as goal

pub find_key-requires : goal.find_key-requires
find_key-requires g c = record { all = c.self.invariant.keyed }

pub returns-clause-found : goal.returns-clause-found
returns-clause-found g c = rw (← c.self.view_is) c.find_key.ensures.found

pub returns-clause-looks : goal.returns-clause-looks
returns-clause-looks g c =
    rw (← c.self.view_is) (c.find_key.ensures.looks _ (listed_whole c.self.invariant.listed))

pub returns-clause-whole : goal.returns-clause-whole
returns-clause-whole g c = rw (← c.self.view_is) (listed_whole c.self.invariant.listed)
