use Rattle.ic_keyed.proofs.KeyLemmas.{found_value}
use Rattle.ic_keyed.proofs.store.find.Goals as goal

pub returns-clause-found : goal.returns-clause-found
returns-clause-found g c = let e = c.find.ensures in found_value g.T.HasKey.key_of c.args.store.now e.whole c.requires c.args.key c.find.result.0 e.found
