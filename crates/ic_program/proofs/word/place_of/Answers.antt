use Rattle.ic_program.proofs.WordLemmas.{place_is}
use Rattle.ic_program.proofs.word.place_of.Goals as goal

pub returns : goal.returns
returns c = place_is c.new.result c.args.number c.new.ensures
