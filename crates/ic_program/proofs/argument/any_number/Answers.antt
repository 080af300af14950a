use Rattle.ic_program.proofs.ReadingLemmas.{number_begins}
use Rattle.ic_program.proofs.argument.any_number.Goals as goal

pub returns : goal.returns
returns c = number_begins c.args.text.now c.first_word.result.0.now c.first_word.result.1.now c.number.result c.first_word.ensures c.number.ensures
