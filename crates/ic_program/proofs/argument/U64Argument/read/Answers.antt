use Rattle.ic_program.proofs.ReadingLemmas.{number_after}
use Rattle.ic_program.proofs.argument.U64Argument.read.Goals as goal

pub returns : goal.returns
returns c = number_after c.args.text.now c.after_word.result.now c.in_ok-number.number c.in_ok-number.ensures c.after_word.ensures
