use Rattle.ic_program.proofs.text.after_word.Goals as goal

pub returns : goal.returns
returns c = (c.first_word.result.0.now, c.first_word.ensures)
