use Rattle.ic_program.proofs.RunEnds.{flushed_run}
use Rattle.ic_program.proofs.program.run_lines.Goals as goal

pub returns-clause-run : goal.returns-clause-run
returns-clause-run g c =
    flushed_run _ _ _ _ c.answer_input-ending.result c.ended.result c.answer_input-ending.ensures.run c.flush-flushed.ensures.bytes c.ended.ensures.ending c.ended.ensures.fault
