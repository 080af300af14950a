use Rattle.ic_program.proofs.TextLemmas.{slice_from}
use Rattle.ic_program.proofs.ReadingLemmas.{small_reads}
use Rattle.ic_program.proofs.word.small_number.Goals as goal

pub returns : goal.returns
returns c =
    let e = c.in_ok-number.ensures in
    small_reads c.args.text.now _ c.in_ok-number.number c.in_ok-number.digits e.read e.in_bounds.0 e.in_bounds.1 (slice_from c.in_ok-number.digits c.args.text.now) c.if-not-word_ends.ensures
