use Rattle.std.proofs.Common.{subst}
use Rattle.ic_program.specs.Text.{ReadsWord}
use Rattle.std.proofs.Common.{take, sym}
use Rattle.ic_program.proofs.TextLemmas.{reads_word, slice_from}
use Rattle.ic_program.proofs.text.first_word.Goals as goal

pub returns : goal.returns
returns c =
    let start = c.without_spaces-start.result.now in
    subst (ReadsWord c.args.text.now (take c.word_length-length.result start)) (sym (slice_from c.word_length-length.result start))
    (reads_word c.args.text.now start c.word_length-length.result c.without_spaces-start.ensures c.word_length-length.ensures.length)
