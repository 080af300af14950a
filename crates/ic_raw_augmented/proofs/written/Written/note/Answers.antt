use Rattle.std.proofs.Common.{arith}
use Rattle.ic_raw_augmented.proofs.Notes.{among_here, among_still, or_more, or_there}
use Rattle.ic_raw_augmented.proofs.written.Written.note.Goals as goal

pub returns-clause-here : goal.returns-clause-here
returns-clause-here c =
    let w = c.args.self.now in
    or_there w.is_full _ (among_here w.words w.count c.to_word.result c.args.place (omega arith) c.to_word.ensures.value)

pub returns-clause-others : goal.returns-clause-others
returns-clause-others c q h =
    let w = c.args.self.now in
    or_more w.is_full _ _ (among_still w.words w.count c.to_word.result c.if-self-count-ne0.false q) h
