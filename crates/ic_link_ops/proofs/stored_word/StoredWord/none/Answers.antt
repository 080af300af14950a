use Rattle.std.proofs.Common.{ap}
use Rattle.ic_link_ops.specs.Words.{word_at}
use Rattle.ic_link_ops.proofs.stored_word.StoredWord.none.Goals as goal

pub returns : goal.returns
returns g c = ap word_at c.of.ensures
