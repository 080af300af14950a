use Rattle.std.proofs.Common.{arith}
use Rattle.ic_check.proofs.Marking.{place_named}
use Rattle.ic_check.proofs.whole.place_at.Goals as goal

pub returns : goal.returns
returns c = place_named c.args.index (omega (arith, c.if-index-ge-ALL_PLACES.false)) c.from_word.result c.from_word.ensures
