use Rattle.std.proofs.Common.{sym}
use Rattle.ic_unsafe_ref.proofs.PlaceLemmas.{place_at_is}
use Rattle.ic_unsafe_ref.proofs.place.Place.from_word.Goals as goal

pub returns-then-word-ne0 : goal.returns-then-word-ne0
returns-then-word-ne0 c = sym (place_at_is c.args.word _)
