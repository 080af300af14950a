use Rattle.std.proofs.Common.{◌∙◌}
use Rattle.ic_unsafe_ref.proofs.PlaceLemmas.{word_tells}
use Rattle.ic_chain.proofs.iter.is_at.Goals as goal

pub returns-in-Some : goal.returns-in-Some
returns-in-Some c = rw c.in-Some.is (c.eq.ensures ∙ word_tells _ _)
