use Rattle.std.proofs.Common.{None, length, ap, ◌∙◌}
use Rattle.ic_unsafe_ref.specs.Places.{place_at}
use Rattle.ic_unsafe_ref.proofs.PlaceLemmas.{place_at_word}
use Rattle.ic_raw.specs.Tables.{raw_entries}
use Rattle.ic_raw.proofs.Seen.{number_within, number_beyond}
use Rattle.ic_raw.proofs.nodes.RawTable+RawThree.named.Goals as goal
use Rattle.ic_raw.proofs.nodes.RawTable+RawThree.named.Goals.{then-number-self, else-number-self}

pub returns : goal.returns
returns c =
    let places = length (raw_entries c.args.self.now) in elim c.if-number-self.branch [
      | then-number-self w ↦ c.from_word.ensures ∙ ap place_at w.word_in_bounds-is ∙ number_within places c.args.word w.if-number-self.true
      | else-number-self w ↦ c.from_word.ensures ∙ ap place_at w.word_in_bounds-is ∙ place_at_word None ∙ number_beyond places c.args.word w.if-number-self.false
    ]
