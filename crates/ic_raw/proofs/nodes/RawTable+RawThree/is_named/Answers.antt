use Rattle.std.proofs.Common.{ℕ, nat_eq, length, ap, ◌∙◌}
use Rattle.ic_raw.specs.Prelude.{raw_entries, number_in}
use Rattle.ic_raw.proofs.Seen.{number_names}
use Rattle.ic_raw.proofs.nodes.RawTable+RawThree.is_named.Goals as goal

pub returns : goal.returns
returns c =
    ap (λ (m : ℕ). nat_eq (number_in c.args.word) m) c.to_word.ensures.value
    ∙ number_names (length (raw_entries c.args.self.now)) c.args.word c.args.place c.requires
