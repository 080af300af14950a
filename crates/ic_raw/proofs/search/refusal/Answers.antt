use Rattle.std.proofs.Common.{[], refl, ap, ◌∙◌}
use Rattle.ic_raw.specs.Keys.{keys_fault}
use Rattle.ic_raw.proofs.Faults.{by_first, by_others}
use Rattle.ic_raw.proofs.Keys.{lacking, enough}
use Rattle.ic_raw.proofs.search.refusal.Goals as goal

pub returns-then-keys-places-clause-refusal : goal.returns-then-keys-places-clause-refusal
returns-then-keys-places-clause-refusal c = by_first [] (lacking c.args.keys.now _ c.if-keys-places.true ∙ ap (λ n. keys_fault c.args.keys.now n) c.places.ensures) (λ e. cc)

pub returns-clause-refusal : goal.returns-clause-refusal
returns-clause-refusal c = by_others [] (enough c.args.keys.now _ c.if-keys-places.false ∙ ap (λ n. keys_fault c.args.keys.now n) c.places.ensures) refl
