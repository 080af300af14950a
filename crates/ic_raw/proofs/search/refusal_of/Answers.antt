use Rattle.std.proofs.Common.{refl, sym, ap, ◌∙◌}
use Rattle.ic_raw.specs.Prelude.{keys_fault, member_fault, is_linked_three}
use Rattle.ic_raw.specs.Tree.{lent_table}
use Rattle.ic_raw.proofs.Numbers.{none_named}
use Rattle.ic_raw.proofs.Faults.{by_first, by_others}
use Rattle.ic_raw.proofs.Keys.{lacking, enough}
use Rattle.ic_raw.proofs.search.refusal_of.Goals as goal

pub returns-then-keys-places-clause-refusal : goal.returns-then-keys-places-clause-refusal
returns-then-keys-places-clause-refusal c = by_first _ (lacking c.args.keys.now _ c.if-keys-places.true ∙ ap (λ n. keys_fault c.args.keys.now n) c.places.ensures) (λ e. cc)

pub returns-clause-refusal : goal.returns-clause-refusal
returns-clause-refusal c = c.refusal.ensures.refusal ∙ sym (by_others _ (sym (ap (λ at. member_fault is_linked_three (lent_table c.args.links.now) at) none_named)) refl) ∙ by_others _ (enough c.args.keys.now _ c.if-keys-places.false ∙ ap (λ n. keys_fault c.args.keys.now n) c.places.ensures) refl
