use Rattle.std.proofs.Common.{◌∙◌, Some, sym, ap, arith}
use Rattle.ic_unsafe_ref.proofs.IndexLemmas.{in_range}
use Rattle.ic_unsafe_ref.proofs.values.value_in.Goals as goal

pub offset_bounds-values-index : goal.offset_bounds-values-index
offset_bounds-values-index g c = let h = (in_range c.args.values.now c.args.place c.index.ensures.value c.requires.placed).0 in omega (arith, h)

pub bounds-values-index : goal.bounds-values-index
bounds-values-index g c = (in_range c.args.values.now c.args.place c.index.ensures.value c.requires.placed).0

pub returns : goal.returns
returns g c = (in_range c.args.values.now c.args.place c.index.ensures.value c.requires.placed).1 c.index-values-index.result ∙ sym (ap (λ v. Some v) c.index-values-index.is)
