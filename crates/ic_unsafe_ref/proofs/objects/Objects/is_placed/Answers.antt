use Rattle.std.proofs.Common.{sym, ap, ◌∙◌, is_some}
use Rattle.std.specs.Cmp.{both_ways}
use Rattle.ic_unsafe_ref.proofs.ObjectLemmas.{get_entries}
use Rattle.ic_unsafe_ref.proofs.objects.Objects.is_placed.Goals as goal

pub returns : goal.returns
returns g c = rw (← c.self.view_is, ← c.index.ensures.value)
    (both_ways _ _ c.contains.ensures.0 c.contains.ensures.1 ∙ sym (ap is_some (get_entries c.self.inside.slab c.index.result)))
