use Rattle.std.proofs.Common.{sym, ◌∙◌}
use Rattle.ic_unsafe_ref.proofs.ObjectLemmas.{get_entries}
use Rattle.ic_unsafe_ref.proofs.objects.Objects.get.Goals as goal

pub returns : goal.returns
returns g c = rw (← c.self.view_is, ← c.index.ensures.value) (c.get.ensures ∙ sym (get_entries c.self.inside.slab c.index.result))
