use Rattle.std.proofs.Common.{sym, ◌∙◌}
use Rattle.ic_unsafe_ref.proofs.ObjectLemmas.{len_entries}
use Rattle.ic_unsafe_ref.proofs.objects.Objects.len.Goals as goal

pub returns : goal.returns
returns g c = rw (← c.self.view_is) (c.len.ensures ∙ sym (len_entries c.self.inside.slab))
