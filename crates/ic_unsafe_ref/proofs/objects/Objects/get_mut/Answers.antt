use Rattle.std.proofs.Common.{refl, sym, ◌∙◌}
use Rattle.ic_unsafe_ref.proofs.ObjectLemmas.{get_entries, lent_alike}
use Rattle.ic_unsafe_ref.proofs.objects.Objects.get_mut.Goals as goal

pub returns : goal.returns
returns g c =
    let s = c.self.inside.slab in
    rw (← c.self.view_is) (
      lent_alike s c.index.result c.args.place c.get_mut.result c.index.ensures.value c.get_mut.ensures.value,
      record { writes_back = tt; value = c.get_mut.ensures.value ∙ sym (get_entries s c.index.result) ∙ (rw c.index.ensures.value refl) },
    )
