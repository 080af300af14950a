use Rattle.std.proofs.Common.{ap, ◌∙◌}
use Rattle.ic_unsafe_ref.specs.Places.{index_of}
use Rattle.ic_unsafe_ref.proofs.ObjectLemmas.{get_entries, frees_value}
use Rattle.ic_unsafe_ref.proofs.unsafe_ref.UnsafeRef.into_box.Goals as goal

pub remove-requires : goal.remove-requires
remove-requires g c =
    let at = c.index.ensures.value ∙ ap index_of c.self.view_is in
    rw (← get_entries c.objects.inside.slab c.index.result, at) (rw (← c.objects.view_is) at c.requires.placed)

pub returns-clause-value : goal.returns-clause-value
returns-clause-value g c =
    let at = c.index.ensures.value ∙ ap index_of c.self.view_is in
    rw (← c.objects.view_is, ← at) (get_entries c.objects.inside.slab c.index.result ∙ c.remove.ensures.value)

pub returns-clause-freed : goal.returns-clause-freed
returns-clause-freed g c =
    let e = c.remove.ensures in
    let at = c.index.ensures.value ∙ ap index_of c.self.view_is in
    rw (← c.objects.view_is) (frees_value c.objects.inside.slab c.remove.new.self c.args.self c.index.result at e.key_is_next e.updates)
