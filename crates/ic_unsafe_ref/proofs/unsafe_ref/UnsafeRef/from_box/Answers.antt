use Rattle.ic_unsafe_ref.proofs.ObjectLemmas.{places_value}
use Rattle.ic_unsafe_ref.proofs.unsafe_ref.UnsafeRef.from_box.Goals as goal
use Rattle.ic_unsafe_ref.proofs.unsafe_ref.UnsafeRef.from_box.Goals.{in-Ok, in-Err}

pub returns-clause-placed : goal.returns-clause-placed
returns-clause-placed g c =
    elim c.match-insert.branch [
      | in-Ok w ↦
          let e = w.in-Ok.ensures in
          rw (w.result-is, ← c.objects.view_is, w.new.ensures)
          (places_value c.objects.inside.slab c.insert.new.self w.of_index.result w.in-Ok.index c.args.value w.of_index.ensures e.key e.was_vacant e.updates)
      | in-Err w ↦ rw w.result-is tt
    ]
