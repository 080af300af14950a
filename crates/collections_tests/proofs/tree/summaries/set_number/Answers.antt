use Rattle.std.proofs.Common.{arith}
use Rattle.collections_tests.proofs.tree.summaries.set_number.Goals as goal

pub set_value-requires : goal.set_value-requires
set_value-requires g c =
    let q = c.numbered.invariant.ready in record { covered = q.room c.place_at.result (rw q.covers (omega (arith, c.place_at.ensures, c.requires.few))) }

pub invariant_of-numbered : goal.invariant_of-numbered
invariant_of-numbered g c =
    let q = c.numbered.invariant.ready in
    let e = c.set_value.ensures in
    record {
      placed = c.numbered.invariant.placed;
      ready = record {
        covers = rw e.links q.covers;
        members = q.members;
        shown = rw e.links q.shown;
        right = e.consistent q.members q.right;
        room = λ p covered. e.covers p (q.room p (rw e.links at covered));
      };
    }
