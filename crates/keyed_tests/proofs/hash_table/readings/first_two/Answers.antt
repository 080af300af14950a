use Rattle.std.proofs.Common.{[], refl}
use Rattle.keyed_tests.proofs.HashTables.{gap_after_first}
use Rattle.keyed_tests.proofs.hash_table.readings.first_two.Goals as goal

pub next-first-requires : goal.next-first-requires
next-first-requires g c = let q = c.requires.held in record { stands = (record { front = []; back = q.0 }, q.1, refl) }

pub next-requires : goal.next-requires
next-requires g c =
    let q = c.requires.held in
    let b = gap_after_first q.0 c.next-first.result (c.next-first.ensures (record { front = []; back = q.0 }) q.1 refl) in
    record { stands = (b.0, rw b.1 q.1, b.2) }
