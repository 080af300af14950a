use Rattle.std.proofs.Common.{List, [], ◌++◌}
use Rattle.ic_link_ops.specs.Prelude.{Place, but_last}
use Rattle.collections_tests.proofs.lent.write_moved.Goals as goal

pub move_to_back-requires : goal.move_to_back-requires
move_to_back-requires g c =
    let s : List Place = c.requires.shown.0 in
    let rest : List Place = but_last s in
    let lent = rw (← c.lend-lent.ensures.list, ← c.lend-lent.ensures.links) at c.requires.shown.1 in
    let front = c.in-Ok.ensures.pushed.inserted rest (c.pop_back.ensures.popped.removed s lent) in
    record { member = record { front = []; back = rest; shown = rw (c.new-object.ensures, c.place-place.ensures) front } }

pub move_to_front-requires : goal.move_to_front-requires
move_to_front-requires g c =
    let s : List Place = c.requires.shown.0 in
    let rest : List Place = but_last s in
    let lent = rw (← c.lend-lent.ensures.list, ← c.lend-lent.ensures.links) at c.requires.shown.1 in
    let front = c.in-Ok.ensures.pushed.inserted rest (c.pop_back.ensures.popped.removed s lent) in
    let after = c.move_to_back.ensures.to_end.moved [] rest (rw (c.new-object.ensures, c.place-place.ensures) front) in
    record { member = record { front = rest; back = []; shown = after } }

pub remove-requires : goal.remove-requires
remove-requires g c =
    let s : List Place = c.requires.shown.0 in
    let rest : List Place = but_last s in
    let lent = rw (← c.lend-lent.ensures.list, ← c.lend-lent.ensures.links) at c.requires.shown.1 in
    let front = c.in-Ok.ensures.pushed.inserted rest (c.pop_back.ensures.popped.removed s lent) in
    let after = c.move_to_back.ensures.to_end.moved [] rest (rw (c.new-object.ensures, c.place-place.ensures) front) in
    record { member = record { front = []; back = rest ++ []; shown = c.move_to_front.ensures.to_end.moved rest [] after } }
