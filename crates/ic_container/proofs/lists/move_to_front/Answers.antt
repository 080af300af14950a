use Rattle.std.proofs.Common.{◌++◌, refl}
use Rattle.ic_container.proofs.EditLemmas.{moved_linked}
use Rattle.ic_container.proofs.lists.move_to_front.Goals as goal

pub returns : goal.returns
returns g c =
    let e = rw c.new.ensures at c.move_to_front.ensures in
    let m = c.requires.member in
    (m.front, m.back, m.front ++ m.back, moved_linked m refl (e.shown m.front m.back m.shown) e.linked e.frame)
