use Rattle.ic_container.proofs.EditLemmas.{left}
use Rattle.ic_container.proofs.lists.remove.Goals as goal

pub returns : goal.returns
returns g c =
    let e = rw c.new.ensures at c.remove.ensures in
    let m = c.requires.member in
    (m.front, m.back, left m e.shown e.unlinked e.frame)
