use Rattle.std.proofs.Common.{◌≡◌, refl}
use Rattle.std.proofs.lemmas.Fn.{called_at}
use Rattle.std.proofs.slice.Orders.{answers_next}
use Rattle.ic_list_algorithms.proofs.keeps.PassesKeeps.keeps_first.Goals as goal

pub returns-clause-answer : goal.returns-clause-answer
returns-clause-answer g c = λ test h.
    let e = answers_next g.F.FnMut (λ a r. r ≡ h.0 a.0.now) _ _ _ _ c.test.ensures h.1 in ((h.0, e.1, h.2), rw h.2 e.0)

pub returns-clause-asked : goal.returns-clause-asked
returns-clause-asked g c = called_at g.F.FnMut c.test.ensures refl
