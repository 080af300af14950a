use Rattle.std.proofs.Common.{◌≡◌, ◌∷◌, Some}
use Rattle.ic_link_ops.proofs.Covering.{frames_join}
use Rattle.uses.proofs.free_list.give_and_take.Goals as goal

pub returns-clause-same : goal.returns-clause-same
returns-clause-same g c =
    let s = c.requires.shown in c.take.ensures.latest (c.args.object ∷ s.0) (c.in_ok-give_back.ensures.given s.0 s.1)

pub returns-clause-sequence : goal.returns-clause-sequence
returns-clause-sequence g c s shown = c.take.ensures.taken (c.args.object ∷ s) (c.in_ok-give_back.ensures.given s shown)

pub returns-clause-steps : goal.returns-clause-steps
returns-clause-steps g c =
    let s = c.requires.shown in
    let given = c.in_ok-give_back.ensures in
    let took : c.take.result ≡ Some c.args.object = c.take.ensures.latest (c.args.object ∷ s.0) (given.given s.0 s.1) in
    g.met.L.LinkOps.does_on _ _ _ _ _ given.acquired (rw took at c.take.ensures.released)

pub returns-clause-frame : goal.returns-clause-frame
returns-clause-frame g c s shown =
    let given = c.in_ok-give_back.ensures in
    frames_join (given.frame s shown) (c.take.ensures.frame (c.args.object ∷ s) (given.given s shown)) (λ q out. out)
