use Rattle.structure_tests.proofs.algorithms.turned.Goals as goal

pub returns : goal.returns
returns g c =
    let r = c.requires.shown in
    record { shown = (_, c.rotate_left.ensures.rotated r.0 r.1); extent = (c.rotate_left.ensures.frame r.0 r.1).extent }
