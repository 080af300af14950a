use Rattle.keyed_tests.proofs.builder.built_anew.Goals as goal

pub push-requires-clause-covered : goal.push-requires-clause-covered
push-requires-clause-covered g c =
    let q = c.requires.shown in
    rw (c.into_builder-builder.ensures.taken_apart q.0 q.1).frame.extent c.requires.covered

pub push-requires-clause-shown : goal.push-requires-clause-shown
push-requires-clause-shown g c =
    let q = c.requires.shown in (q.0, (c.into_builder-builder.ensures.taken_apart q.0 q.1).shows)

pub returns-clause-shown : goal.returns-clause-shown
returns-clause-shown g c =
    let q = c.push.ensures.shown in (q.0, (c.build.ensures.built q.0 q.1).shows)
