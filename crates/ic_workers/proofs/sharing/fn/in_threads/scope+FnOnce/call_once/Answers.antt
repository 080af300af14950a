use Rattle.ic_workers.proofs.sharing.fn.in_threads.scope+FnOnce.call_once.Goals as goal

pub scope-requires : goal.scope-requires
scope-requires g c =
    let ready = c.requires.1.1.1.0 in
    let sent = c.requires.1.1.1.1 in
    (sent.0, (sent.1, (sent.2, (sent.3, (sent.4, ready)))))
