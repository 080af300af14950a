use Rattle.ic_raw.proofs.tree.hand_out.Goals as goal

pub returns-then-tell-clause-links_back : goal.returns-then-tell-clause-links_back
returns-then-tell-clause-links_back c ok = c.tell.ensures.links_back c.if-tell.true
