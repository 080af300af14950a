use Rattle.std.proofs.Common.{sym}
use Rattle.ic_link_ops.proofs.SequenceLemmas.{some_same}
use Rattle.ic_raw.proofs.ring.beside.Goals as goal

pub returns-in-After-clause-links_back : goal.returns-in-After-clause-links_back
returns-in-After-clause-links_back g c x is = let k = c.pair.ensures.links_back x is in (k.0, rw c.in-After.is (sym (some_same k.1)))

pub returns-in-Before-clause-links_back : goal.returns-in-Before-clause-links_back
returns-in-Before-clause-links_back g c x is = let k = c.pair-in-Before.ensures.links_back x is in (k.0, rw c.in-Before.is (sym (some_same k.2)))
