use Rattle.ic_link_ops.specs.Prelude.{last, but_last, RepresentsChain}
use Rattle.ic_link_ops.specs.Taking.{Leaves}
use Rattle.ic_link_ops.proofs.SequenceLemmas.{fewer_back}
use Rattle.ic_link_ops.proofs.Taking.{goes}
use Rattle.ic_chain.specs.IntoIter.{rest_of, members_left}
use Rattle.ic_chain.proofs.Walking.{members_represented}
use Rattle.ic_chain.proofs.into_iter.IntoIterDoubleEndedIterator.next_back.Goals as goal

pub returns-clause-goes : goal.returns-clause-goes
returns-clause-goes g c =
    goes (λ t w. Leaves (RepresentsChain g.K.ForwardLinks.Between g.K.ListKind.kept) g.L.LinkOps.table (rest_of t) w) (members_left g.K.ForwardLinks.step g.L.LinkOps.table)
    (λ t w left. members_represented g.K.ForwardLinks.step g.met.K.ForwardLinks.leads _ (λ q b a h. g.met.L.LinkOps.linked_is_covered _ q (g.met.K.ForwardLinks.between_linked _ b a h)) left)
    last but_last fewer_back c.args.self.now _ c.pop_back.result c.requires
    (c.pop_back.ensures.answer c.requires.0 c.requires.1) (c.pop_back.ensures.removed c.requires.0 c.requires.1)
