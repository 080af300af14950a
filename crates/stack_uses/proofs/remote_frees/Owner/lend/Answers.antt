use Rattle.ic_lock_free_stack.proofs.HolderLemmas.{apart_in}
use Rattle.stack_uses.proofs.remote_frees.Owner.lend.Goals as goal

pub returns-clause-others : goal.returns-clause-others
returns-clause-others g c s was out = record { made = c.push.ensures.made; stack = was.stack; chain = c.push.ensures.chains c.args.self.now.free s was.chain (λ q m. apart_in s c.args.place q out m) }

pub returns-clause-kept : goal.returns-clause-kept
returns-clause-kept g c = (c.requires.out.0, returns-clause-others g c c.requires.out.0 c.requires.out.1 c.requires.out.2)
