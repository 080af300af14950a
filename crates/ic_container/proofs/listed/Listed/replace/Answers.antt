use Rattle.ic_unsafe_ref.proofs.Placing.{puts_other}
use Rattle.ic_container.proofs.ListedLemmas.{listed_changed}
use Rattle.ic_container.proofs.listed.Listed.replace.Goals as goal

pub invariant_of-self : goal.invariant_of-self
invariant_of-self g c = listed_changed c.self.invariant (rw (← c.self.view_is) at c.requires.placed) (puts_other c.self.inside.pool.objects c.args.place c.replace.new.dest)
