use Rattle.std.proofs.Common.{refl}
use Rattle.ic_rbtree.proofs.PlainTrees.{plain_members}
use Rattle.ic_container.proofs.TreeLemmas.{all_freed, all_represented, all_sorted, first_removed}
use Rattle.pool_uses.specs.KeptTimers.{deadline_of}
use Rattle.pool_uses.proofs.KeepingTimers.{all_later, first_due, takes_first}
use Rattle.pool_uses.proofs.timers.Timers.take_due.Goals as goal

pub returns-in_err-timer-clause-none : goal.returns-in_err-timer-clause-none
returns-in_err-timer-clause-none g c =
    let e = c.in_err-timer.ensures in
    rw (c.from_residual.ensures, ← c.self.view_is, e.unchanged.0, e.unchanged.1) (all_later c.self.inside.pool.objects c.args.now _ (e.none_due _ (all_represented deadline_of _ c.self.invariant)), refl)

pub take_due-requires : goal.take_due-requires
take_due-requires g c = record { queue = all_sorted deadline_of _ c.self.invariant }

pub invariant_of-self-2 : goal.invariant_of-self-2
invariant_of-self-2 g c =
    let a = c.self.invariant in
    let e = c.in_ok-timer.ensures in
    let out = c.remove-timer.ensures in
    let removed = first_removed deadline_of _ a c.take_due.new.links _ (first_due a c.args.now (e.due _ (all_represented deadline_of _ a))).0 (λ s shown. (e.taken s shown).shows) in
    rw out.links (all_freed deadline_of _ a out.value c.take_due.new.links _ removed e.released out.freed)

pub returns-clause-taken : goal.returns-clause-taken
returns-clause-taken g c =
    let a = c.self.invariant in
    let shown = all_represented deadline_of _ a in
    let out = c.remove-timer.ensures in
    let first = first_due a c.args.now (c.in_ok-timer.ensures.due _ shown) in
    rw (← c.self.view_is, out.links) (takes_first a c.args.now c.take_due.new.links _ out.value out.freed first.0 first.1 (plain_members c.take_due.new.links (c.in_ok-timer.ensures.taken _ shown).shows))
