use Rattle.std.proofs.Common.{refl, sym, ◌∙◌}
use Rattle.ic_rbtree.specs.Tree.{root_of}
use Rattle.pool_uses.proofs.KeepingTimers.{cancels, vacant_named}
use Rattle.pool_uses.proofs.timers.Timers.cancel.Goals as goal

pub returns-then-not-is_placed-clause-none : goal.returns-then-not-is_placed-clause-none
returns-then-not-is_placed-clause-none g c = rw (← c.self.view_is) (vacant_named c.self.invariant c.args.timer.now (sym c.is_placed.ensures ∙ c.if-not-is_placed.true), refl)

pub invariant_of-self : goal.invariant_of-self
invariant_of-self g c =
    let out = rw (c.new.ensures, c.place-2.ensures) at c.remove-timer.ensures in
    rw out.links ((rw c.place.ensures at c.remove.ensures.removed) _ out.freed)

pub returns-clause-cancelled : goal.returns-clause-cancelled
returns-clause-cancelled g c =
    let out = rw (c.new.ensures, c.place-2.ensures) at c.remove-timer.ensures in
    rw (← c.self.view_is, out.links) (cancels c.self.invariant c.remove.new.links (root_of c.remove.new.tree) out.value out.freed (rw c.place.ensures at c.remove.ensures.order))
