use Rattle.std.proofs.Common.{◌≡◌, ◌≤◌, ◌∙◌, sym, subst, false}
use Rattle.std.specs.Bool.{OnFalse}
use Rattle.ic_link_ops.specs.Tables.{Extent}
use Rattle.ic_atomic.specs.Holders.{places_of}
use Rattle.ic_atomic.proofs.AtomicTables.{certain, not_refused, held_with}
use Rattle.ic_atomic.proofs.atomic_link_ops.AtomicLinkOpsLinkOps.acquire_link.Given as given
use Rattle.ic_atomic.proofs.atomic_link_ops.AtomicLinkOpsLinkOps.acquire_link.Goals as goal

-- after the claim succeeded, the table cannot refuse to link the place. The holder did not hold the place before the claim, so the table did not link it
never : (g : given.Over) (c : goal.After-acquire_link g) → OnFalse c.acquire_link.result ⊥
never g c =
    let free : g.L.LinkOps.linked ((g.L.LinkOps.table c.args.self.now.links).entry c.args.place) ≡ false = c.args.self.now.held c.args.place ∙ c.if-claim.ensures.claimed.was in
    not_refused c.acquire_link.result free (g.met.L.AcceptsUnlinked.refused_is_linked _ _ c.args.place) c.acquire_link.ensures.refused

pub invariant_of-self : goal.invariant_of-self
invariant_of-self g c = record {
  table = c.if-claim.ensures.made.table;
  hand = c.if-claim.ensures.made.hand;
  covered = subst (λ (e : Extent). e.places ≤ places_of c.args.self.now.claims.now) (sym c.acquire_link.ensures.frame.extent) c.args.self.now.covered;
  held = held_with g.L.LinkOps.linked (g.met.L.LinkOps.does_replay _ _ _ (certain c.acquire_link.result (never g c) c.acquire_link.ensures.acquired)) c.if-claim.ensures.claimed c.args.self.now.held;
}
