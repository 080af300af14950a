use Rattle.std.proofs.Common.{◌≡◌, [], All, sym, subst, arith}
use Rattle.std.proofs.lemmas.List.Elements.{All-push, All-rest}
use Rattle.std.specs.Vec.Iter.{into_iter_items}
use Rattle.ic_atomic.specs.Holders.{record_of, IsOf}
use Rattle.ic_workers.specs.Parties.{IsReady}
use Rattle.ic_workers.proofs.sharing.parties.Goals as goal

pub loop-holder-preserved : goal.loop-holder-preserved
loop-holder-preserved g c =
    let was = c.loop-holder.invariant in
    let step = c.in-Some.ensures.steps in
    record {
      ready = subst (All (IsReady c.args.offer.now.claims.now)) (sym c.in_ok-push.ensures.items) (All-push (IsReady c.args.offer.now.claims.now) c.loop-holder.parties.items c.in_ok-new.field-0 was.ready c.in_ok-new.ensures);
      fresh = All-rest (λ h. IsOf c.args.offer.now.claims.now h × (record_of h ≡ [])) c.in-Some.holder (into_iter_items c.next.new.self) (into_iter_items c.loop-holder.holder-iterator) step.0 was.fresh;
      count = omega (arith, was.count, step.1, c.in_ok-push.ensures.len);
    }
