use Rattle.std.proofs.Common.{◌≡◌, ◌<◌, ◌+◌, ◌-◌, ℕ, ◌∷◌, length, arith, refl, sym, ap, ◌∙◌, subst, slice_index_or}
use Rattle.std.proofs.lemmas.List.Elements.{All-rest, All-head, All-same}
use Rattle.std.specs.Vec.Iter.{into_iter_items}
use Rattle.ic_atomic.specs.Prelude.{places_of, IsOf}
use Rattle.ic_workers.specs.Parties.{IsReady, HasGathered}
use Rattle.ic_workers.specs.declared.party.Gathered.{Gathered}
use Rattle.ic_workers.proofs.Promised.{IsPromised, EachAt, each_more, one_of}
use Rattle.ic_workers.proofs.sharing.fn.in_threads.scope.Given as given
use Rattle.ic_workers.proofs.sharing.fn.in_threads.scope.Goals as goal

pub loop-party-init : goal.loop-party-init
loop-party-init g c = record {
  promised = λ k d low. absurd (let none = ap length c.new-threads.ensures.items in omega (arith, low, none));
  ready = All-same (IsReady c.captures.claims.now) (into_iter_items c.into_iter-party-iterator.result) c.captures.parties.items c.into_iter-party-iterator.ensures.into_iter_gives.0 c.requires;
  count = omega (arith, c.new-threads.ensures.len);
}

-- the party that the loop takes is ready to claim the first places
ready_one : (g : given.Over) (c : goal.After-of-in-loop-party g) → IsReady c.captures.claims.now c.in-Some.party
ready_one g c =
    All-head (IsReady c.captures.claims.now) c.in-Some.party (into_iter_items c.next.new.self)
    (All-same (IsReady c.captures.claims.now) (c.in-Some.party ∷ into_iter_items c.next.new.self) (into_iter_items c.loop-party.party-iterator) (sym c.in-Some.ensures.steps.0) c.loop-party.invariant.ready)

pub spawn_with-requires-clause-runs : goal.spawn_with-requires-clause-runs
spawn_with-requires-clause-runs g c κs inside =
    let r = ready_one g c in
    record {
      claims_are = refl;
      made = subst (λ claims. IsOf claims c.in-Some.party.holder) (sym r.claims_are) r.made;
      covers = r.covers ∙ sym (ap places_of r.claims_are);
      fresh = r.fresh;
      unlinked = r.unlinked;
      empty = r.empty;
      row = r.row;
      long = r.long ∙ sym (ap places_of r.claims_are);
    }

pub spawn_with-requires-clause-keeps : goal.spawn_with-requires-clause-keeps
spawn_with-requires-clause-keeps g c κs inside r has =
    let claims_are = (ready_one g c).claims_are ∙ sym c.of.ensures in (
      subst (λ claims. HasGathered claims r) claims_are has.0,
      subst (λ claims. g.G.Gate.Reported c.of-in-loop-party.result.value (c.len-number.result + 1) (places_of claims)) claims_are (subst (λ gate. g.G.Gate.Reported gate (c.len-number.result + 1) (places_of c.in-Some.party.claims.now)) (sym c.of-in-loop-party.ensures) has.1),
    )

pub loop-party-preserved : goal.loop-party-preserved
loop-party-preserved g c =
    let was = c.loop-party.invariant in
    let step = c.in-Some.ensures.steps in
    let promise = c.in_ok-thread.ensures.ok in
    let threads = c.loop-party.threads in
    let number : c.len-number.result + 1 ≡ length threads.items + 1 = omega (arith, c.len-number.ensures, threads.ok.0) in
    let this : IsPromised c.captures.claims.now c.captures.gate.now (length threads.items) c.in_ok-thread.thread.promise = record {
      claims_are = ap (λ p. p.claims.value) promise ∙ c.of.ensures;
      gate_is = ap (λ p. p.gate.value) promise ∙ c.of-in-loop-party.ensures;
      number_is = ap (λ p. p.number) promise ∙ number;
    } in
    record {
      promised = subst (EachAt (λ k thread. IsPromised c.captures.claims.now c.captures.gate.now k thread.promise)) (sym c.in_ok-push.ensures.items)
          (each_more (λ k thread. IsPromised c.captures.claims.now c.captures.gate.now k thread.promise) threads.items c.in_ok-thread.thread was.promised this);
      ready = All-rest (IsReady c.captures.claims.now) c.in-Some.party (into_iter_items c.next.new.self) (into_iter_items c.loop-party.party-iterator) step.0 was.ready;
      count = omega (arith, was.count, step.1, c.in_ok-push.ensures.len);
    }

-- the result of the thread at position k satisfies the guarantee of this thread, which is about the claims and the worker with the number k + 1
module _ (g : given.Over) (c : goal.In_ok-join_promised g) (k : ℕ) (d : Gathered g.row.A.Denot) (low : k < length c.in_ok-join_promised.field-0.items) where
  kept : HasGathered c.captures.claims.now (slice_index_or c.in_ok-join_promised.field-0.items k d) × g.G.Gate.Reported c.captures.gate.now (k + 1) (places_of c.captures.claims.now)
  kept =
      let e = c.in_ok-join_promised.ensures in
      let done = c.in_ok-join_promised.field-0 in
      let threads = c.loop-party.threads in
      let at = (e.each k d (omega (arith, low, e.len, done.ok.0))).1 in
      let is = subst (λ h. IsPromised c.captures.claims.now c.captures.gate.now k h.promise) (sym at.handle_is) (c.loop-party.invariant.promised k at.handle (omega (arith, low, e.len, done.ok.0, threads.ok.0))) in (
        subst (λ claims. HasGathered claims (slice_index_or done.items k d)) is.claims_are at.kept.0,
        rw (sym is.claims_are, sym is.gate_is, sym is.number_is) at.kept.1,
      )

pub returns : goal.returns
returns g c =
    let e = c.in_ok-join_promised.ensures in
    let done = c.in_ok-join_promised.field-0 in (
      (λ k d low. (kept g c k d low).0),
      (λ worker some few.
          let k : ℕ = worker - 1 in
          let low : k < length done.items = omega (arith, some, few, done.ok.0) in
          let next : k + 1 ≡ worker = omega (arith, some) in
          subst (λ n. g.G.Gate.Reported c.captures.gate.now n (places_of c.captures.claims.now)) next (kept g c k (one_of done.items (omega (arith, low))) low).1),
      omega (arith, e.len, c.loop-party.invariant.count, c.in-None.ensures.steps.0, c.into_iter-party-iterator.ensures.into_iter_gives.1),
    )
