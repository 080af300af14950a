use Rattle.std.proofs.Common.{◌≡◌, ◌+◌, All, vec_len}
use Rattle.std.specs.Vec.Iter.{into_iter_items, into_iter_len}
use Rattle.ic_workers.specs.Parties.{IsReady}
use Rattle.ic_workers.proofs.Promised.{IsPromised, EachAt}
use Rattle.ic_workers.proofs.sharing.fn.in_threads.scope.Given as goal

abbrev pub invariant-loop-party : goal.invariant-loop-party
invariant-loop-party g l = record {
  promised : EachAt (λ k thread. IsPromised l.claims l.gate.now k thread.promise) l.threads.items;
  ready : All (IsReady l.claims) (into_iter_items l.party-iterator);
  count : vec_len l.threads + into_iter_len l.party-iterator ≡ into_iter_len l.initial.party-iterator;
}
