use Rattle.std.proofs.Common.{◌≡◌, ◌+◌, [], All, vec_len}
use Rattle.std.specs.Vec.Iter.{into_iter_items, into_iter_len}
use Rattle.ic_atomic.specs.Holders.{record_of, IsOf}
use Rattle.ic_workers.specs.Parties.{IsReady}
use Rattle.ic_workers.proofs.sharing.parties.Given as goal

abbrev pub invariant-loop-holder : goal.invariant-loop-holder
invariant-loop-holder g l = record {
  ready : All (IsReady l.offer.claims.now) l.parties.items;
  fresh : All (λ h. IsOf l.offer.claims.now h × (record_of h ≡ [])) (into_iter_items l.holder-iterator);
  count : vec_len l.parties + into_iter_len l.holder-iterator ≡ vec_len l.fn.holders;
}
