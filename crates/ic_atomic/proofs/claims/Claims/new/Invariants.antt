use Rattle.std.proofs.Common.{◌≡◌, ◌-◌, ◌≤◌, [], replicate, vec_len, vec_capacity, All}
use Rattle.ic_atomic.specs.Holders.{IsSeatOf, hand_of, hand_with, record_of, IsOf}
use Rattle.ic_atomic.proofs.claims.Claims.new.Given as goal

abbrev pub invariant-loop : goal.invariant-loop
invariant-loop g l = record {
  count : vec_len l.made ≡ l.counter;
  room : l.holders ≤ vec_capacity l.made;
  dealer : IsSeatOf l.claims l.dealer;
  left : hand_of l.dealer ≡ hand_with l.claims (replicate (l.holders - l.counter) []);
  fresh : All (λ h. IsOf l.claims h × (record_of h ≡ [])) l.made.items;
}
