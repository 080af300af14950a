use Rattle.std.proofs.Common.{◌≡◌, ℕ, ◌<◌, ◌≤◌, [], ◌∷◌, map, take, drop, length, get_or}
use Rattle.ic_atomic.specs.declared.claims.Holder.{Holder}
use Rattle.ic_atomic.specs.Holders.{IsSeatOf, hand_of, hand_with, record_of}
use Rattle.ic_atomic.proofs.HolderLemmas.{HasRecords}
use Rattle.ic_atomic.proofs.claims.Claims.audit.Given as goal

abbrev pub invariant-loop-i : goal.invariant-loop-i
invariant-loop-i g l = record {
  long : length l.holders.items ≡ length l.fn.holders.items;
  table : IsSeatOf l.self l.all;
  gathered : hand_of l.all ≡ hand_with l.self (map record_of (take l.i l.fn.holders.items));
  empty : (k : ℕ) (d : Holder) → k < l.i → HasRecords l.self [] (get_or l.holders.items k d);
  left : (k : ℕ) (d : Holder) → l.i ≤ k → get_or l.holders.items k d ≡ get_or l.fn.holders.items k d;
}

abbrev pub invariant-loop-i-2 : goal.invariant-loop-i-2
invariant-loop-i-2 g l = record {
  long : length l.holders.items ≡ length l.fn.holders.items;
  table : IsSeatOf l.self l.all;
  gathered : hand_of l.all ≡ hand_with l.self (map record_of (drop l.i l.fn.holders.items));
  done : (k : ℕ) (d : Holder) → k < l.i → HasRecords l.self (record_of (get_or l.fn.holders.items k d) ∷ []) (get_or l.holders.items k d);
  empty : (k : ℕ) (d : Holder) → l.i ≤ k → k < length l.fn.holders.items → HasRecords l.self [] (get_or l.holders.items k d);
}
