use Rattle.std.proofs.Common.{◌≡◌, ℕ, ◌<◌, ◌≤◌, [], map, take, length, get_or}
use Rattle.ic_lock_free_stack.specs.declared.stacks.Holder.{Holder}
use Rattle.ic_lock_free_stack.specs.Holders.{IsSeatOf, hand_with, account_of}
use Rattle.ic_lock_free_stack.proofs.AuditLemmas.{HasAccounts, Deals}
use Rattle.ic_lock_free_stack.proofs.stacks.Stacks.audit.Given as goal

abbrev pub invariant-loop-i : goal.invariant-loop-i
invariant-loop-i g l = record {
  long : length l.holders.items ≡ length l.fn.holders.items;
  table : IsSeatOf l.self l.all;
  gathered : l.all.me.0 ≡ hand_with l.self (map account_of (take l.i l.fn.holders.items));
  empty : (k : ℕ) (d : Holder) → k < l.i → HasAccounts l.self [] (get_or l.holders.items k d);
  left : (k : ℕ) (d : Holder) → l.i ≤ k → get_or l.holders.items k d ≡ get_or l.fn.holders.items k d;
}

abbrev pub invariant-loop-i-2 : goal.invariant-loop-i-2
invariant-loop-i-2 g l = Deals l.self l.fn.holders.items l.holders.items l.all l.i
