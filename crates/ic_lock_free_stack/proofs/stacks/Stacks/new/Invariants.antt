use Rattle.std.proofs.Common.{◌≡◌, ◌-◌, ◌≤◌, map, vec_len, vec_capacity, All}
use Rattle.std.specs.List.{range_with_len}
use Rattle.ic_lock_free_stack.specs.Prelude.{fresh, IsSeatOf, hand_with, name_of, IsOf, IsNew}
use Rattle.ic_lock_free_stack.proofs.stacks.Stacks.new.Given as goal

abbrev pub invariant-loop : goal.invariant-loop
invariant-loop g l = record {
  count : vec_len l.all ≡ l.counter;
  room : l.holders ≤ vec_capacity l.all;
  dealer : IsSeatOf l.made l.dealer;
  left : l.dealer.me.0 ≡ hand_with l.made (map fresh (range_with_len l.counter (l.holders - l.counter)));
  fresh : All (λ h. IsOf l.made h × IsNew h) l.all.items;
  named : map name_of l.all.items ≡ range_with_len 0 l.counter;
}
