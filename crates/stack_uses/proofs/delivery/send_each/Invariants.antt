use Rattle.std.proofs.Common.{◌≤◌, ◌<◌, ◌+◌, ◌-◌}
use Rattle.ic_lock_free_stack.specs.Holders.{places_of, stacks_of, spent_by}
use Rattle.stack_uses.specs.Delivery.{HasSent}
use Rattle.stack_uses.proofs.delivery.send_each.Given as goal

abbrev pub invariant-loop-index : goal.invariant-loop-index
invariant-loop-index g l = record {
  sent : HasSent l.stacks l.first (l.index - l.first) l.holder;
  spent : spent_by l.holder + l.first ≤ l.index;
  some : 0 < stacks_of l.stacks;
  inside : l.first + l.count ≤ places_of l.stacks;
  small : places_of l.stacks ≤ 4294967296;
}
