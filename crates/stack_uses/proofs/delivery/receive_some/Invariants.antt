use Rattle.std.proofs.Common.{◌≡◌, ◌≤◌, []}
use Rattle.ic_lock_free_stack.specs.Holders.{record_of, spent_by}
use Rattle.stack_uses.specs.Mail.{HasReceived, HasOpened}
use Rattle.stack_uses.specs.Delivery.{OnlyTakes}
use Rattle.stack_uses.proofs.delivery.receive_some.Given as goal

abbrev pub invariant-loop : goal.invariant-loop
invariant-loop g l = record {
  received : HasReceived l.stacks l.receiver l.came.items;
  opened : HasOpened l.stacks l.receiver [];
  takes : OnlyTakes (record_of l.receiver.holder);
  mailbox : l.receiver.mailbox ≡ 0;
  few : spent_by l.receiver.holder ≤ l.counter;
}
