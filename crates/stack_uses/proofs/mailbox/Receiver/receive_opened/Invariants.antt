use Rattle.std.proofs.Common.{◌≡◌, ◌++◌, List}
use Rattle.ic_unsafe_ref.specs.declared.place.Place.{Place}
use Rattle.ic_lock_free_stack.specs.Holders.{left_of}
use Rattle.stack_uses.specs.Mail.{HasReceived}
use Rattle.stack_uses.proofs.mailbox.Receiver.receive_opened.Given as goal

abbrev pub invariant-loop-place : goal.invariant-loop-place
invariant-loop-place g l = record {
  kept : (ps : List Place) × HasReceived l.stacks l.self ps;
  came : (ps : List Place) → HasReceived l.stacks l.initial.self ps → (qs : List Place) × (l.came.items ≡ l.initial.came.items ++ qs) × HasReceived l.stacks l.self (ps ++ qs);
  holder : l.self.holder ≡ l.initial.self.holder;
  mailbox : l.self.mailbox ≡ l.initial.self.mailbox;
}

abbrev pub decreases-loop-place : goal.decreases-loop-place
decreases-loop-place g l = left_of l.self.holder l.self.opened
