use Rattle.std.proofs.Common.{◌≤◌, List}
use Rattle.ic_unsafe_ref.specs.declared.place.Place.{Place}
use Rattle.ic_lock_free_stack.specs.Holders.{spent_by}
use Rattle.stack_uses.specs.Mail.{holder_of, HasReceived}
use Rattle.lock_free_stack_tests.proofs.mail.receive_some.Given as goal

abbrev pub invariant-loop : goal.invariant-loop
invariant-loop l = record { kept : (ps : List Place) × HasReceived l.stacks l.receiver ps; spent : spent_by (holder_of l.receiver) ≤ l.counter }
