use Rattle.std.proofs.Common.{◌≤◌, take}
use Rattle.mail_room.proofs.TallyLemmas.{IsTally}
use Rattle.mail_room.proofs.tally.in_order.Given as goal

abbrev pub invariant-loop-place : goal.invariant-loop-place
invariant-loop-place g l = record {
  tally : IsTally l.senders l.places l.numbers.items l.count (take l.place-index l.came);
  few : l.count ≤ l.place-index;
}
