use Rattle.std.proofs.Common.{◌≡◌, ◌≤◌, ◌+◌, ◌*◌, [], All, vec_len}
use Rattle.std.specs.Vec.Iter.{into_iter_items, into_iter_len}
use Rattle.ic_lock_free_stack.specs.Holders.{places_of, record_of, IsOf}
use Rattle.stack_uses.specs.Delivery.{AreReady}
use Rattle.stack_uses.proofs.delivery.senders.Given as goal

abbrev pub invariant-loop-holder : goal.invariant-loop-holder
invariant-loop-holder g l = record {
  ready : AreReady l.stacks 0 l.count l.senders.items;
  fresh : All (λ h. IsOf l.stacks h × (record_of h ≡ [])) (into_iter_items l.holder-iterator);
  len : vec_len l.senders + into_iter_len l.holder-iterator ≡ vec_len l.fn.holders;
  first : l.first ≡ vec_len l.senders * l.count;
  room : l.first + into_iter_len l.holder-iterator * l.count ≤ places_of l.stacks;
}
