-- After a stack is emptied, the records of all holders prove that every place which was pushed to it has been taken.
use Rattle.std.specs.Prelude.{◌≡◌, ℕ, List, [], Contains}
use Rattle.ic_unsafe_ref.specs.declared.place.Place.{Place}
use Rattle.ic_lock_free_stack.specs.declared.step.Entry.{Entry}
use Rattle.ic_lock_free_stack.specs.Counts.{puts, takes_out, in_all}
use Rattle.ic_lock_free_stack.specs.Prelude.{Party, IsHistory, sent, got, of_record, of_history}
use Rattle.stack_uses.specs.Mail.{IsOnlyReceiver, IsMail}

-- each place was taken from the stack as often as it was pushed to the stack, and in the order of the pushes. If only one holder took places, this holder
-- has received all of them
pub record IsEmptied (stack : ℕ) (order : List Entry) (parties : List Party) : Type 0 where
  pub one : IsHistory order parties
  pub as_often : (p : Place) → in_all (puts stack p) parties ≡ in_all (takes_out stack p) parties
  pub in_order : of_history (sent stack) order ≡ of_history (got stack) order
  pub to_one : (x : Party) → Contains parties x → IsOnlyReceiver stack x.name parties → IsMail stack parties (of_record (got stack) x.steps) []
