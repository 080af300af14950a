use Rattle.ic_container.proofs.EditLemmas.{joined_front}
use Rattle.pool_uses.proofs.KeepingSlots.{emptied_free, emptied_handle, emptied_some, emptied_value, kept_used_up, kept_vacated, members, shown}
use Rattle.pool_uses.proofs.slots.Slots.remove.Goals as goal

pub overflow_sub-self : goal.overflow_sub-self
overflow_sub-self g c = emptied_some c.self.invariant c.args.handle (rw (← c.self.view_is) at c.in_ok-get.ensures) (rw c.new-slot.ensures at c.empty-value.ensures.emptied)

-- The following proofs are for the case that the slot is used up: its generations have ended, and it is not used again
pub invariant_of-self : goal.invariant_of-self
invariant_of-self g c =
    rw c.empty-value.ensures.links
    (kept_used_up c.self.invariant c.args.handle (rw (← c.self.view_is) at c.in_ok-get.ensures) (rw c.new-slot.ensures at c.empty-value.ensures.emptied) c.if-handle-eq18446744073709551615.true)

pub returns-then-handle-eq18446744073709551615 : goal.returns-then-handle-eq18446744073709551615
returns-then-handle-eq18446744073709551615 g c =
    let is = rw (← c.self.view_is) at c.in_ok-get.ensures in
    let empties = rw c.new-slot.ensures at c.empty-value.ensures.emptied in
    rw (← c.self.view_is) (record { value = emptied_value c.self.invariant c.args.handle is empties; removed = emptied_handle c.self.invariant c.args.handle is empties; unchanged = tt })

-- The following proofs are for the case that the slot is vacant and is inserted at the front of the list
pub push_front-requires-clause-shown : goal.push_front-requires-clause-shown
push_front-requires-clause-shown g c = rw c.empty-value.ensures.links (members c.self.invariant, shown c.self.invariant)

pub invariant_of-self-2 : goal.invariant_of-self-2
invariant_of-self-2 g c =
    let k = c.self.invariant in
    let is = rw (← c.self.view_is) at c.in_ok-get.ensures in
    let empties = rw c.new-slot.ensures at c.empty-value.ensures.emptied in
    let push = rw (c.new-slot.ensures, c.empty-value.ensures.links) at c.push_front.ensures in
    kept_vacated k c.args.handle is empties c.if-handle-eq18446744073709551615.false (joined_front _ (shown k) _ c.push_front.result (emptied_free k c.args.handle is empties) push.refused push.inserted push.acquired push.frame)

pub returns : goal.returns
returns g c =
    let is = rw (← c.self.view_is) at c.in_ok-get.ensures in
    let empties = rw c.new-slot.ensures at c.empty-value.ensures.emptied in
    rw (← c.self.view_is) (record { value = emptied_value c.self.invariant c.args.handle is empties; removed = emptied_handle c.self.invariant c.args.handle is empties; unchanged = tt })
