use Rattle.std.proofs.Common.{is_some, ap, ◌∙◌, arith, sym, true≢false}
use Rattle.pool_uses.proofs.KeepingSlots.{few, filled, filled_handle, filled_usable, first_of_vacant, inserts_new, kept_grown, kept_placed, shown}
use Rattle.pool_uses.proofs.slots.Slots.insert.Goals as goal

pub pop_front-requires : goal.pop_front-requires
pop_front-requires g c = record { shown = (_, shown c.self.invariant) }

-- The following proofs are for the case that a vacant slot gets the value
pub overflow_add-self : goal.overflow_add-self
overflow_add-self g c = omega (arith, few c.self.invariant.counted)

pub invariant_of-self : goal.invariant_of-self
invariant_of-self g c =
    let pop = c.in-Some.ensures in
    rw c.fill-generation.ensures.links (filled c.self.invariant c.pop_front.new.links c.pop_front.new.self c.args.value pop.answer pop.removed pop.released pop.frame c.fill-generation.ensures.filled)

pub returns-in-Some-clause-inserted : goal.returns-in-Some-clause-inserted
returns-in-Some-clause-inserted g c =
    let pop = c.in-Some.ensures in
    rw (c.place.ensures, ← c.self.view_is) (filled_handle c.self.invariant c.pop_front.new.links c.pop_front.new.self c.args.value pop.answer pop.removed pop.released pop.frame c.fill-generation.ensures.filled)

pub returns-in-Some-clause-reused : goal.returns-in-Some-clause-reused
returns-in-Some-clause-reused g c can =
    let pop = c.in-Some.ensures in
    rw (c.place.ensures, ← c.self.view_is) (filled_usable c.self.invariant c.pop_front.new.links c.pop_front.new.self c.args.value pop.answer pop.removed pop.released pop.frame c.fill-generation.ensures.filled)

-- The following proofs are for the case that no slot is vacant, and that there is no place or no memory for a new slot
pub invariant_of-self-in-Err-NoPlaceLeft : goal.invariant_of-self-in-Err-NoPlaceLeft
invariant_of-self-in-Err-NoPlaceLeft g c =
    let e = rw c.in-Err-NoPlaceLeft.field-0-is at c.in-Err-NoPlaceLeft.ensures in
    rw (e.refused.1, c.in_default.ensures.empty.0) (kept_grown c.self.invariant (rw c.in_default.ensures.empty.1 at e.keeps))

pub returns-in-Err-NoPlaceLeft-clause-ready : goal.returns-in-Err-NoPlaceLeft-clause-ready
returns-in-Err-NoPlaceLeft-clause-ready g c can = let k = c.self.invariant in ap is_some (c.in_default.ensures.answer _ (shown k)) ∙ first_of_vacant k (rw (← c.self.view_is) at can)

pub invariant_of-self-in-Err-OutOfMemory : goal.invariant_of-self-in-Err-OutOfMemory
invariant_of-self-in-Err-OutOfMemory g c =
    let e = rw c.in-Err-OutOfMemory.field-0-is at c.in-Err-OutOfMemory.ensures in
    rw (e.refused.1, c.in_default.ensures.empty.0) (kept_grown c.self.invariant (rw c.in_default.ensures.empty.1 at e.keeps))

pub returns-in-Err-OutOfMemory-clause-ready : goal.returns-in-Err-OutOfMemory-clause-ready
returns-in-Err-OutOfMemory-clause-ready g c can = let k = c.self.invariant in ap is_some (c.in_default.ensures.answer _ (shown k)) ∙ first_of_vacant k (rw (← c.self.view_is) at can)

-- The following proofs are for the case that a new slot was placed
pub overflow_add-self-2 : goal.overflow_add-self-2
overflow_add-self-2 g c = omega (arith, few c.self.invariant.counted)

pub invariant_of-self-2 : goal.invariant_of-self-2
invariant_of-self-2 g c =
    let e = c.in-Ok.ensures in
    rw c.in_default.ensures.empty.0 (kept_placed c.self.invariant (rw c.in_default.ensures.empty.1 at e.keeps) e.placed e.covered)

pub returns-clause-inserted : goal.returns-clause-inserted
returns-clause-inserted g c = rw (c.place-3.ensures, ← c.self.view_is) (inserts_new c.in-Ok.slot c.self.inside.len c.in-Ok.ensures.placed)

-- if a new slot was placed, then no slot was vacant. So the condition of the clause `reused` does not hold
pub returns-clause-reused : goal.returns-clause-reused
returns-clause-reused g c can =
    let k = c.self.invariant in
    absurd (true≢false (sym (ap is_some (c.in_default.ensures.answer _ (shown k)) ∙ first_of_vacant k (rw (← c.self.view_is) at can))))
