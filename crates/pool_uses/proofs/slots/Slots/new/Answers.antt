use Rattle.pool_uses.proofs.KeepingSlots.{kept_none}
use Rattle.pool_uses.proofs.slots.Slots.new.Goals as goal

pub invariant_of-result : goal.invariant_of-result
invariant_of-result g c =
    let pool = c.new-2.ensures in rw c.new-3.ensures (kept_none _ _ pool.vacant (rw pool.links c.new.ensures))
