use Rattle.ic_world.proofs.Opened.{empty_whole}
use Rattle.ic_world.proofs.world.World.new.Goals as goal

pub invariant_of-result : goal.invariant_of-result
invariant_of-result g c = rw (c.new-2.ensures.items, c.new-3.ensures) (empty_whole c.new.result c.new.ensures.empty, record { none = λ f p kept h. cc })
