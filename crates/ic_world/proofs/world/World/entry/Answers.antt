use Rattle.ic_world.proofs.world.World.entry.Goals as goal

pub returns-in-Ok-Some : goal.returns-in-Ok-Some
returns-in-Ok-Some g c = rw c.in-Ok-Some.field-0-is at c.in-Ok-Some.ensures

pub returns-in-Ok-None : goal.returns-in-Ok-None
returns-in-Ok-None g c = rw c.in-Ok-None.field-0-is at c.in-Ok-None.ensures
