use Rattle.std.proofs.Common.{◌+◌, ◌-◌, map, vec_len}
use Rattle.ic_world.specs.ByNumber.{items_of, HaveLists}
use Rattle.ic_world.proofs.collections_by_number.cover_field.Given as goal

abbrev pub invariant-loop-alloc : goal.invariant-loop-alloc
invariant-loop-alloc g l = HaveLists (map items_of l.initial.live.items) (map items_of l.live.items)

abbrev pub decreases-loop-alloc : goal.decreases-loop-alloc
decreases-loop-alloc g l = l.field + 1 - vec_len l.live
