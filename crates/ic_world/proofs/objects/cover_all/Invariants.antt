use Rattle.std.proofs.Common.{◌≡◌, map}
use Rattle.ic_world.specs.Tables.{table_of, left_in}
use Rattle.ic_world.proofs.Growth.{GrownTo}
use Rattle.ic_world.proofs.objects.cover_all.Given as goal

abbrev pub invariant-loop-f : goal.invariant-loop-f
invariant-loop-f g l = record { to : GrownTo (map table_of l.fn.tables) (map table_of l.tables) l.f l.count; left : left_in l.tables ≡ left_in l.fn.tables }
