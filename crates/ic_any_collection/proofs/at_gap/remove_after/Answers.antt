use Rattle.ic_any_collection.proofs.Editing.{removes_after}
use Rattle.ic_any_collection.proofs.at_gap.remove_after.Goals as goal

pub remove_next_at-out-requires : goal.remove_next_at-out-requires
remove_next_at-out-requires g c = record { stands = rw c.start-there.ensures.start c.requires.stands }

pub returns : goal.returns
returns g c = let e = c.remove_next_at-out.ensures in removes_after _ c.args.gap c.requires.can c.start-there.ensures.member e.removed e.kept.stands
