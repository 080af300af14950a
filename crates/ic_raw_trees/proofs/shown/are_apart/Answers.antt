use Rattle.ic_raw_trees.proofs.Checks.{apart_by}
use Rattle.ic_raw_trees.proofs.shown.are_apart.Goals as goal

pub returns-in-Some : goal.returns-in-Some
returns-in-Some c = apart_by c.args.one c.args.given c.in-Some.place c.is_at.result c.in-Some.is c.is_at.ensures
