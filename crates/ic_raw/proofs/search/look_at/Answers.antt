use Rattle.ic_raw.specs.Tree.{lent_table}
use Rattle.ic_raw.proofs.Keys.{keyed}
use Rattle.ic_raw.proofs.search.look_at.Goals as goal

pub compare_at-requires : goal.compare_at-requires
compare_at-requires c = keyed (lent_table c.args.links.now) c.args.keys.now c.requires.keys c.args.place c.requires.here
