use Rattle.std.proofs.Common.{◌+◌}
use Rattle.ic_raw.specs.Keys.{against}
use Rattle.ic_raw.specs.Tree.{lent_table}
use Rattle.ic_raw.proofs.Keys.{IsAt}
use Rattle.ic_raw.proofs.search.descend.Given as goal

-- before each turn of the loop, the search has compared three keys in each earlier turn
abbrev pub invariant-loop : goal.invariant-loop
invariant-loop l = IsAt (lent_table l.fn.links) l.fn.tree.head (against l.key l.fn.keys) l.equals l.way l.place (l.counter + l.counter + l.counter)
