use Rattle.std.proofs.Common.{◌≡◌, ◌∙◌, true, sym, arith, rules}
use Rattle.ic_augmented.specs.Counts.{counted}
use Rattle.collections_tests.proofs.Ready.{on_ok}
use Rattle.collections_tests.proofs.TwoTrees.{no_room}
use Rattle.collections_tests.proofs.tree.two_trees.four_counts.Goals as goal

pub returns-clause-room : goal.returns-clause-room
returns-clause-room g c =
    let is : c.is_ok.result ≡ true = search rules in
    let room = on_ok c.cover-covered.result (sym c.is_ok.ensures.value ∙ is) c.cover-covered.ensures.covers in
    omega (arith, room)

pub returns-clause-stale : goal.returns-clause-stale
returns-clause-stale g c q = (c.cover-covered.ensures.stays q).fresh ∙ no_room counted tt c.new-summaries.result.cells.items c.new-summaries.ensures q
