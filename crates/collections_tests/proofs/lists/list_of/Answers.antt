use Rattle.ic_link_ops.specs.Prelude.{index_of, link_of, entries, table, linked_by, nameable}
use Rattle.ic_link_ops.specs.EntryLaws.{linked_in_range}
use Rattle.collections_tests.proofs.Placed.{chain_placed}
use Rattle.collections_tests.proofs.lists.list_of.Goals as goal

pub returns-clause-shown : goal.returns-clause-shown
returns-clause-shown g c =
    let i = c.filled-list.ensures in
    let stand = rw c.expect-objects.ensures at c.eight_objects.ensures.placed in
    let covered = linked_in_range (linked_by g.W.Words.is_linked) (link_of g.W.Words.unlinked) g.met.W.Words.starts_unlinked (nameable g.W.Words.width (entries c.filled-list.new.links)) in
    record {
      members = i.shown.0;
      shown = i.shown.1;
      placed = chain_placed g.K.ForwardLinks.Between (table g.W.Words.width g.W.Words.unlinked c.filled-list.new.links).entry c.expect-objects.result.0
          (λ q a b k. stand q (rw (← i.covers) (covered (index_of q) (g.met.K.ForwardLinks.between_linked _ a b k)))) _ i.shown.0 i.shown.1.chain;
    }
