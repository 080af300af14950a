use Rattle.std.proofs.Common.{sym, ap, ◌∙◌}
use Rattle.ic_hash_table.specs.HashTable.{number}
use Rattle.ic_hash_table.proofs.Callers.{new_held, held_again}
use Rattle.keyed_tests.proofs.hash_table.words.found_again.Goals as goal

pub put-requires-clause-held : goal.put-requires-clause-held
put-requires-clause-held g c = new_held g.L.SinglyLinkedListOps.successor (number g.A.HashAdapter.key_of g.A.HashAdapter.hash_of) g.B.BucketRow.fronts (g.L.LinkOps.table c.args.links.now) c.new-table.result c.args.objects.now c.new-table.ensures.empty

pub find-requires : goal.find-requires
find-requires g c =
    let made = c.from_buckets-again.ensures in
    let last = c.put-2.ensures in
    record {
      held = held_again (made.adapter ∙ sym c.new-table.ensures.adapter ∙ sym c.put.ensures.adapter ∙ sym last.adapter) (made.fronts ∙ ap g.B.BucketRow.fronts c.into_buckets.ensures)
          (made.slots c.put-2.new.table.slots last.held.1.well_formed (sym c.chains-used.ensures)) (made.len ∙ c.len-len.ensures) last.held;
    }
