use Rattle.std.proofs.Common.{◌-◌, ◌++◌, refl, subst, arith}
use Rattle.ic_hash_table.specs.HashTable.{number}
use Rattle.ic_link_ops.specs.Tables.{ChangesOnlyIn}
use Rattle.ic_hash_table.proofs.Callers.{represented_is_held}
use Rattle.ic_hash_table.proofs.FoundMembers.{chain_of}
use Rattle.ic_hash_table.proofs.HeldTables.{held_taken, frame_taken, some_counted}
use Rattle.ic_hash_table.proofs.KeptBuckets.{front_kept, keeps_buckets}
use Rattle.ic_hash_table.proofs.table.HashTable.remove_at.Goals as goal

pub set_front-requires-clause-kept : goal.set_front-requires-clause-kept
set_front-requires-clause-kept g c =
    let m = c.requires.member in
    front_kept g.met.L.SinglyLinkedListOps.linked_alike (λ q l. g.met.B.BucketsFor.keeps_named q (g.met.L.LinkOps.covered_has_name _ q (g.met.L.LinkOps.linked_is_covered _ q l))) c.unlink_after-front.result (m.0 ++ m.1)
    (c.unlink_after-front.ensures.removed m.0 m.1 (rw c.front.ensures m.2) m.3)

pub overflow_sub-self : goal.overflow_sub-self
overflow_sub-self g c =
    let m = c.requires.member in some_counted c.requires.held.1.1 c.args.at c.requires.in_bounds m.0 m.1 c.args.place m.2

pub returns-clause-removed : goal.returns-clause-removed
returns-clause-removed g c objects front back held =
    let m = c.requires.member in
    let some = some_counted c.requires.held.1.1 c.args.at c.requires.in_bounds m.0 m.1 c.args.place m.2 in
    held_taken g.L.SinglyLinkedListOps.successor (number g.A.HashAdapter.key_of g.A.HashAdapter.hash_of) g.B.BucketRow.fronts c.args.place c.set_front.new.self (c.args.self.now.len - 1) c.requires.in_bounds c.set_front.ensures.fronts
    front back held m.0 m.1 m.2 (c.unlink_after-front.ensures.removed m.0 m.1 (rw c.front.ensures m.2) m.3) (c.unlink_after-front.ensures.frame m.0 m.1 (rw c.front.ensures m.2) m.3) (omega (arith, some))

pub returns-clause-kept : goal.returns-clause-kept
returns-clause-kept g c =
    let m = c.requires.member in
    let held = c.requires.held.1.1 in
    record {
      chains = record {
        adapter = refl;
        buckets = keeps_buckets g.met.B.BucketRow.rewrites_count c.set_front.ensures.rewrites;
        frame = λ s shown. subst (ChangesOnlyIn (g.L.LinkOps.table c.args.links.now) (g.L.LinkOps.table c.unlink_after-front.new.links)) (represented_is_held held shown)
            (frame_taken (chain_of held c.args.at c.requires.in_bounds) m.2 (c.unlink_after-front.ensures.frame m.0 m.1 (rw c.front.ensures m.2) m.3));
      };
      slots = refl;
    }
