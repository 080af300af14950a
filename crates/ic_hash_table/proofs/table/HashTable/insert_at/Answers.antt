use Rattle.std.proofs.Common.{◌+◌, None, [], ◌∷◌, slice_index_or, refl, sym, ap, subst, ◌∙◌, arith, get_or-set_same}
use Rattle.ic_link_ops.specs.Prelude.{insert, ChangesOnlyIn, acquires}
use Rattle.ic_hash_table.specs.Prelude.{RepresentsFrom, number, BelongsIn}
use Rattle.ic_link_ops.proofs.Walks.{few_places}
use Rattle.ic_hash_table.proofs.Callers.{represented_is_held}
use Rattle.ic_hash_table.proofs.Chains.{chains_free, chain_of_list}
use Rattle.ic_hash_table.proofs.HeldTables.{held_put, frame_at}
use Rattle.ic_hash_table.proofs.FoundMembers.{chain_of}
use Rattle.ic_hash_table.proofs.KeptBuckets.{front_kept, keeps_buckets}
use Rattle.ic_hash_table.proofs.table.HashTable.insert_at.Goals as goal

pub insert_between-requires : goal.insert_between-requires
insert_between-requires g c =
    let k = c.requires.gap in
    record { covered = rw c.place.ensures c.requires.covered; shown = (k.0, rw (c.from_front-chain.ensures, c.front.ensures) k.1, k.2, k.3) }

pub set_front-requires-clause-kept : goal.set_front-requires-clause-kept
set_front-requires-clause-kept g c =
    let k = c.requires.gap in
    let e = rw c.place.ensures at c.if-not-insert_between.ensures in
    let shown : RepresentsFrom g.L.SinglyLinkedListOps.successor (g.L.LinkOps.table c.insert_between.new.links) c.first.result (insert k.0 c.args.object) =
    rw c.first.ensures (chain_of_list (e.inserted k.0 (rw (c.from_front-chain.ensures, c.front.ensures) k.1) k.2 k.3).shows) in
    front_kept g.met.L.SinglyLinkedListOps.linked_alike (λ q l. g.met.B.BucketsFor.keeps_named q (g.met.L.LinkOps.covered_has_name _ q (g.met.L.LinkOps.linked_is_covered _ q l))) c.first.result (insert k.0 c.args.object) shown

pub overflow_add-self : goal.overflow_add-self
overflow_add-self g c =
    let h = c.requires.held.1 in omega (arith, h.1.counted, few_places h.0 h.1.distinct)

pub returns-clause-inserted : goal.returns-clause-inserted
returns-clause-inserted g c objects s gap held placed belongs was after before =
    let hash = number g.A.HashAdapter.key_of g.A.HashAdapter.hash_of in
    let e = rw c.place.ensures at c.if-not-insert_between.ensures in
    let off = (g.met.L.LinkOps.does_replay c.args.links.now c.insert_between.new.links (acquires c.args.object ∷ []) e.acquired).was in
    let out = chains_free g.L.SinglyLinkedListOps.successor (BelongsIn c.args.self.now.slots (hash c.args.self.now.adapter) objects)
    g.met.L.SinglyLinkedListOps.linked_alike (g.L.LinkOps.table c.args.links.now) 0 (g.B.BucketRow.fronts c.args.self.now.buckets) s c.args.object held.chained off in
    let put = e.inserted gap (rw (c.from_front-chain.ensures, c.front.ensures) was) after before in
    held_put g.L.SinglyLinkedListOps.successor hash g.B.BucketRow.fronts c.args.object c.set_front.new.self (c.args.self.now.len + 1) c.requires.in_bounds c.set_front.ensures.fronts held placed belongs out
    gap was (rw c.first.ensures (chain_of_list put.shows)) put.frame refl

-- the chain with the inserted object begins with the first member that its bucket stores
pub returns-clause-shows : goal.returns-clause-shows
returns-clause-shows g c gap was after before =
    let e = rw c.place.ensures at c.if-not-insert_between.ensures in
    let put = e.inserted gap (rw (c.from_front-chain.ensures, c.front.ensures) was) after before in
    let held = c.requires.held.1.1 in
    let is = ap (λ f. slice_index_or f c.args.at None) c.set_front.ensures.fronts
    ∙ get_or-set_same (g.B.BucketRow.fronts c.args.self.now.buckets) c.args.at c.first.result None (omega (arith, c.requires.in_bounds, held.enough)) in
    subst (λ f. RepresentsFrom g.L.SinglyLinkedListOps.successor (g.L.LinkOps.table c.insert_between.new.links) f (insert gap c.args.object)) (sym is) (rw c.first.ensures (chain_of_list put.shows))

pub returns-clause-acquired : goal.returns-clause-acquired
returns-clause-acquired g c = rw (← c.place.ensures) c.if-not-insert_between.ensures.acquired

pub returns-clause-kept : goal.returns-clause-kept
returns-clause-kept g c =
    let k = c.requires.gap in
    let held = c.requires.held.1.1 in
    record {
      chains = record {
        adapter = refl;
        buckets = keeps_buckets g.met.B.BucketRow.rewrites_count c.set_front.ensures.rewrites;
        frame = λ s shown. subst (λ l. ChangesOnlyIn (g.L.LinkOps.table c.args.links.now) (g.L.LinkOps.table c.insert_between.new.links) (c.args.object ∷ l)) (represented_is_held held shown)
            (frame_at (chain_of held c.args.at c.requires.in_bounds) k.0 k.1
            (rw c.place.ensures at (c.insert_between.ensures.frame k.0 (rw (c.from_front-chain.ensures, c.front.ensures) k.1) k.2 k.3)));
      };
      slots = refl;
    }
