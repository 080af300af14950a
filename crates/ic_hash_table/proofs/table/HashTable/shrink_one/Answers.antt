use Rattle.std.proofs.Common.{◌<◌, ◌++◌, length, refl, arith}
use Rattle.std.specs.Bool.{⊤}
use Rattle.ic_hash_table.specs.declared.slots.Slots.{Slots}
use Rattle.ic_hash_table.specs.Prelude.{number, BelongsIn, same_key, split_of}
use Rattle.ic_hash_table.proofs.SideBySideChains.{BelongTogether, keys_together}
use Rattle.ic_hash_table.proofs.ShrunkTables.{last_chain, joined_chain, joined_represented, chains_apart, joined_frame, held_shrunk, beside_shrunk}
use Rattle.ic_hash_table.proofs.KeptBuckets.{front_kept, keeps_buckets}
use Rattle.ic_hash_table.proofs.table.HashTable.shrink_one.Goals as goal

pub join_chains-front-requires-clause-shown : goal.join_chains-front-requires-clause-shown
join_chains-front-requires-clause-shown g c =
    let shown = c.requires.shown.1 in
    let split = c.shrunk-slots.ensures.splits in
    let l = last_chain g.L.SinglyLinkedListOps.successor (λ i p. ⊤) (λ i p. ⊤) c.shrunk-slots.result.used (split_of c.args.self.now.slots c.shrunk-slots.result.used) split.apart (λ j p n b. tt) (λ p b. tt) _ _ _ shown.distinct shown.chained
    (omega (arith, split.used, shown.enough)) in
    (l.chain, rw (c.front.ensures, c.used-last.ensures) l.shown)

pub join_chains-front-requires-clause-rest : goal.join_chains-front-requires-clause-rest
join_chains-front-requires-clause-rest g c =
    let shown = c.requires.shown.1 in
    let split = c.shrunk-slots.ensures.splits in
    let in_bounds : c.shrunk-slots.result.used < length (g.B.BucketRow.fronts c.args.self.now.buckets) = omega (arith, split.used, shown.enough) in
    let j = joined_chain g.L.SinglyLinkedListOps.successor (λ i p. ⊤) (λ i p. ⊤) c.shrunk-slots.result.used (split_of c.args.self.now.slots c.shrunk-slots.result.used) split.apart (λ j p n b. tt) (λ p b. tt) _ _ _ shown.distinct shown.chained in_bounds in
    let j_represented = joined_represented g.L.SinglyLinkedListOps.successor (λ i p. ⊤) (λ i p. ⊤) c.shrunk-slots.result.used (split_of c.args.self.now.slots c.shrunk-slots.result.used) split.apart (λ j p n b. tt) (λ p b. tt) _ _ _ shown.distinct shown.chained in_bounds in
    (j.chain, rw (c.front-2.ensures, c.split-to.ensures, c.used-last.ensures) j_represented)

pub set_front-requires-2-clause-kept : goal.set_front-requires-2-clause-kept
set_front-requires-2-clause-kept g c =
    let shown = c.requires.shown.1 in
    let split = c.shrunk-slots.ensures.splits in
    let in_bounds : c.shrunk-slots.result.used < length (g.B.BucketRow.fronts c.args.self.now.buckets) = omega (arith, split.used, shown.enough) in
    let l = last_chain g.L.SinglyLinkedListOps.successor (λ i p. ⊤) (λ i p. ⊤) c.shrunk-slots.result.used (split_of c.args.self.now.slots c.shrunk-slots.result.used) split.apart (λ j p n b. tt) (λ p b. tt) _ _ _ shown.distinct shown.chained in_bounds in
    let j = joined_chain g.L.SinglyLinkedListOps.successor (λ i p. ⊤) (λ i p. ⊤) c.shrunk-slots.result.used (split_of c.args.self.now.slots c.shrunk-slots.result.used) split.apart (λ j p n b. tt) (λ p b. tt) _ _ _ shown.distinct shown.chained in_bounds in
    let j_represented = joined_represented g.L.SinglyLinkedListOps.successor (λ i p. ⊤) (λ i p. ⊤) c.shrunk-slots.result.used (split_of c.args.self.now.slots c.shrunk-slots.result.used) split.apart (λ j p n b. tt) (λ p b. tt) _ _ _ shown.distinct shown.chained in_bounds in
    let apart = chains_apart g.L.SinglyLinkedListOps.successor (λ i p. ⊤) (λ i p. ⊤) c.shrunk-slots.result.used (split_of c.args.self.now.slots c.shrunk-slots.result.used) split.apart (λ j p n b. tt) (λ p b. tt) _ _ _ shown.distinct shown.chained in_bounds in
    front_kept g.met.L.SinglyLinkedListOps.linked_alike (λ q l. g.met.B.BucketsFor.keeps_named q (g.met.L.LinkOps.covered_has_name _ q (g.met.L.LinkOps.linked_is_covered _ q l)))
    c.join_chains-front.result (l.chain ++ j.chain)
    (c.join_chains-front.ensures.joined l.chain j.chain (rw (c.front.ensures, c.used-last.ensures) l.shown) (rw (c.front-2.ensures, c.split-to.ensures, c.used-last.ensures) j_represented) apart)

pub returns-clause-holds : goal.returns-clause-holds
returns-clause-holds g c objects s held =
    let split = c.shrunk-slots.ensures.splits in
    held_shrunk g.L.SinglyLinkedListOps.successor (number g.A.HashAdapter.key_of g.A.HashAdapter.hash_of) g.B.BucketRow.fronts c.shrunk-slots.result split held (omega (arith, split.used, held.enough))
    c.set_front.new.self c.set_front-2.new.self c.shrunk-slots.ensures.well_formed (rw c.used-last.ensures at c.set_front.ensures.fronts) (rw (c.split-to.ensures, c.used-last.ensures) at c.set_front-2.ensures.fronts)
    (λ l j l_represented j_represented apart. c.join_chains-front.ensures.joined l j (rw (c.front.ensures, c.used-last.ensures) l_represented) (rw (c.front-2.ensures, c.split-to.ensures, c.used-last.ensures) j_represented) apart)
    (λ l j l_represented j_represented apart. c.join_chains-front.ensures.frame l j (rw (c.front.ensures, c.used-last.ensures) l_represented) (rw (c.front-2.ensures, c.split-to.ensures, c.used-last.ensures) j_represented) apart)

pub returns-clause-beside : goal.returns-clause-beside
returns-clause-beside g c objects (s, held, side) =
    let a = c.args.self.now.adapter in
    let by_keys : (slots : Slots) → BelongTogether (BelongsIn slots (number g.A.HashAdapter.key_of g.A.HashAdapter.hash_of a) objects) (same_key g.A.Key.PartialEq.eq (g.A.HashAdapter.key_of a) objects) =
    λ slots. keys_together g.A.Key.PartialEq.eq (g.A.HashAdapter.key_of a) slots (number g.A.HashAdapter.key_of g.A.HashAdapter.hash_of a)
    (λ v w e. g.met.A.HashAdapter.equal_alike a (g.A.HashAdapter.key_of a v) (g.A.HashAdapter.key_of a w) e) objects in
    let split = c.shrunk-slots.ensures.splits in
    beside_shrunk g.L.SinglyLinkedListOps.successor (number g.A.HashAdapter.key_of g.A.HashAdapter.hash_of) g.B.BucketRow.fronts c.shrunk-slots.result split held (omega (arith, split.used, held.enough))
    c.set_front.new.self c.set_front-2.new.self c.shrunk-slots.ensures.well_formed (rw c.used-last.ensures at c.set_front.ensures.fronts) (rw (c.split-to.ensures, c.used-last.ensures) at c.set_front-2.ensures.fronts)
    (λ l j l_represented j_represented apart. c.join_chains-front.ensures.joined l j (rw (c.front.ensures, c.used-last.ensures) l_represented) (rw (c.front-2.ensures, c.split-to.ensures, c.used-last.ensures) j_represented) apart)
    (λ l j l_represented j_represented apart. c.join_chains-front.ensures.frame l j (rw (c.front.ensures, c.used-last.ensures) l_represented) (rw (c.front-2.ensures, c.split-to.ensures, c.used-last.ensures) j_represented) apart)
    (by_keys c.args.self.now.slots) (by_keys c.shrunk-slots.result) side

pub returns-clause-kept : goal.returns-clause-kept
returns-clause-kept g c = record {
  adapter = refl;
  buckets = keeps_buckets g.met.B.BucketRow.rewrites_count (g.met.B.BucketRow.rewrites_on _ _ _ c.set_front.ensures.rewrites c.set_front-2.ensures.rewrites);
  frame = λ s shown.
      let split = c.shrunk-slots.ensures.splits in
      let in_bounds : c.shrunk-slots.result.used < length (g.B.BucketRow.fronts c.args.self.now.buckets) = omega (arith, split.used, shown.enough) in
      let l = last_chain g.L.SinglyLinkedListOps.successor (λ i p. ⊤) (λ i p. ⊤) c.shrunk-slots.result.used (split_of c.args.self.now.slots c.shrunk-slots.result.used) split.apart (λ j p n b. tt) (λ p b. tt) _ _ _ shown.distinct shown.chained in_bounds in
      let j = joined_chain g.L.SinglyLinkedListOps.successor (λ i p. ⊤) (λ i p. ⊤) c.shrunk-slots.result.used (split_of c.args.self.now.slots c.shrunk-slots.result.used) split.apart (λ j p n b. tt) (λ p b. tt) _ _ _ shown.distinct shown.chained in_bounds in
      let j_represented = joined_represented g.L.SinglyLinkedListOps.successor (λ i p. ⊤) (λ i p. ⊤) c.shrunk-slots.result.used (split_of c.args.self.now.slots c.shrunk-slots.result.used) split.apart (λ j p n b. tt) (λ p b. tt) _ _ _ shown.distinct shown.chained in_bounds in
      let apart = chains_apart g.L.SinglyLinkedListOps.successor (λ i p. ⊤) (λ i p. ⊤) c.shrunk-slots.result.used (split_of c.args.self.now.slots c.shrunk-slots.result.used) split.apart (λ j p n b. tt) (λ p b. tt) _ _ _ shown.distinct shown.chained in_bounds in
      joined_frame g.L.SinglyLinkedListOps.successor (λ i p. ⊤) (λ i p. ⊤) c.shrunk-slots.result.used (split_of c.args.self.now.slots c.shrunk-slots.result.used) split.apart (λ j p n b. tt) (λ p b. tt) _ _ _ shown.distinct shown.chained in_bounds
      (c.join_chains-front.ensures.frame l.chain j.chain (rw (c.front.ensures, c.used-last.ensures) l.shown) (rw (c.front-2.ensures, c.split-to.ensures, c.used-last.ensures) j_represented) apart);
}
