use Rattle.std.proofs.Common.{◌≡◌, ◌<◌, None, length, refl, ap, subst, ◌∙◌, arith}
use Rattle.ic_hash_table.specs.declared.slots.Slots.{Slots}
use Rattle.ic_hash_table.specs.Prelude.{number, BelongsIn, same_key, matches, split_of}
use Rattle.ic_hash_table.specs.Growth.{belongs_at, IsParted}
use Rattle.ic_link_ops.specs.Tables.{ChangesOnlyIn}
use Rattle.ic_hash_table.proofs.Callers.{represented_is_held}
use Rattle.ic_hash_table.proofs.FoundMembers.{chain_placed}
use Rattle.ic_hash_table.proofs.GrownTables.{parted_chain, held_grown, beside_grown}
use Rattle.ic_hash_table.proofs.HeldTables.{frame_taken}
use Rattle.ic_hash_table.proofs.SideBySideChains.{BelongTogether, keys_together}
use Rattle.ic_hash_table.proofs.SideBySideLemmas.{keys_alike}
use Rattle.ic_hash_table.proofs.KeptBuckets.{front_kept, keeps_buckets}
use Rattle.ic_hash_table.proofs.table.HashTable.grow_one.Goals as goal

pub part_chain-stays-requires-clause-placed : goal.part_chain-stays-requires-clause-placed
part_chain-stays-requires-clause-placed g c =
    let e : c.split-from.result ≡ split_of c.grown-slots.result c.args.self.now.slots.used = c.split-from.ensures ∙ ap (split_of c.grown-slots.result) c.used-to.ensures in
    rw (c.front.ensures, e) (chain_placed c.requires.held.1 (split_of c.grown-slots.result c.args.self.now.slots.used) c.grown-slots.ensures.splits.apart)

pub set_front-requires-clause-kept : goal.set_front-requires-clause-kept
set_front-requires-clause-kept g c =
    let held = c.requires.held.1 in
    let e : c.split-from.result ≡ split_of c.grown-slots.result c.args.self.now.slots.used = c.split-from.ensures ∙ ap (split_of c.grown-slots.result) c.used-to.ensures in
    let room : c.args.self.now.slots.used < length (g.B.BucketRow.fronts c.args.self.now.buckets) = omega (arith, c.used-to.ensures, c.count.ensures, c.if-to-count.false) in
    let k = parted_chain g.L.SinglyLinkedListOps.successor (number g.A.HashAdapter.key_of g.A.HashAdapter.hash_of) g.B.BucketRow.fronts c.grown-slots.result c.grown-slots.ensures.splits room held in
    let parted = c.part_chain-stays.ensures.parted k.chain (rw (c.front.ensures, e) k.shown) in
    front_kept g.met.L.SinglyLinkedListOps.linked_alike (λ q l. g.met.B.BucketsFor.keeps_named q (g.met.L.LinkOps.covered_has_name _ q (g.met.L.LinkOps.linked_is_covered _ q l)))
    c.part_chain-stays.result.0 parted.staying parted.represents_staying

pub set_front-requires-2-clause-kept : goal.set_front-requires-2-clause-kept
set_front-requires-2-clause-kept g c =
    let held = c.requires.held.1 in
    let e : c.split-from.result ≡ split_of c.grown-slots.result c.args.self.now.slots.used = c.split-from.ensures ∙ ap (split_of c.grown-slots.result) c.used-to.ensures in
    let room : c.args.self.now.slots.used < length (g.B.BucketRow.fronts c.args.self.now.buckets) = omega (arith, c.used-to.ensures, c.count.ensures, c.if-to-count.false) in
    let k = parted_chain g.L.SinglyLinkedListOps.successor (number g.A.HashAdapter.key_of g.A.HashAdapter.hash_of) g.B.BucketRow.fronts c.grown-slots.result c.grown-slots.ensures.splits room held in
    let parted = c.part_chain-stays.ensures.parted k.chain (rw (c.front.ensures, e) k.shown) in
    front_kept g.met.L.SinglyLinkedListOps.linked_alike (λ q l. g.met.B.BucketsFor.keeps_named q (g.met.L.LinkOps.covered_has_name _ q (g.met.L.LinkOps.linked_is_covered _ q l)))
    c.part_chain-stays.result.1 parted.moving parted.represents_moving

pub returns-clause-holds : goal.returns-clause-holds
returns-clause-holds g c s held =
    let e : c.split-from.result ≡ split_of c.grown-slots.result c.args.self.now.slots.used = c.split-from.ensures ∙ ap (split_of c.grown-slots.result) c.used-to.ensures in
    let room : c.args.self.now.slots.used < length (g.B.BucketRow.fronts c.args.self.now.buckets) = omega (arith, c.used-to.ensures, c.count.ensures, c.if-to-count.false) in
    let k = parted_chain g.L.SinglyLinkedListOps.successor (number g.A.HashAdapter.key_of g.A.HashAdapter.hash_of) g.B.BucketRow.fronts c.grown-slots.result c.grown-slots.ensures.splits room held in
    held_grown g.L.SinglyLinkedListOps.successor (number g.A.HashAdapter.key_of g.A.HashAdapter.hash_of) g.B.BucketRow.fronts c.grown-slots.result c.grown-slots.ensures.splits room held
    c.set_front.new.self c.set_front-2.new.self c.grown-slots.ensures.well_formed (rw e at c.set_front.ensures.fronts) (rw c.used-to.ensures at c.set_front-2.ensures.fronts)
    (subst (λ x. IsParted g.L.SinglyLinkedListOps.successor (matches (belongs_at c.grown-slots.result (number g.A.HashAdapter.key_of g.A.HashAdapter.hash_of c.args.self.now.adapter) x) (g.O.Values.values c.args.objects.now))
    (g.L.LinkOps.table c.part_chain-stays.new.links) k.chain None c.part_chain-stays.result.0 c.part_chain-stays.result.1) c.used-to.ensures
    (c.part_chain-stays.ensures.parted k.chain (rw (c.front.ensures, e) k.shown))) (c.part_chain-stays.ensures.frame k.chain (rw (c.front.ensures, e) k.shown))

pub returns-clause-beside : goal.returns-clause-beside
returns-clause-beside g c (s, held, side) =
    let a = c.args.self.now.adapter in
    let by_keys : (slots : Slots) → BelongTogether (BelongsIn slots (number g.A.HashAdapter.key_of g.A.HashAdapter.hash_of a) (g.O.Values.values c.args.objects.now)) (same_key g.A.Key.PartialEq.eq (g.A.HashAdapter.key_of a) (g.O.Values.values c.args.objects.now)) =
    λ slots. keys_together g.A.Key.PartialEq.eq (g.A.HashAdapter.key_of a) slots (number g.A.HashAdapter.key_of g.A.HashAdapter.hash_of a)
    (λ v w e. g.met.A.HashAdapter.equal_alike a (g.A.HashAdapter.key_of a v) (g.A.HashAdapter.key_of a w) e) (g.O.Values.values c.args.objects.now) in
    let e : c.split-from.result ≡ split_of c.grown-slots.result c.args.self.now.slots.used = c.split-from.ensures ∙ ap (split_of c.grown-slots.result) c.used-to.ensures in
    let room : c.args.self.now.slots.used < length (g.B.BucketRow.fronts c.args.self.now.buckets) = omega (arith, c.used-to.ensures, c.count.ensures, c.if-to-count.false) in
    let k = parted_chain g.L.SinglyLinkedListOps.successor (number g.A.HashAdapter.key_of g.A.HashAdapter.hash_of) g.B.BucketRow.fronts c.grown-slots.result c.grown-slots.ensures.splits room held in
    beside_grown g.L.SinglyLinkedListOps.successor (number g.A.HashAdapter.key_of g.A.HashAdapter.hash_of) g.B.BucketRow.fronts c.grown-slots.result c.grown-slots.ensures.splits room held
    c.set_front.new.self c.set_front-2.new.self c.grown-slots.ensures.well_formed (rw e at c.set_front.ensures.fronts) (rw c.used-to.ensures at c.set_front-2.ensures.fronts)
    (subst (λ x. IsParted g.L.SinglyLinkedListOps.successor (matches (belongs_at c.grown-slots.result (number g.A.HashAdapter.key_of g.A.HashAdapter.hash_of c.args.self.now.adapter) x) (g.O.Values.values c.args.objects.now))
    (g.L.LinkOps.table c.part_chain-stays.new.links) k.chain None c.part_chain-stays.result.0 c.part_chain-stays.result.1) c.used-to.ensures
    (c.part_chain-stays.ensures.parted k.chain (rw (c.front.ensures, e) k.shown))) (c.part_chain-stays.ensures.frame k.chain (rw (c.front.ensures, e) k.shown))
    (keys_alike g.met.A.Key.Eq.laws (g.A.HashAdapter.key_of c.args.self.now.adapter) (g.O.Values.values c.args.objects.now))
    (by_keys c.args.self.now.slots) (by_keys c.grown-slots.result) side

pub returns-clause-kept : goal.returns-clause-kept
returns-clause-kept g c =
    let held = c.requires.held.1 in
    let e : c.split-from.result ≡ split_of c.grown-slots.result c.args.self.now.slots.used = c.split-from.ensures ∙ ap (split_of c.grown-slots.result) c.used-to.ensures in
    let room : c.args.self.now.slots.used < length (g.B.BucketRow.fronts c.args.self.now.buckets) = omega (arith, c.used-to.ensures, c.count.ensures, c.if-to-count.false) in
    let k = parted_chain g.L.SinglyLinkedListOps.successor (number g.A.HashAdapter.key_of g.A.HashAdapter.hash_of) g.B.BucketRow.fronts c.grown-slots.result c.grown-slots.ensures.splits room held in
    record {
      adapter = refl;
      buckets = keeps_buckets g.met.B.BucketRow.rewrites_count (g.met.B.BucketRow.rewrites_on _ _ _ c.set_front.ensures.rewrites c.set_front-2.ensures.rewrites);
      frame = λ s shown. subst (ChangesOnlyIn (g.L.LinkOps.table c.args.links.now) (g.L.LinkOps.table c.part_chain-stays.new.links)) (represented_is_held held shown)
          (frame_taken k k.shown (c.part_chain-stays.ensures.frame k.chain (rw (c.front.ensures, e) k.shown)));
    }
