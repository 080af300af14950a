use Rattle.std.proofs.Common.{◌≡◌, sym, ap, ◌∙◌}
use Rattle.ic_link_ops.proofs.SequenceLemmas.{some_same}
use Rattle.ic_hash_table.specs.Prelude.{number, slot_of}
use Rattle.ic_hash_table.proofs.FoundMembers.{chain_of}
use Rattle.ic_hash_table.proofs.HeldTables.{held_before, on_ok}
use Rattle.ic_hash_table.proofs.SideBySideLemmas.{belongs_by_value, keys_beside}
use Rattle.ic_hash_table.proofs.table.HashTable.insert_equal.Goals as goal

pub insert_at-requires : goal.insert_at-requires
insert_at-requires g c =
    let k = chain_of c.requires.held.1 c.search-at.result.0 c.search-at.ensures.in_bounds in
    let stop = c.search-at.ensures.stops k.chain k.shown in record {
      covered = c.requires.covered;
      held = (g.O.Values.values c.args.objects.now, c.requires.held);
      in_bounds = c.search-at.ensures.in_bounds;
      gap = (stop.gap, rw stop.whole k.shown, stop.after, stop.here);
    }

pub returns-clause-inserted : goal.returns-clause-inserted
returns-clause-inserted g c value there s held =
    let k = chain_of held c.search-at.result.0 c.search-at.ensures.in_bounds in
    let is : value ≡ c.value.result.now = some_same (sym there ∙ rw c.place.ensures at c.value.ensures) in
    let stop = rw c.get_key-key.ensures at (c.search-at.ensures.stops k.chain k.shown) in
    let belongs = belongs_by_value c.args.self.now.slots (number g.A.HashAdapter.key_of g.A.HashAdapter.hash_of c.args.self.now.adapter) (g.O.Values.values c.args.objects.now) c.args.object c.value.result.now
    (rw c.place.ensures at c.value.ensures) (c.search-at.ensures.slot ∙ ap (λ k. slot_of c.args.self.now.slots (g.A.HashAdapter.hash_of c.args.self.now.adapter k)) c.get_key-key.ensures) in
    rw is (on_ok c.insert_at.result (held_before c.search-at.result.2 stop (rw c.get_key-key.ensures at (c.search-at.ensures.found s held)))
    (c.insert_at.ensures.inserted (g.O.Values.values c.args.objects.now) s stop.gap held c.requires.placed belongs (rw stop.whole k.shown) stop.after stop.here))

pub returns-clause-beside : goal.returns-clause-beside
returns-clause-beside g c (s, held, side) =
    let a = c.args.self.now.adapter in
    let k = chain_of held c.search-at.result.0 c.search-at.ensures.in_bounds in
    let stop = rw c.get_key-key.ensures at (c.search-at.ensures.stops k.chain k.shown) in
    let belongs = belongs_by_value c.args.self.now.slots (number g.A.HashAdapter.key_of g.A.HashAdapter.hash_of c.args.self.now.adapter) (g.O.Values.values c.args.objects.now) c.args.object c.value.result.now
    (rw c.place.ensures at c.value.ensures) (c.search-at.ensures.slot ∙ ap (λ k. slot_of c.args.self.now.slots (g.A.HashAdapter.hash_of c.args.self.now.adapter k)) c.get_key-key.ensures) in
    on_ok c.insert_at.result
    (keys_beside g.met.A.Key.Eq.laws g.A.HashAdapter.key_of a (λ v w e. g.met.A.HashAdapter.equal_alike a (g.A.HashAdapter.key_of a v) (g.A.HashAdapter.key_of a w) e) c.insert_at.ensures.kept.chains.adapter
    c.args.object c.value.result.now (rw c.place.ensures at c.value.ensures) c.search-at.result.2 stop held.distinct (rw c.get_key-key.ensures at (c.search-at.ensures.found s held)) side)
    (c.insert_at.ensures.inserted (g.O.Values.values c.args.objects.now) s stop.gap held c.requires.placed belongs (rw stop.whole k.shown) stop.after stop.here)
