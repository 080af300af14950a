use Rattle.std.proofs.Common.{◌≡◌, IsSome, List, ◌∷◌, ◌++◌, sym, ap, ◌∙◌}
use Rattle.ic_link_ops.specs.Prelude.{Place, object_at}
use Rattle.ic_link_ops.proofs.Prelude.{all_back, some_same}
use Rattle.ic_hash_table.specs.Prelude.{slot_of, number, Holds}
use Rattle.ic_hash_table.specs.Searches.{has_key, Finds}
use Rattle.ic_hash_table.proofs.SideBySideLemmas.{found_beside}
use Rattle.ic_hash_table.proofs.NextMembers.{rest_of_chain, finds_after}
use Rattle.ic_hash_table.proofs.table.HashTable.next_equal.Goals as goal
use Rattle.ic_hash_table.proofs.table.HashTable.next_equal.Given.{Over}

pub value-requires : goal.value-requires
value-requires g c =
    let m = c.requires.member in
    record { placed = rw c.place-place.ensures (all_back (λ q. IsSome (object_at (g.O.Values.values c.args.objects.now) q)) m.front (c.args.member.now ∷ m.back) m.shown.placed).0 }

pub next-requires : goal.next-requires
next-requires g c =
    let m = c.requires.member in
    record { linked = rw c.place-place.ensures (sym (g.met.L.SinglyLinkedListOps.linked_alike _) ∙ (rest_of_chain m.front m.back c.args.member.now m.shown).linked) }

pub find_in_chain-found-requires-clause-placed : goal.find_in_chain-found-requires-clause-placed
find_in_chain-found-requires-clause-placed g c =
    let m = c.requires.member in
    let r = rest_of_chain m.front m.back c.args.member.now m.shown in
    record { members = r.rest; shown = rw (c.next.ensures, c.place-place.ensures) r.shown; placed = r.placed }

module _ (g : Over) (c : goal.After-reference g) where
  -- the search of the rest of the chain finds the next member with an equal key among all members after the given one
  finds : (front back : List Place)
      → Holds g.L.SinglyLinkedListOps.successor (number g.A.HashAdapter.key_of g.A.HashAdapter.hash_of) g.B.BucketRow.fronts (g.L.LinkOps.table c.args.links.now) c.args.self.now (g.O.Values.values c.args.objects.now) (front ++ c.args.member.now ∷ back)
      → Finds (has_key g.A.Key.PartialEq.eq (g.A.HashAdapter.key_of c.args.self.now.adapter) (g.A.HashAdapter.key_of c.args.self.now.adapter c.value.result.now) (g.O.Values.values c.args.objects.now)) back c.find_in_chain-found.result.1
  finds front back held =
      let r = rest_of_chain front back c.args.member.now held in
      let stop = rw (c.new-probe.ensures.adapter, c.new-probe.ensures.key, c.get_key-key.ensures) at (c.find_in_chain-found.ensures.stops r.rest (rw (c.next.ensures, c.place-place.ensures) r.shown)) in
      finds_after r (λ v e.
      ap (slot_of c.args.self.now.slots)
      (sym (g.met.A.HashAdapter.equal_alike c.args.self.now.adapter (g.A.HashAdapter.key_of c.args.self.now.adapter c.value.result.now) (g.A.HashAdapter.key_of c.args.self.now.adapter v) e))
      ∙ r.belongs c.value.result.now (rw c.place-place.ensures at c.value.ensures)) c.find_in_chain-found.result.1 stop

pub returns-clause-found : goal.returns-clause-found
returns-clause-found g c value there front back held =
    let is : value ≡ c.value.result.now = some_same (sym there ∙ rw c.place-place.ensures at c.value.ensures) in
    rw (is, c.reference.ensures) (finds g c front back held)

pub returns-clause-beside : goal.returns-clause-beside
returns-clause-beside g c front back held side =
    rw c.reference.ensures
    (found_beside g.A.Key.PartialEq.eq (g.A.HashAdapter.key_of c.args.self.now.adapter) (g.O.Values.values c.args.objects.now) c.args.member.now c.value.result.now (rw c.place-place.ensures at c.value.ensures)
    front back side c.find_in_chain-found.result.1 (finds g c front back held))
