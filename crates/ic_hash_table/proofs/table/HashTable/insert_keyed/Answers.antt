use Rattle.std.proofs.Common.{[], refl, ◌∙◌}
use Rattle.ic_hash_table.proofs.Callers.{held_represented}
use Rattle.ic_hash_table.proofs.FoundMembers.{chain_of}
use Rattle.ic_hash_table.proofs.HeldTables.{held_with, on_ok}
use Rattle.ic_hash_table.proofs.table.HashTable.insert_keyed.Goals as goal

pub insert_at-requires : goal.insert_at-requires
insert_at-requires g c =
    let k = chain_of c.requires.held.1 c.slot_of_object-at.result c.slot_of_object-at.ensures.in_bounds in record {
      covered = c.requires.covered;
      held = (g.L.Values.values c.args.links.now, c.requires.held);
      in_bounds = c.slot_of_object-at.ensures.in_bounds;
      gap = (record { front = []; back = k.chain }, k.shown, refl, c.front-front.ensures ∙ k.shown.head);
    }

pub returns-clause-inserted : goal.returns-clause-inserted
returns-clause-inserted g c s held =
    let k = chain_of held c.slot_of_object-at.result c.slot_of_object-at.ensures.in_bounds in
    on_ok c.insert_at.result held_with
    (c.insert_at.ensures.inserted (g.L.Values.values c.args.links.now) s (record { front = []; back = k.chain }) held c.requires.placed
    (rw c.place.ensures at c.slot_of_object-at.ensures.belongs) k.shown refl (c.front-front.ensures ∙ k.shown.head))

-- the insert keeps the extent of the table of links, and the stored values are a part of the extent
pub returns-clause-values : goal.returns-clause-values
returns-clause-values g c =
    let q = c.requires.held in g.met.L.LinkValues.values_stay _ _ (c.insert_at.ensures.kept.chains.frame q.0 (held_represented q.1)).extent
