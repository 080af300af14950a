use Rattle.std.proofs.Common.{[], refl, ◌∙◌}
use Rattle.ic_hash_table.proofs.FoundMembers.{chain_of}
use Rattle.ic_hash_table.proofs.HeldTables.{held_with, on_ok}
use Rattle.ic_hash_table.proofs.entry.VacantEntry.insert.Goals as goal

pub insert_at-requires : goal.insert_at-requires
insert_at-requires g c =
    let k = chain_of c.requires.held.1 c.args.self.at c.requires.belongs.0 in record {
      covered = c.requires.covered;
      held = (g.O.Values.values c.args.objects.now, c.requires.held);
      in_bounds = c.requires.belongs.0;
      gap = (record { front = []; back = k.chain }, k.shown, refl, c.front-front.ensures ∙ k.shown.head);
    }

pub returns-clause-inserted : goal.returns-clause-inserted
returns-clause-inserted g c s held =
    let k = chain_of held c.args.self.at c.requires.belongs.0 in
    on_ok c.insert_at.result held_with
    (c.insert_at.ensures.inserted (g.O.Values.values c.args.objects.now) s (record { front = []; back = k.chain }) held c.requires.placed c.requires.belongs.1
    k.shown refl (c.front-front.ensures ∙ k.shown.head))
