use Rattle.std.proofs.Common.{[], refl, ◌∙◌}
use Rattle.ic_hash_table.proofs.FoundMembers.{chain_of}
use Rattle.ic_hash_table.proofs.HeldTables.{held_with}
use Rattle.ic_hash_table.proofs.entry.VacantEntry.insert_entry.Goals as goal

pub insert_at-requires : goal.insert_at-requires
insert_at-requires g c =
    let k = chain_of c.requires.held.1 c.args.self.at c.requires.belongs.0 in record {
      covered = c.requires.covered;
      held = (g.O.Values.values c.args.objects.now, c.requires.held);
      in_bounds = c.requires.belongs.0;
      gap = (record { front = []; back = k.chain }, k.shown, refl, c.front-front.ensures ∙ k.shown.head);
    }

pub returns : goal.returns
returns g c =
    let objects = g.O.Values.values c.args.objects.now in
    let member = c.new.ensures ∙ c.place-place.ensures in
    record {
      entered = record {
        member = member;
        inserted = λ s held.
            let k = chain_of held c.args.self.at c.requires.belongs.0 in
            held_with (c.in_default.ensures.inserted objects s (record { front = []; back = k.chain }) held c.requires.placed c.requires.belongs.1 k.shown refl (c.front-front.ensures ∙ k.shown.head));
        can_remove =
            let k = chain_of c.requires.held.1 c.args.self.at c.requires.belongs.0 in
            let shows = c.in_default.ensures.shows (record { front = []; back = k.chain }) k.shown refl (c.front-front.ensures ∙ k.shown.head) in
            (rw c.insert_at.ensures.kept.slots c.requires.belongs.0, ([], k.chain, rw member shows, c.of.ensures));
        acquired = c.in_default.ensures.acquired;
        borrows = (refl, refl);
        kept = c.insert_at.ensures.kept;
        refused = tt;
        unchanged = tt;
      };
    }
