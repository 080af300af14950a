use Rattle.ic_hash_table.proofs.entry.OccupiedEntry.remove.Goals as goal

pub remove_at-requires : goal.remove_at-requires
remove_at-requires g c = record {
  held = (g.O.Values.values c.args.objects.now, c.requires.held);
  in_bounds = c.requires.found.0;
  member = rw (c.place-place.ensures, c.get.ensures) c.requires.found.1;
}

pub returns-clause-removed : goal.returns-clause-removed
returns-clause-removed g c front back held = c.remove_at.ensures.removed (g.O.Values.values c.args.objects.now) front back (rw c.new.ensures at held)

pub returns-clause-released : goal.returns-clause-released
returns-clause-released g c = rw c.new.ensures c.remove_at.ensures.released
