use Rattle.ic_indexed.proofs.place.place.Goals as goal

-- in this case the pool stored no object, so the index has each object as before
pub returns-in-Err-clause-all : goal.returns-in-Err-clause-all
returns-in-Err-clause-all g c =
    let e = c.in-Err.ensures in
    rw e.refused.1 (g.met.I.Index.has_grown c.args.index.now c.args.pool.now.links.0 c.place.new.self.links.0 c.args.pool.now.objects e.keeps.0 c.requires.all)

-- in this case the pool has stored a new object, so the index has all objects except the new one
pub insert_place-requires-clause-lacks : goal.insert_place-requires-clause-lacks
insert_place-requires-clause-lacks g c =
    let e = c.in-Ok.ensures in
    rw c.place-2.ensures (record {
      less = c.args.pool.now.objects;
      value = c.args.value;
      places = e.placed;
      all = g.met.I.Index.has_grown c.args.index.now c.args.pool.now.links.0 c.place.new.self.links.0 c.args.pool.now.objects e.keeps.0 c.requires.all;
    })
