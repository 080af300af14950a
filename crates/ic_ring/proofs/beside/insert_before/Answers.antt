use Rattle.std.proofs.Common.{◌∷◌, ◌++◌, [], rules}
use Rattle.ic_ring.proofs.Circles.{rotated, seen_from, seen_at, prev_not}
use Rattle.ic_ring.proofs.beside.insert_before.Goals as goal

pub prev_of-prev-requires : goal.prev_of-prev-requires
prev_of-prev-requires g c = c.requires.ring

pub insert_between-requires : goal.insert_between-requires
insert_between-requires g c = record { covered = rw c.place.ensures c.requires.covered; ring = c.requires.ring; before = c.prev_of-prev.ensures }

pub returns : goal.returns
returns g c = record {
  inserted = λ head front back shown.
      let put = c.if-not-insert_between.ensures.inserted (back ++ head ∷ front) (seen_from front c.args.at back shown) in
      rw (← c.place.ensures) (rotated (c.place.result ∷ c.args.at ∷ back) (head ∷ front) put);
  at_head = λ s shown. rw (← c.place.ensures) (rotated (c.place.result ∷ []) (c.args.at ∷ s) (c.if-not-insert_between.ensures.inserted s shown));
  acquired = rw (← c.place.ensures) c.if-not-insert_between.ensures.acquired;
  refused = search rules;
  unchanged = search rules;
  others = search rules;
  frame = λ r ring.
      let seen = seen_at ring.0 ring.1 in record {
        extent = c.insert_between.ensures.extent;
        others = λ q out.
            let apart = seen.2 q out.1 in
            c.insert_between.ensures.beside q (prev_not seen.0 seen.1 c.prev_of-prev.ensures apart) (rw c.place.ensures out.0) apart.0;
      };
}
