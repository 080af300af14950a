use Rattle.std.proofs.Common.{◌∷◌, ◌++◌, rules}
use Rattle.ic_ring.proofs.Circles.{next_not, rotated, seen_from, seen_at, next_in_ring, next_stands, circle_after, after_apart}
use Rattle.ic_ring.proofs.OtherRings.{others_from}
use Rattle.ic_ring.proofs.beside.insert_after.Goals as goal

pub next_of-next-requires : goal.next_of-next-requires
next_of-next-requires g c = c.requires.ring

pub insert_between-requires : goal.insert_between-requires
insert_between-requires g c =
    let ring = c.requires.ring in record {
      covered = rw c.place.ensures c.requires.covered;
      ring = next_in_ring ring.0 ring.1 c.next_of-next.ensures;
      before = (next_stands ring.0 ring.1 c.next_of-next.ensures).1;
    }

pub returns : goal.returns
returns g c = record {
  inserted = λ head front back shown.
      let put = circle_after (back ++ head ∷ front) (seen_from front c.args.at back shown) c.next_of-next.ensures c.if-not-insert_between.ensures.inserted in
      rw (← c.place.ensures) (rotated (c.args.at ∷ c.place.result ∷ back) (head ∷ front) put);
  at_head = λ s shown. rw (← c.place.ensures) (circle_after s shown c.next_of-next.ensures c.if-not-insert_between.ensures.inserted);
  acquired = rw (← c.place.ensures) c.if-not-insert_between.ensures.acquired;
  refused = search rules;
  unchanged = search rules;
  others =
      let ring = c.requires.ring in
      others_from (λ r circle out. after_apart r c.args.at circle out (next_stands ring.0 ring.1 c.next_of-next.ensures).1) c.insert_between.ensures.others;
  frame = λ r ring.
      let seen = seen_at ring.0 ring.1 in record {
        extent = c.insert_between.ensures.extent;
        others = λ q out.
            let apart = seen.2 q out.1 in
            c.insert_between.ensures.beside q apart.0 (rw c.place.ensures out.0) (next_not seen.0 seen.1 c.next_of-next.ensures apart);
      };
}
