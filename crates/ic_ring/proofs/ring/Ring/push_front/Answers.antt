use Rattle.std.proofs.Common.{rules}
use Rattle.ic_ring.proofs.Circles.{next_in_ring, next_stands, next_not, circle_after, after_apart}
use Rattle.ic_ring.proofs.OtherRings.{others_from}
use Rattle.ic_ring.proofs.ring.Ring.push_front.Goals as goal

pub next_of-first-requires : goal.next_of-first-requires
next_of-first-requires g c = rw c.self.view_is c.requires.shown

pub insert_between-requires : goal.insert_between-requires
insert_between-requires g c =
    let ring = c.requires.shown in
    let next = rw c.self.view_is at c.next_of-first.ensures in record {
      covered = rw c.place.ensures c.requires.covered;
      ring = next_in_ring ring.0 ring.1 next;
      before = rw c.self.view_is (next_stands ring.0 ring.1 next).1;
    }

pub returns : goal.returns
returns g c = record {
  inserted = λ s shown. rw (← c.place.ensures) (circle_after s shown (rw c.self.view_is at c.next_of-first.ensures) c.if-not-insert_between.ensures.inserted);
  acquired = rw (← c.place.ensures) c.if-not-insert_between.ensures.acquired;
  refused = search rules;
  unchanged = search rules;
  others =
      let ring = c.requires.shown in
      let back = (next_stands ring.0 ring.1 (rw c.self.view_is at c.next_of-first.ensures)).1 in
      others_from (λ r circle out. after_apart r c.args.self.now circle out back) c.insert_between.ensures.others;
  frame = λ s shown.
      record {
        extent = c.insert_between.ensures.extent;
        others = λ q out.
            c.insert_between.ensures.beside q (rw c.self.view_is out.1.0) (rw c.place.ensures out.0)
            (next_not s shown (rw c.self.view_is at c.next_of-first.ensures) out.1);
      };
}
