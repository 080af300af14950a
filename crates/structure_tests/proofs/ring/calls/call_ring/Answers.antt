use Rattle.std.proofs.Common.{[], ◌∷◌}
use Rattle.structure_tests.proofs.Rings.{either_way, kept}
use Rattle.structure_tests.proofs.ring.calls.call_ring.Goals as goal

pub returns-in-PushFront : goal.returns-in-PushFront
returns-in-PushFront g c = record {
  two = λ k two.
      let q = two.shown in
      let e = c.push_front.ensures in
      either_way c.push_front.result (e.inserted q.0 q.1) e.refused (λ shown. kept g.L.LinkedListOps.neighbors _ _ (c.args.ring.now ∷ []) two (e.frame q.0 q.1).extent (_, shown) e.others (two.apart.2, tt)) (λ no. rw (g.met.L.LinkOps.refused_keeps _ _ _ no) two);
}

pub returns-in-PushBack : goal.returns-in-PushBack
returns-in-PushBack g c = record {
  two = λ k two.
      let q = two.shown in
      let e = c.push_back.ensures in
      either_way c.push_back.result (e.inserted q.0 q.1) e.refused (λ shown. kept g.L.LinkedListOps.neighbors _ _ (c.args.ring.now ∷ []) two (e.frame q.0 q.1).extent (_, shown) e.others (two.apart.2, tt)) (λ no. rw (g.met.L.LinkOps.refused_keeps _ _ _ no) two);
}

pub returns-in-PopFront : goal.returns-in-PopFront
returns-in-PopFront g c = record {
  two = λ k two.
      let q = two.shown in
      let e = c.pop_front.ensures in
      kept g.L.LinkedListOps.neighbors _ _ (c.args.ring.now ∷ []) two (e.frame q.0 q.1).extent (_, e.removed q.0 q.1) e.others (two.apart.2, tt);
}

pub returns-in-PopBack : goal.returns-in-PopBack
returns-in-PopBack g c = record {
  two = λ k two.
      let q = two.shown in
      let e = c.pop_back.ensures in
      kept g.L.LinkedListOps.neighbors _ _ (c.args.ring.now ∷ []) two (e.frame q.0 q.1).extent (_, e.removed q.0 q.1) e.others (two.apart.2, tt);
}

pub returns : goal.returns
returns g c = record {
  two = λ k two.
      let q = two.shown in
      let e = c.clear.ensures in
      kept g.L.LinkedListOps.neighbors _ _ (c.args.ring.now ∷ []) two (e.frame q.0 q.1).extent (_, e.empty) e.others (two.apart.2, tt);
}
