use Rattle.std.proofs.Common.{List, Some, [], ◌∷◌, ◌++◌, ◌≡◌, sym, ap, subst, ◌∙◌}
use Rattle.ic_link_ops.specs.Prelude.{Place, IsAbsent, last, IsBetween, neighbors_at}
use Rattle.ic_link_ops.proofs.Prelude.{chain_cut, last_between, absent_left, absent_right, none_not, some_same}
use Rattle.ic_link_ops.proofs.DoublyLists.{next_turns, prev_turns}
use Rattle.ic_ring.specs.Rings.{IsCircle}
use Rattle.ic_ring.proofs.Circles.{circles_joined, circle_cut, seen_at, next_not, facing, next_stays, prev_stays}
use Rattle.ic_ring.proofs.OtherRings.{others_stay_two}
use Rattle.ic_ring.proofs.exchanges.exchange.Goals as goal
use Rattle.ic_ring.proofs.exchanges.exchange.Given.{Over}

pub returns-clause-joins : goal.returns-clause-joins
returns-clause-joins g c [] u circle other apart is_first is_second = absurd (none_not c.args.first (sym is_first))
returns-clause-joins g c (x ∷ r) [] circle other apart is_first is_second = absurd (none_not c.args.second (sym is_second))
returns-clause-joins g c (x ∷ r) (y ∷ u) circle other apart is_first is_second =
    let n = g.L.LinkedListOps.neighbors in
    let t = (g.L.LinkOps.table c.args.links.now).entry in
    let to_x : c.next_of-after_first.result ≡ x =
    some_same (sym c.next_of-after_first.ensures ∙ (last_between (IsBetween n) t (last (x ∷ r)) (x ∷ r) (Some x) circle.chain is_first).next) in
    let to_y : c.next_of-after_second.result ≡ y =
    some_same (sym c.next_of-after_second.ensures ∙ (last_between (IsBetween n) t (last (y ∷ u)) (y ∷ u) (Some y) other.chain is_second).next) in
    circles_joined x r y u circle other apart
    (rw (is_first, to_y) at (next_turns {n = n} (Some x) c.set_next.ensures.frame c.set_next.ensures.set))
    (rw (is_first, to_y) at (prev_turns {n = n} (last (y ∷ u)) c.set_prev.ensures.frame c.set_prev.ensures.set))
    (rw (is_second, to_x) at (next_turns {n = n} (Some y) c.set_next-2.ensures.frame c.set_next-2.ensures.set))
    (rw (is_second, to_x) at (prev_turns {n = n} (last (x ∷ r)) c.set_prev-2.ensures.frame c.set_prev-2.ensures.set))

pub returns-clause-cuts : goal.returns-clause-cuts
returns-clause-cuts g c [] u circle is_first is_second = absurd (none_not c.args.first (sym is_first))
returns-clause-cuts g c (x ∷ r) [] circle is_first is_second = absurd (none_not c.args.second (sym is_second))
returns-clause-cuts g c (x ∷ r) (y ∷ u) circle is_first is_second =
    let n = g.L.LinkedListOps.neighbors in
    let t = (g.L.LinkOps.table c.args.links.now).entry in
    let cut = chain_cut (IsBetween n) t (last (x ∷ r ++ y ∷ u)) (x ∷ r) (y ∷ u) (Some x) circle.chain in
    let to_y : c.next_of-after_first.result ≡ y =
    some_same (sym c.next_of-after_first.ensures ∙ (last_between (IsBetween n) t (last (x ∷ r ++ y ∷ u)) (x ∷ r) (Some y) cut.0 is_first).next) in
    let to_x : c.next_of-after_second.result ≡ x =
    some_same (sym c.next_of-after_second.ensures ∙ (last_between (IsBetween n) t (last (x ∷ r)) (y ∷ u) (Some x) cut.1 is_second).next) in
    circle_cut x r y u circle
    (rw (is_first, to_x) at (next_turns {n = n} (Some y) c.set_next.ensures.frame c.set_next.ensures.set))
    (rw (is_first, to_x) at (prev_turns {n = n} (last (y ∷ u)) c.set_prev.ensures.frame c.set_prev.ensures.set))
    (rw (is_second, to_y) at (next_turns {n = n} (Some x) c.set_next-2.ensures.frame c.set_next-2.ensures.set))
    (rw (is_second, to_y) at (prev_turns {n = n} (last (x ∷ r)) c.set_prev-2.ensures.frame c.set_prev-2.ensures.set))

pub returns-clause-itself : goal.returns-clause-itself
returns-clause-itself g c same q =
    let n = g.L.LinkedListOps.neighbors in
    let start = g.L.LinkOps.table c.args.links.now in
    let first = c.args.first in
    let second = c.args.second in
    let after = c.next_of-after_first.result in
    let one : after ≡ c.next_of-after_second.result
    = some_same (sym c.next_of-after_first.ensures ∙ (ap (λ p. (neighbors_at n start p).next) same ∙ c.next_of-after_second.ensures)) in
    let faces : (neighbors_at n start after).prev ≡ Some first = facing {n = n} first c.requires.first.0 c.requires.first.1 c.next_of-after_first.ensures in
    let turn1 = next_stays n c.set_next.ensures.frame c.set_next.ensures.set (c.next_of-after_first.ensures ∙ ap (λ p. Some p) one) in
    let turn2 = prev_stays n c.set_prev.ensures.frame c.set_prev.ensures.set (ap (λ a. a.prev) (turn1 c.next_of-after_second.result) ∙ subst (λ p. (neighbors_at n start p).prev ≡ Some first) one faces) in
    let turn3 = next_stays n c.set_next-2.ensures.frame c.set_next-2.ensures.set (ap (λ a. a.next) (turn2 second ∙ turn1 second) ∙ (c.next_of-after_second.ensures ∙ ap (λ p. Some p) (sym one))) in
    let turn4 = prev_stays n c.set_prev-2.ensures.frame c.set_prev-2.ensures.set (ap (λ a. a.prev) (turn3 after ∙ turn2 after ∙ turn1 after) ∙ (faces ∙ ap (λ p. Some p) same)) in
    turn4 q ∙ turn3 q ∙ turn2 q ∙ turn1 q

pub returns-clause-trace_stays : goal.returns-clause-trace_stays
returns-clause-trace_stays g c =
    let L = g.met.L.LinkOps in
    L.does_on _ _ _ _ _ (L.does_on _ _ _ _ _ (L.does_on _ _ _ _ _ c.set_next.ensures.trace_stays c.set_prev.ensures.trace_stays) c.set_next-2.ensures.trace_stays) c.set_prev-2.ensures.trace_stays

module _ (g : Over) (c : goal.After-set_prev-2 g) where
  -- no entries are changed except those of the two rings of the exchanged places
  kept : (r u : List Place) (q : Place) → IsCircle g.L.LinkedListOps.neighbors (g.L.LinkOps.table c.args.links.now).entry (c.args.first ∷ r)
      → IsCircle g.L.LinkedListOps.neighbors (g.L.LinkOps.table c.args.links.now).entry (c.args.second ∷ u) → IsAbsent q (c.args.first ∷ r) → IsAbsent q (c.args.second ∷ u)
      → (g.L.LinkOps.table c.set_prev-2.new.self).entry q ≡ (g.L.LinkOps.table c.args.links.now).entry q
  kept r u q one other out out_other =
      c.set_prev-2.ensures.frame.others q (next_not r one c.next_of-after_first.ensures out) ∙ c.set_next-2.ensures.frame.others q out_other.0
      ∙ c.set_prev.ensures.frame.others q (next_not u other c.next_of-after_second.ensures out_other) ∙ c.set_next.ensures.frame.others q out.0

pub returns-clause-others : goal.returns-clause-others
returns-clause-others g c =
    let r = c.requires.first in
    let u = c.requires.second in
    others_stay_two c.args.first r.0 c.args.second u.0 r.1 u.1
    (λ q out. kept g c r.0 u.0 q r.1 u.1 (absent_left q (c.args.first ∷ r.0) (c.args.second ∷ u.0) out) (absent_right q (c.args.first ∷ r.0) (c.args.second ∷ u.0) out))

pub returns-clause-frame : goal.returns-clause-frame
returns-clause-frame g c r u one other =
    let seen = seen_at one.0 one.1 in
    let seen_other = seen_at other.0 other.1 in record {
      extent = c.set_prev-2.ensures.frame.extent ∙ c.set_next-2.ensures.frame.extent ∙ c.set_prev.ensures.frame.extent ∙ c.set_next.ensures.frame.extent;
      others = λ q out. kept g c seen.0 seen_other.0 q seen.1 seen_other.1 (seen.2 q (absent_left q r u out)) (seen_other.2 q (absent_right q r u out));
    }
