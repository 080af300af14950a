use Rattle.std.proofs.Common.{◌≡◌, List, Some, None, [], ◌∷◌, ◌++◌, refl, sym, ◌∙◌, append_assoc}
use Rattle.ic_link_ops.specs.Prelude.{Place, last, ChangesOnlyIn}
use Rattle.ic_link_ops.proofs.SequenceLemmas.{last_or-append, absent_left, absent_right, absent_both, absent_turned}
use Rattle.ic_ring.specs.Rings.{Represents}
use Rattle.ic_ring.proofs.Circles.{rotated, seen_at, prev_in_ring, prev_not}
use Rattle.ic_ring.proofs.OtherRings.{others_stay_two}
use Rattle.ic_ring.proofs.JoinedRings.{last_after, last_member, joined_at_end}
use Rattle.ic_ring.proofs.ring.Ring.split_after.Goals as goal
use Rattle.ic_ring.proofs.ring.Ring.split_after.Given.{Over}

pub exchange-requires : goal.exchange-requires
exchange-requires g c =
    let cut = c.requires.cut in
    let seen = seen_at cut.2 (last_member c.args.self.now cut.0 cut.1 cut.3) in
    record { first = (seen.0, seen.1); second = rw c.head.ensures (c.requires.apart.0, c.requires.apart.1) }

pub prev_of-last-requires : goal.prev_of-last-requires
prev_of-last-requires g c =
    let cut = c.requires.cut in
    let a = c.requires.apart in
    rw c.head-2.ensures (cut.0 ++ ((a.0 ++ c.args.rest.now ∷ []) ++ cut.1), joined_at_end a.1 a.2 c.exchange.ensures.joins cut.0 cut.1 a.0 cut.2 cut.3 a.1 c.head.ensures)

pub exchange-requires-2 : goal.exchange-requires-2
exchange-requires-2 g c =
    let cut = c.requires.cut in
    let a = c.requires.apart in
    let after = (a.0 ++ c.args.rest.now ∷ []) ++ cut.1 in
    let whole = joined_at_end a.1 a.2 c.exchange.ensures.joins cut.0 cut.1 a.0 cut.2 cut.3 a.1 c.head.ensures in
    let seen = seen_at whole (last_member c.args.self.now cut.0 after cut.3) in record {
      first = (seen.0, seen.1);
      second = prev_in_ring (cut.0 ++ after) whole (rw c.head-2.ensures at c.prev_of-last.ensures);
    }

pub returns-clause-split : goal.returns-clause-split
returns-clause-split g c front back t shown is_at other =
    let h = c.args.self.now in
    let k = c.args.rest.now in
    let a = c.requires.apart in
    let after = (t ++ k ∷ []) ++ back in
    let whole = joined_at_end a.1 a.2 c.exchange.ensures.joins front back t shown is_at other c.head.ensures in
    let is_last = sym (rw c.head-2.ensures at c.prev_of-last.ensures) ∙ whole.chain.0.prev ∙ last_or-append None (h ∷ front) after ∙ last_after (last (h ∷ front)) t k back
    ∙ sym (last_after None t k back) in
    let cut = c.exchange-2.ensures.cuts (h ∷ front) after whole is_at is_last in
    (cut.0, rotated t (k ∷ back) (rw (append_assoc t (k ∷ []) back) at cut.1))

module _ (g : Over) (c : goal.After-exchange-2 g) where
  -- no entries are changed except those of this ring and of the ring that receives the members
  kept : (front back t : List Place) → Represents g.L.LinkedListOps.neighbors (g.L.LinkOps.table c.args.links.now) c.args.self.now (front ++ back)
      → Some c.args.at ≡ last (c.args.self.now ∷ front) → Represents g.L.LinkedListOps.neighbors (g.L.LinkOps.table c.args.links.now) c.args.rest.now t
      → ChangesOnlyIn (g.L.LinkOps.table c.args.links.now) (g.L.LinkOps.table c.exchange-2.new.links) ((c.args.self.now ∷ (front ++ back)) ++ (c.args.rest.now ∷ t))
  kept front back t shown is_at other =
      let h = c.args.self.now in
      let k = c.args.rest.now in
      let a = c.requires.apart in
      let after = (t ++ k ∷ []) ++ back in
      let all = h ∷ (front ++ after) in
      let whole = joined_at_end a.1 a.2 c.exchange.ensures.joins front back t shown is_at other c.head.ensures in
      let first = c.exchange.ensures.frame (h ∷ (front ++ back)) (k ∷ t) (shown, last_member h front back is_at) (other, λ out. out.0 c.head.ensures) in
      let second = c.exchange-2.ensures.frame all all (whole, last_member h front after is_at)
      (whole, λ out. prev_not (front ++ after) whole (rw c.head-2.ensures at c.prev_of-last.ensures) out refl) in record {
        extent = second.extent ∙ first.extent;
        others = λ q out.
            let one = absent_left q (h ∷ (front ++ back)) (k ∷ t) out in
            let two = absent_turned q t (k ∷ []) (absent_right q (h ∷ (front ++ back)) (k ∷ t) out) in
            let apart = absent_both q (h ∷ front) after (absent_left q (h ∷ front) back one) (absent_both q (t ++ k ∷ []) back two (absent_right q (h ∷ front) back one)) in
            second.others q (absent_both q all all apart apart) ∙ first.others q out;
      }

pub returns-clause-others : goal.returns-clause-others
returns-clause-others g c =
    let cut = c.requires.cut in
    let a = c.requires.apart in
    others_stay_two c.args.self.now (cut.0 ++ cut.1) c.args.rest.now a.0 cut.2 a.1 (kept g c cut.0 cut.1 a.0 cut.2 cut.3 a.1).others

pub returns-clause-frame : goal.returns-clause-frame
returns-clause-frame g c front back t shown is_at other = kept g c front back t shown is_at other
