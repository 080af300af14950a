use Rattle.std.proofs.Common.{List, None, Some, [], ◌∷◌, ◌++◌, refl, sym, ap, ◌∙◌}
use Rattle.ic_link_ops.specs.Prelude.{Place, ChangesOnlyIn}
use Rattle.ic_link_ops.proofs.SequenceLemmas.{last_or-append, absent_left, absent_right, absent_both}
use Rattle.ic_ring.specs.Rings.{Represents}
use Rattle.ic_ring.proofs.Circles.{rotated, prev_in_ring, prev_not}
use Rattle.ic_ring.proofs.OtherRings.{others_stay_two}
use Rattle.ic_ring.proofs.JoinedRings.{joined_at_back}
use Rattle.ic_ring.proofs.ring.Ring.splice_back.Goals as goal
use Rattle.ic_ring.proofs.ring.Ring.splice_back.Given.{Over}

pub prev_of-last-requires : goal.prev_of-last-requires
prev_of-last-requires g c = rw c.head-head.ensures c.requires.shown

pub prev_of-given_last-requires : goal.prev_of-given_last-requires
prev_of-given_last-requires g c = rw c.head-given_head.ensures (c.requires.apart.0, c.requires.apart.1)

pub exchange-requires : goal.exchange-requires
exchange-requires g c = record {
  first = prev_in_ring c.requires.shown.0 c.requires.shown.1 (rw c.head-head.ensures at c.prev_of-last.ensures);
  second = prev_in_ring c.requires.apart.0 c.requires.apart.1 (rw c.head-given_head.ensures at c.prev_of-given_last.ensures);
}

pub exchange-requires-2 : goal.exchange-requires-2
exchange-requires-2 g c =
    let s = c.requires.shown in
    let t = c.requires.apart in
    let to_last = rw c.head-head.ensures at c.prev_of-last.ensures in
    let whole = joined_at_back t.1 t.2 c.exchange.ensures.joins s.0 t.0 s.1 t.1 to_last (rw c.head-given_head.ensures at c.prev_of-given_last.ensures) in
    let seen = rotated (c.args.self.now ∷ s.0) (c.args.given.now ∷ t.0) whole in record {
      first = prev_in_ring (t.0 ++ c.args.self.now ∷ s.0) seen
          (seen.chain.0.prev ∙ last_or-append (Some c.args.given.now) t.0 (c.args.self.now ∷ s.0) ∙ sym s.1.chain.0.prev ∙ to_last);
      second = rw c.head-given_head.ensures (t.0 ++ c.args.self.now ∷ s.0, seen);
    }

pub returns-clause-spliced : goal.returns-clause-spliced
returns-clause-spliced g c s t shown other =
    let head = c.args.self.now in
    let given = c.args.given.now in
    let a = c.requires.apart in
    let to_last = rw c.head-head.ensures at c.prev_of-last.ensures in
    let whole = joined_at_back a.1 a.2 c.exchange.ensures.joins s t shown other to_last (rw c.head-given_head.ensures at c.prev_of-given_last.ensures) in
    let seen = rotated (given ∷ []) (t ++ head ∷ s) (rotated (head ∷ s) (given ∷ t) whole) in
    let cut = c.exchange-2.ensures.cuts (t ++ head ∷ s) (given ∷ []) seen (sym to_last ∙ shown.chain.0.prev ∙ sym (last_or-append None t (head ∷ s)))
    (ap Some c.head-given_head.ensures) in
    (rotated t (head ∷ s) cut.0, cut.1)

pub returns-clause-trace_stays : goal.returns-clause-trace_stays
returns-clause-trace_stays g c = g.met.L.LinkOps.does_on _ _ _ _ _ c.exchange.ensures.trace_stays c.exchange-2.ensures.trace_stays

module _ (g : Over) (c : goal.After-exchange-2 g) where
  -- no entries are changed except those of this ring and of the given ring
  kept : (s t : List Place) → Represents g.L.LinkedListOps.neighbors (g.L.LinkOps.table c.args.links.now) c.args.self.now s
      → Represents g.L.LinkedListOps.neighbors (g.L.LinkOps.table c.args.links.now) c.args.given.now t
      → ChangesOnlyIn (g.L.LinkOps.table c.args.links.now) (g.L.LinkOps.table c.exchange-2.new.links) ((c.args.self.now ∷ s) ++ (c.args.given.now ∷ t))
  kept s t shown other =
      let head = c.args.self.now in
      let given = c.args.given.now in
      let both = (head ∷ s) ++ (given ∷ t) in
      let a = c.requires.apart in
      let to_last = rw c.head-head.ensures at c.prev_of-last.ensures in
      let to_given = rw c.head-given_head.ensures at c.prev_of-given_last.ensures in
      let whole = joined_at_back a.1 a.2 c.exchange.ensures.joins s t shown other to_last to_given in
      let first = c.exchange.ensures.frame (head ∷ s) (given ∷ t) (shown, λ out. prev_not s shown to_last out refl) (other, λ out. prev_not t other to_given out refl) in
      let second = c.exchange-2.ensures.frame both both (whole, λ out. prev_not s shown to_last (absent_left c.prev_of-last.result (head ∷ s) (given ∷ t) out) refl)
      (whole, λ out. (absent_right c.head-given_head.result (head ∷ s) (given ∷ t) out).0 c.head-given_head.ensures) in record {
        extent = second.extent ∙ first.extent;
        others = λ q out. second.others q (absent_both q both both out out) ∙ first.others q out;
      }

pub returns-clause-others : goal.returns-clause-others
returns-clause-others g c =
    let s = c.requires.shown in
    let t = c.requires.apart in
    others_stay_two c.args.self.now s.0 c.args.given.now t.0 s.1 t.1 (kept g c s.0 t.0 s.1 t.1).others

pub returns-clause-frame : goal.returns-clause-frame
returns-clause-frame g c s t shown other = kept g c s t shown other
