use Rattle.std.proofs.Common.{List, None, [], ◌∷◌, ◌++◌, refl, sym, subst, ◌∙◌, append_assoc}
use Rattle.ic_link_ops.specs.Prelude.{Place, IsAbsent, last, ChangesOnlyIn}
use Rattle.ic_link_ops.proofs.SequenceLemmas.{last_or-append, absent_left, absent_right, absent_both}
use Rattle.ic_ring.specs.Rings.{IsCircle, Represents}
use Rattle.ic_ring.proofs.Circles.{rotated, prev_in_ring, prev_not}
use Rattle.ic_ring.proofs.OtherRings.{others_stay_two}
use Rattle.ic_ring.proofs.JoinedRings.{joined_at, joined_given}
use Rattle.ic_ring.proofs.exchanges.splice_after_place.Goals as goal
use Rattle.ic_ring.proofs.exchanges.splice_after_place.Given.{Over}

pub prev_of-end-requires : goal.prev_of-end-requires
prev_of-end-requires g c = (c.requires.apart.0, c.requires.apart.1)

pub exchange-requires : goal.exchange-requires
exchange-requires g c = record { first = c.requires.ring; second = prev_in_ring c.requires.apart.0 c.requires.apart.1 c.prev_of-end.ensures }

pub exchange-requires-2 : goal.exchange-requires-2
exchange-requires-2 g c =
    let r = c.requires.ring in
    let a = c.requires.apart in record {
      first = (_, joined_at a.1 a.2 c.exchange.ensures.joins r.0 a.0 r.1 a.1 c.prev_of-end.ensures);
      second = (_, joined_given a.1 a.2 c.exchange.ensures.joins r.0 a.0 r.1 a.1 c.prev_of-end.ensures);
    }

pub returns-clause-spliced : goal.returns-clause-spliced
returns-clause-spliced g c r t shown other =
    let n = g.L.LinkedListOps.neighbors in
    let at = c.args.at in
    let given = c.args.given in
    let a = c.requires.apart in
    let seen = joined_given a.1 a.2 c.exchange.ensures.joins r t shown other c.prev_of-end.ensures in
    let cut = c.exchange-2.ensures.cuts (t ++ (r ++ at ∷ [])) (given ∷ []) (rotated (given ∷ []) (t ++ (r ++ at ∷ [])) seen)
    (sym (last_or-append None t (r ++ at ∷ []) ∙ last_or-append (last t) r (at ∷ []))) refl in
    (rotated (t ++ r) (at ∷ []) (subst (IsCircle n (g.L.LinkOps.table c.exchange-2.new.links).entry) (sym (append_assoc t r (at ∷ []))) cut.0), cut.1)

pub returns-clause-trace_stays : goal.returns-clause-trace_stays
returns-clause-trace_stays g c = g.met.L.LinkOps.does_on _ _ _ _ _ c.exchange.ensures.trace_stays c.exchange-2.ensures.trace_stays

module _ (g : Over) (c : goal.After-exchange-2 g) where
  -- no entries are changed except those of the ring of the place and of the given ring
  kept : (r t : List Place) → Represents g.L.LinkedListOps.neighbors (g.L.LinkOps.table c.args.links.now) c.args.at r
      → Represents g.L.LinkedListOps.neighbors (g.L.LinkOps.table c.args.links.now) c.args.given t
      → ChangesOnlyIn (g.L.LinkOps.table c.args.links.now) (g.L.LinkOps.table c.exchange-2.new.links) ((c.args.at ∷ r) ++ (c.args.given ∷ t))
  kept r t shown other =
      let at = c.args.at in
      let given = c.args.given in
      let a = c.requires.apart in
      let both = at ∷ ((given ∷ t) ++ r) in
      let whole = joined_at a.1 a.2 c.exchange.ensures.joins r t shown other c.prev_of-end.ensures in
      let first = c.exchange.ensures.frame (at ∷ r) (given ∷ t) (shown, λ out. out.0 refl) (other, λ out. prev_not t other c.prev_of-end.ensures out refl) in
      let second = c.exchange-2.ensures.frame both both (whole, λ out. out.0 refl) (whole, λ out. out.1.0 refl) in record {
        extent = second.extent ∙ first.extent;
        others = λ q out.
            let one = absent_left q (at ∷ r) (given ∷ t) out in
            let apart : IsAbsent q both = (one.0, absent_both q (given ∷ t) r (absent_right q (at ∷ r) (given ∷ t) out) one.1) in
            second.others q (absent_both q both both apart apart) ∙ first.others q out;
      }

pub returns-clause-others : goal.returns-clause-others
returns-clause-others g c =
    let r = c.requires.ring in
    let a = c.requires.apart in
    others_stay_two c.args.at r.0 c.args.given a.0 r.1 a.1 (kept g c r.0 a.0 r.1 a.1).others

pub returns-clause-frame : goal.returns-clause-frame
returns-clause-frame g c r t shown other = kept g c r t shown other
