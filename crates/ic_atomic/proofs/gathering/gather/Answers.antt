use Rattle.std.proofs.Common.{◌≡◌, ◌<◌, ◌+◌, ◌∙◌, ◌++◌, [], ◌∷◌, ℕ, suc, List, refl, sym, ap, subst, arith, length, take}
use Rattle.std.proofs.Math.Seq.{take-suc, take-length}
use Rattle.std.proofs.lemmas.List.Elements.{All-get_or}
use Rattle.ic_link_ops.specs.Prelude.{Place, index_of, Extent, IsCovered}
use Rattle.ic_link_ops.specs.LinkedList.{Represents}
use Rattle.ic_atomic.specs.AtomicLinks.{record_in, links_of}
use Rattle.ic_atomic.proofs.AtomicTables.{had, not_had, as_it_was}
use Rattle.ic_atomic.proofs.GatheredPlaces.{Gathered, none_gathered, gathered_one, gathered_none}
use Rattle.ic_atomic.proofs.gathering.gather.Given as given
use Rattle.ic_atomic.proofs.gathering.gather.Goals as goal
use Rattle.ic_atomic.proofs.gathering.gather.Goals.{then-is_ok, else-is_ok}

pub loop-object-init : goal.loop-object-init
loop-object-init g c = record { shown = c.requires.shown; gathered = none_gathered; claims = refl; few = omega arith; answered = refl; reported = c.passed.ensures.reported }

pub push_back-requires-clause-covered : goal.push_back-requires-clause-covered
push_back-requires-clause-covered g c =
    let t = g.L.LinkOps.table (links_of c.args.links.now) in
    let first : IsCovered t c.object-item.result = subst (IsCovered t) (sym c.object-item.is)
    (All-get_or (IsCovered t) c.args.offered.now c.loop-object.object-index c.object-item.result c.loop-object-test.true c.requires.covered) in
    let there : IsCovered t c.new.result = subst (IsCovered t) (sym (c.new.ensures ∙ c.place.ensures)) first in
    subst (λ (e : Extent). index_of c.new.result < e.places) (sym c.loop-object.invariant.gathered.extent) there

pub push_back-requires-clause-shown : goal.push_back-requires-clause-shown
push_back-requires-clause-shown g c = c.loop-object.invariant.shown

-- the places claimed before this turn, followed by the place of this turn, are the first `object-index` + 1 offered places
module _ (g : given.Over) (c : goal.After-passed-in-loop-object g) where
  seen_more : take c.loop-object.object-index c.args.offered.now ++ c.new.result ∷ [] ≡ take (c.loop-object.object-index + 1) c.args.offered.now
  seen_more =
      let up : suc c.loop-object.object-index ≡ c.loop-object.object-index + 1 = omega arith in
      ap (λ (p : Place). take c.loop-object.object-index c.args.offered.now ++ p ∷ []) (c.new.ensures ∙ c.place.ensures ∙ c.object-item.is)
      ∙ sym (take-suc c.args.offered.now c.loop-object.object-index c.object-item.result c.loop-object-test.true)
      ∙ ap (λ (m : ℕ). take m c.args.offered.now) up

pub loop-object-preserved : goal.loop-object-preserved
loop-object-preserved g c =
    let i = c.loop-object.invariant in
    let e = c.push_back.ensures in
    let r = c.push_back.result in
    elim c.if-is_ok.branch [
      | then-is_ok w ↦
          let ok = sym c.is_ok.ensures.value ∙ w.if-is_ok.true in
          let gains = had r ok e.acquired in
          let joins : (s : List Place) → Represents g.L.LinkedListOps.neighbors (g.L.LinkOps.table (links_of c.loop-object.links)) c.loop-object.list s
          → Represents g.L.LinkedListOps.neighbors (g.L.LinkOps.table (links_of c.push_back.new.links)) c.push_back.new.self (s ++ c.new.result ∷ []) = λ s h. had r ok (e.inserted s h) in
          record {
            shown = (i.shown.0 ++ c.new.result ∷ [], joins i.shown.0 i.shown.1);
            gathered = subst (λ (seen : List Place). Gathered g.L.LinkedListOps.neighbors (g.L.LinkOps.table (links_of c.args.links.now)) (g.L.LinkOps.table (links_of c.push_back.new.links)) c.args.list.now c.push_back.new.self (record_in c.args.links.now) (record_in c.push_back.new.links) seen c.if-is_ok.pushed)
                (seen_more g c) (gathered_one i.gathered c.new.result w.pushed-is gains.gained joins e.frame (e.frame i.shown.0 i.shown.1).extent);
            claims = gains.claims ∙ i.claims;
            few = omega (arith, i.few, w.pushed-is);
            answered = ap (λ (m : ℕ). m + 1) i.answered;
            reported = c.passed-in-loop-object.ensures.reported;
          }
      | else-is_ok w ↦
          let err = sym c.is_ok.ensures.value ∙ w.if-is_ok.false in
          let fails = not_had r err e.refused in
          let same = as_it_was _ r err e.unchanged in
          record {
            shown = (i.shown.0, rw (same, fails.links) i.shown.1);
            gathered = subst (λ (seen : List Place). Gathered g.L.LinkedListOps.neighbors (g.L.LinkOps.table (links_of c.args.links.now)) (g.L.LinkOps.table (links_of c.push_back.new.links)) c.args.list.now c.push_back.new.self (record_in c.args.links.now) (record_in c.push_back.new.links) seen c.if-is_ok.pushed)
                (seen_more g c) (gathered_none i.gathered c.new.result w.pushed-is fails.gained same (ap g.L.LinkOps.table fails.links));
            claims = fails.claims ∙ i.claims;
            few = omega (arith, i.few, w.pushed-is);
            answered = ap (λ (m : ℕ). m + 1) i.answered;
            reported = c.passed-in-loop-object.ensures.reported;
          }
    ]

-- at the end of the loop all offered places have been claimed
module _ (g : given.Over) (c : goal.After-loop-object g) where
  all_seen : Gathered g.L.LinkedListOps.neighbors (g.L.LinkOps.table (links_of c.args.links.now)) (g.L.LinkOps.table (links_of c.loop-object.links)) c.args.list.now c.loop-object.list
      (record_in c.args.links.now) (record_in c.loop-object.links) c.args.offered.now c.loop-object.pushed
  all_seen =
      let all : c.loop-object.object-index ≡ length c.args.offered.now = omega (arith, c.loop-object.auto.object-index-end, c.loop-object-test.false) in
      subst (λ (seen : List Place). Gathered g.L.LinkedListOps.neighbors (g.L.LinkOps.table (links_of c.args.links.now)) (g.L.LinkOps.table (links_of c.loop-object.links)) c.args.list.now c.loop-object.list
      (record_in c.args.links.now) (record_in c.loop-object.links) seen c.loop-object.pushed)
      (ap (λ (m : ℕ). take m c.args.offered.now) all ∙ take-length c.args.offered.now) c.loop-object.invariant.gathered

pub returns-clause-gathered : goal.returns-clause-gathered
returns-clause-gathered g c = let k = all_seen g c in (k.got, k.each, k.record_is, k.count, k.shows)

pub returns-clause-claims : goal.returns-clause-claims
returns-clause-claims g c = c.loop-object.invariant.claims

pub returns-clause-frame : goal.returns-clause-frame
returns-clause-frame g c = (all_seen g c).frame

pub returns-clause-reported : goal.returns-clause-reported
returns-clause-reported g c =
    let all : c.loop-object.answered ≡ length c.args.offered.now = omega (arith, c.loop-object.invariant.answered, c.loop-object.auto.object-index-end, c.loop-object-test.false) in
    subst (λ n. g.G.Gate.Reported c.args.gate.now c.args.worker n) all c.loop-object.invariant.reported
