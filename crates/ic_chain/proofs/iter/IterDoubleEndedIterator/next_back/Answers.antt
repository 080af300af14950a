use Rattle.std.proofs.Common.{refl, sym, Some, ◌∙◌}
use Rattle.ic_link_ops.proofs.PlacedEnds.{last_placed}
use Rattle.ic_link_ops.proofs.Walks.{stretch_last}
use Rattle.ic_chain.proofs.Walking.{at_end, StepsBack, steps_back_last, steps_back_more, none_left_back, gives_back, goes_back}
use Rattle.ic_chain.proofs.iter.IterDoubleEndedIterator.next_back.Goals as goal
use Rattle.ic_chain.proofs.iter.IterDoubleEndedIterator.next_back.Goals.{then-is_at, else-is_at}
use Rattle.ic_chain.proofs.iter.IterDoubleEndedIterator.next_back.Given.{Over}

pub prev-self-requires : goal.prev-self-requires
prev-self-requires g c = record { linked = g.met.K.ForwardLinks.between_linked _ _ _ (stretch_last (rw c.in_ok-place.was at (at_end g.met.K.DoubleEnded.keeps_both c.requires.1.0 c.requires.1.1))) }

pub value-value-requires : goal.value-value-requires
value-value-requires g c = let k = c.requires in record { placed = last_placed (g.O.Values.values c.args.self.now.objects.now) k.0 k.2 (sym c.in_ok-place.was ∙ (at_end g.met.K.DoubleEnded.keeps_both k.1.0 k.1.1).ends) }

-- a call of `next_back` is a step of the walk from the back
step : (g : Over) (c : goal.Joined-is_at g) → StepsBack g.K.ListKind.keeps_last g.K.ForwardLinks.Between g.L.LinkOps.table g.O.Values.values c.args.self.now c.if-is_at.self c.in_ok-place.place
step g c =
    elim c.if-is_at.branch [
      | then-is_at w ↦
          rw w.self-is (steps_back_last _ _ _ _ g.met.K.DoubleEnded.keeps_both c.args.self.now c.in_ok-place.place c.requires c.in_ok-place.was (sym w.if-is_at.ensures))
      | else-is_at w ↦
          rw w.self-is
          (steps_back_more _ _ _ _ g.K.ForwardLinks.step g.met.K.ForwardLinks.leads g.K.BidirectionalLinks.step_back g.met.K.BidirectionalLinks.leads_back g.met.K.DoubleEnded.keeps_both c.args.self.now c.in_ok-place.place
          w.prev-self.result c.requires c.in_ok-place.was (sym w.if-is_at.ensures) w.prev-self.ensures)
    ]

pub returns-in_err-place-clause-steps : goal.returns-in_err-place-clause-steps
returns-in_err-place-clause-steps g c =
    let none = none_left_back _ _ g.L.LinkOps.table g.O.Values.values g.K.ForwardLinks.step g.met.K.ForwardLinks.leads
    (λ t q b a h. g.met.L.LinkOps.linked_is_covered t q (g.met.K.ForwardLinks.between_linked _ b a h)) g.met.K.DoubleEnded.keeps_both c.args.self.now c.requires c.in_err-place.was in
    rw c.from_residual.ensures ((none, none), refl)

pub returns-clause-steps : goal.returns-clause-steps
returns-clause-steps g c =
    gives_back _ _ _ _ g.K.ForwardLinks.step g.met.K.ForwardLinks.leads (λ t q b a h. g.met.L.LinkOps.linked_is_covered t q (g.met.K.ForwardLinks.between_linked _ b a h))
    (Some c.value-value.result) (step g c) (sym c.value-value.ensures)

pub returns-clause-goes : goal.returns-clause-goes
returns-clause-goes g c =
    goes_back _ _ _ _ g.K.ForwardLinks.step g.met.K.ForwardLinks.leads (λ t q b a h. g.met.L.LinkOps.linked_is_covered t q (g.met.K.ForwardLinks.between_linked _ b a h))
    (Some c.value-value.result) (step g c) (sym c.value-value.ensures)
