use Rattle.std.proofs.Common.{refl, sym, Some, ◌∙◌}
use Rattle.ic_link_ops.proofs.Prelude.{first_placed, stretch_first}
use Rattle.ic_chain.proofs.Walking.{Steps, steps_last, steps_more, none_left, gives, goes}
use Rattle.ic_chain.proofs.iter.IterIterator.next.Goals as goal
use Rattle.ic_chain.proofs.iter.IterIterator.next.Goals.{then-is_at, else-is_at}
use Rattle.ic_chain.proofs.iter.IterIterator.next.Given.{Over}

pub next-self-requires : goal.next-self-requires
next-self-requires g c = record { linked = g.met.K.ForwardLinks.between_linked _ _ _ (stretch_first (rw c.in_ok-place.was at c.requires.1.0)) }

pub value-value-requires : goal.value-value-requires
value-value-requires g c = let k = c.requires in record { placed = first_placed (g.O.Values.values c.args.self.now.objects.now) k.0 k.2 (sym c.in_ok-place.was ∙ k.1.0.starts) }

-- a call of `next` is a step of the walk
step : (g : Over) (c : goal.Joined-is_at g) → Steps g.K.ListKind.keeps_last g.K.ForwardLinks.Between g.L.LinkOps.table g.O.Values.values c.args.self.now c.if-is_at.self c.in_ok-place.place
step g c =
    elim c.if-is_at.branch [
      | then-is_at w ↦
          rw w.self-is (steps_last _ _ _ _ c.args.self.now c.in_ok-place.place c.requires c.in_ok-place.was (sym w.if-is_at.ensures))
      | else-is_at w ↦
          rw w.self-is
          (steps_more _ _ _ _ g.K.ForwardLinks.step g.met.K.ForwardLinks.leads c.args.self.now c.in_ok-place.place w.next-self.result c.requires c.in_ok-place.was
          (sym w.if-is_at.ensures) w.next-self.ensures)
    ]

pub returns-in_err-place-clause-steps : goal.returns-in_err-place-clause-steps
returns-in_err-place-clause-steps g c =
    let none = none_left _ _ g.L.LinkOps.table g.O.Values.values g.K.ForwardLinks.step g.met.K.ForwardLinks.leads
    (λ t q b a h. g.met.L.LinkOps.linked_is_covered t q (g.met.K.ForwardLinks.between_linked _ b a h)) c.args.self.now c.requires c.in_err-place.was in
    rw c.from_residual.ensures ((none, none), refl)

pub returns-clause-steps : goal.returns-clause-steps
returns-clause-steps g c =
    gives _ _ _ _ g.K.ForwardLinks.step g.met.K.ForwardLinks.leads (λ t q b a h. g.met.L.LinkOps.linked_is_covered t q (g.met.K.ForwardLinks.between_linked _ b a h))
    (Some c.value-value.result) (step g c) (sym c.value-value.ensures)

pub returns-clause-goes : goal.returns-clause-goes
returns-clause-goes g c =
    goes _ _ _ _ g.K.ForwardLinks.step g.met.K.ForwardLinks.leads (λ t q b a h. g.met.L.LinkOps.linked_is_covered t q (g.met.K.ForwardLinks.between_linked _ b a h))
    (Some c.value-value.result) (step g c) (sym c.value-value.ensures)
