use Rattle.std.proofs.Common.{Some, ◌∷◌, refl, sym, ◌∙◌}
use Rattle.ic_link_ops.proofs.Prelude.{first_placed, moves_on, is_end_yes}
use Rattle.ic_rbtree.proofs.Walking.{Steps, steps_last, steps_more, first_stands, none_left, gives, goes}
use Rattle.ic_rbtree.proofs.iter.IterIterator.next.Goals as goal
use Rattle.ic_rbtree.proofs.iter.IterIterator.next.Goals.{then-is_at, else-is_at}
use Rattle.ic_rbtree.proofs.iter.IterIterator.next.Given.{Over}

pub step-self-requires : goal.step-self-requires
step-self-requires g c = record { stands = (first_stands g.L.RBTreeOps.node g.L.LinkOps.table g.O.Values.values c.args.self.now c.in_ok-place.place c.requires c.in_ok-place.was) }

pub value-value-requires : goal.value-value-requires
value-value-requires g c = let k = c.requires in record { placed = first_placed (g.O.Values.values c.args.self.now.objects.now) k.0 k.2 (sym c.in_ok-place.was ∙ k.1.starts) }

-- the call of `next` is a step of the walk that returns the first remaining member
step : (g : Over) (c : goal.Joined-is_at g) → Steps g.L.RBTreeOps.node g.L.LinkOps.table g.O.Values.values c.args.self.now c.if-is_at.self (λ w. c.in_ok-place.place ∷ w)
step g c =
    elim c.if-is_at.branch [
      | then-is_at w ↦
          rw w.self-is
          (steps_last _ _ _ c.args.self.now c.in_ok-place.place (λ w. c.in_ok-place.place ∷ w) refl c.requires c.in_ok-place.was (is_end_yes _ _ (sym w.if-is_at.ensures)))
      | else-is_at w ↦
          rw w.self-is
          (steps_more _ _ _ c.args.self.now c.in_ok-place.place w.step-self.result c.requires c.in_ok-place.was (sym w.if-is_at.ensures)
          (moves_on (first_stands g.L.RBTreeOps.node g.L.LinkOps.table g.O.Values.values c.args.self.now c.in_ok-place.place c.requires c.in_ok-place.was) w.step-self.ensures.leads))
    ]

pub returns-in_err-place-clause-steps : goal.returns-in_err-place-clause-steps
returns-in_err-place-clause-steps g c =
    let none = none_left g.L.RBTreeOps.node g.L.LinkOps.table g.O.Values.values
    (λ t q e. g.met.L.LinkOps.linked_is_covered t q (sym (g.met.L.RBTreeOps.linked_alike _) ∙ e))
    c.args.self.now c.requires c.in_err-place.was in
    rw c.from_residual.ensures ((none, none), refl)

pub returns-clause-steps : goal.returns-clause-steps
returns-clause-steps g c = gives _ _ _ (λ t q e. g.met.L.LinkOps.linked_is_covered t q (sym (g.met.L.RBTreeOps.linked_alike _) ∙ e)) (Some c.value-value.result) (step g c) (sym c.value-value.ensures)

pub returns-clause-goes : goal.returns-clause-goes
returns-clause-goes g c = goes _ _ _ (λ t q e. g.met.L.LinkOps.linked_is_covered t q (sym (g.met.L.RBTreeOps.linked_alike _) ∙ e)) (Some c.value-value.result) (step g c) (sym c.value-value.ensures)
