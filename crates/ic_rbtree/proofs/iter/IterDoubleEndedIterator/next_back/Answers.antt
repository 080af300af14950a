use Rattle.std.proofs.Common.{Some, [], ◌∷◌, ◌++◌, refl, sym, ◌∙◌}
use Rattle.ic_link_ops.proofs.Prelude.{last_placed, moves_back, is_end_yes}
use Rattle.ic_rbtree.proofs.Walking.{Steps, steps_last, steps_less, last_stands, none_left_back, gives_back, goes_back}
use Rattle.ic_rbtree.proofs.iter.IterDoubleEndedIterator.next_back.Goals as goal
use Rattle.ic_rbtree.proofs.iter.IterDoubleEndedIterator.next_back.Goals.{then-is_at, else-is_at}
use Rattle.ic_rbtree.proofs.iter.IterDoubleEndedIterator.next_back.Given.{Over}

pub step-self-requires : goal.step-self-requires
step-self-requires g c = record { stands = (last_stands g.L.RBTreeOps.node g.L.LinkOps.table g.O.Values.values c.args.self.now c.in_ok-place.place c.requires c.in_ok-place.was) }

pub value-value-requires : goal.value-value-requires
value-value-requires g c = let k = c.requires in record { placed = last_placed (g.O.Values.values c.args.self.now.objects.now) k.0 k.2 (sym c.in_ok-place.was ∙ k.1.ends) }

-- the call of `next_back` is a step of the walk that returns the last remaining member
step : (g : Over) (c : goal.Joined-is_at g) → Steps g.L.RBTreeOps.node g.L.LinkOps.table g.O.Values.values c.args.self.now c.if-is_at.self (λ w. w ++ c.in_ok-place.place ∷ [])
step g c =
    elim c.if-is_at.branch [
      | then-is_at w ↦
          rw w.self-is
          (steps_last _ _ _ c.args.self.now c.in_ok-place.place (λ w. w ++ c.in_ok-place.place ∷ []) refl c.requires (is_end_yes _ _ (sym w.if-is_at.ensures)) c.in_ok-place.was)
      | else-is_at w ↦
          rw w.self-is
          (steps_less _ _ _ c.args.self.now c.in_ok-place.place w.step-self.result c.requires c.in_ok-place.was (sym w.if-is_at.ensures)
          (moves_back (last_stands g.L.RBTreeOps.node g.L.LinkOps.table g.O.Values.values c.args.self.now c.in_ok-place.place c.requires c.in_ok-place.was) w.step-self.ensures.leads))
    ]

pub returns-in_err-place-clause-steps : goal.returns-in_err-place-clause-steps
returns-in_err-place-clause-steps g c =
    let none = none_left_back g.L.RBTreeOps.node g.L.LinkOps.table g.O.Values.values
    (λ t q e. g.met.L.LinkOps.linked_is_covered t q (sym (g.met.L.RBTreeOps.linked_alike _) ∙ e))
    c.args.self.now c.requires c.in_err-place.was in
    rw c.from_residual.ensures ((none, none), refl)

pub returns-clause-steps : goal.returns-clause-steps
returns-clause-steps g c = gives_back _ _ _ (λ t q e. g.met.L.LinkOps.linked_is_covered t q (sym (g.met.L.RBTreeOps.linked_alike _) ∙ e)) (Some c.value-value.result) (step g c) (sym c.value-value.ensures)

pub returns-clause-goes : goal.returns-clause-goes
returns-clause-goes g c = goes_back _ _ _ (λ t q e. g.met.L.LinkOps.linked_is_covered t q (sym (g.met.L.RBTreeOps.linked_alike _) ∙ e)) (Some c.value-value.result) (step g c) (sym c.value-value.ensures)
