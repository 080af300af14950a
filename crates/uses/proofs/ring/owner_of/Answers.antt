use Rattle.std.proofs.Common.{ap, filter, sym, ◌∙◌, is_some}
use Rattle.std.proofs.lemmas.Cmp.{nat_cmp_total}
use Rattle.ic_link_ops.specs.Sequences.{at_front, first}
use Rattle.ic_link_ops.proofs.RepresentedTrees.{one_sequence}
use Rattle.ic_rbtree.specs.declared.keys.key_adapter.Bound.TheVariants.{Included}
use Rattle.ic_rbtree.proofs.SortedAnswers.{lower_first}
use Rattle.ic_rbtree.proofs.SortedKeys.{represented_sorted}
use Rattle.uses.specs.Ring.{point, is_from}
use Rattle.uses.proofs.Rounds.{first_here, first_next}
use Rattle.uses.proofs.ring.owner_of.Goals as goal

pub returns-then-is_some-clause-owner : goal.returns-then-is_some-clause-owner
returns-then-is_some-clause-owner g c s shown =
    let t = represented_sorted point c.args.objects.now (λ s u shown other. one_sequence shown other) c.requires.ring shown in
    let from = lower_first nat_cmp_total (λ adapter. point) c.args.ring.adapter c.args.objects.now t.0 t.1 (Included c.args.hash) (c.lower_bound_owning-hand.ensures.border s shown) in
    first_here (filter (is_from c.args.objects.now c.args.hash) s) (first s) _ from (ap is_some (sym c.get_ptr.ensures) ∙ sym c.is_some.ensures ∙ c.if-is_some.true)

pub returns-clause-owner : goal.returns-clause-owner
returns-clause-owner g c s shown =
    let t = represented_sorted point c.args.objects.now (λ s u shown other. one_sequence shown other) c.requires.ring shown in
    let from = lower_first nat_cmp_total (λ adapter. point) c.args.ring.adapter c.args.objects.now t.0 t.1 (Included c.args.hash) (c.lower_bound_owning-hand.ensures.border s shown) in
    first_next (filter (is_from c.args.objects.now c.args.hash) s) (first s) _ from (ap is_some (sym c.get_ptr.ensures) ∙ sym c.is_some.ensures ∙ c.if-is_some.false)
    (λ none. c.move_next.ensures.moved.leads (at_front s) (rw c.lower_bound_owning-hand.ensures.tree shown) none)
