use Rattle.std.proofs.Common.{ap, filter, sym, ◌∙◌, append-nil, is_some}
use Rattle.std.proofs.lemmas.Cmp.{nat_cmp_total}
use Rattle.ic_link_ops.specs.Sequences.{at_back, last}
use Rattle.ic_link_ops.proofs.RepresentedTrees.{one_sequence}
use Rattle.ic_rbtree.specs.declared.keys.key_adapter.Bound.TheVariants.{Excluded}
use Rattle.ic_rbtree.proofs.SortedAnswers.{upper_last}
use Rattle.ic_rbtree.proofs.SortedKeys.{represented_sorted}
use Rattle.uses.specs.Ring.{point, is_below}
use Rattle.uses.proofs.Rounds.{last_here, last_next}
use Rattle.uses.proofs.ring.node_before.Goals as goal

pub returns-then-is_some-clause-node : goal.returns-then-is_some-clause-node
returns-then-is_some-clause-node g c s shown =
    let t = represented_sorted point c.args.objects.now (λ s u shown other. one_sequence shown other) c.requires.ring shown in
    let below = upper_last nat_cmp_total (λ adapter. point) c.args.ring.adapter c.args.objects.now t.0 t.1 (Excluded c.args.hash) (c.upper_bound_owning-hand.ensures.border s shown) in
    last_here (filter (is_below c.args.objects.now c.args.hash) s) (last s) _ below (ap is_some (sym c.get_ptr.ensures) ∙ sym c.is_some.ensures ∙ c.if-is_some.true)

pub returns-clause-node : goal.returns-clause-node
returns-clause-node g c s shown =
    let t = represented_sorted point c.args.objects.now (λ s u shown other. one_sequence shown other) c.requires.ring shown in
    let below = upper_last nat_cmp_total (λ adapter. point) c.args.ring.adapter c.args.objects.now t.0 t.1 (Excluded c.args.hash) (c.upper_bound_owning-hand.ensures.border s shown) in
    last_next (filter (is_below c.args.objects.now c.args.hash) s) (last s) _ below (ap is_some (sym c.get_ptr.ensures) ∙ sym c.is_some.ensures ∙ c.if-is_some.false)
    (λ none. c.move_prev.ensures.moved.leads (at_back s) (rw (append-nil s, c.upper_bound_owning-hand.ensures.tree) shown) none)
