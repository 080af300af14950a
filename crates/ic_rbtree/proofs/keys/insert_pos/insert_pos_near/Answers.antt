use Rattle.std.proofs.Common.{◌≤◌, ◌+◌, length, ◌∙◌, subst, arith}
use Rattle.ic_link_ops.specs.declared.side.Side.TheVariants.{Right}
use Rattle.ic_link_ops.proofs.RepresentedTrees.{one_sequence}
use Rattle.ic_rbtree.specs.Prelude.{compared, EndsAt}
use Rattle.ic_rbtree.proofs.InOrder.{ended_in_order}
use Rattle.ic_rbtree.proofs.LookBounds.{with_member, few_there, few_after}
use Rattle.ic_rbtree.proofs.keys.insert_pos.insert_pos_near.Goals as goal

pub returns-in-Some-clause-looks : goal.returns-in-Some-clause-looks
returns-in-Some-clause-looks g c s h =
    let m = c.requires.member in
    let k = c.in-Some.ensures.counted in
    let some = subst (λ z. 1 ≤ length z) (one_sequence m.shown h) (with_member m.front c.args.hint m.back) in
    record { looks = k.0; counted = k.1; few = few_there s k.0 some k.2; at_hint = λ b. k.2; order_is = c.in-Some.ensures.same }

pub returns-clause-insert_pos : goal.returns-clause-insert_pos
returns-clause-insert_pos g c s h =
    let n = g.L.RBTreeOps.node in
    let v = g.L.LinkOps.table c.args.links.now in
    let values = g.O.Values.values c.args.objects.now in
    ended_in_order n h (subst (λ o. EndsAt n v (compared o values) Right h.tree c.descend-insert_pos.result) c.in_default.ensures.same (c.descend-insert_pos.ensures.ends s h)) c.get.ensures

pub returns-clause-looks : goal.returns-clause-looks
returns-clause-looks g c s h =
    let m = c.requires.member in
    let k = c.in_default.ensures.counted in
    let d = c.descend-insert_pos.ensures.looks s h in
    let some = subst (λ z. 1 ≤ length z) (one_sequence m.shown h) (with_member m.front c.args.hint m.back) in
    record {
      looks = k.0 + d.looks;
      counted = omega (arith, k.1, d.counted);
      few = few_after s k.0 d.looks k.2 (d.fewer some);
      at_hint = λ b. absurd (c.in_default.ensures.elsewhere s h b);
      order_is = d.order_is ∙ c.in_default.ensures.same;
    }
