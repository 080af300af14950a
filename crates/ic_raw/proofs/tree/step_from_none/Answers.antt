use Rattle.std.proofs.Common.{[], subst}
use Rattle.ic_link_ops.specs.Frames.{across}
use Rattle.ic_rbtree.proofs.Removing.{represented_of, represents_of}
use Rattle.ic_raw.specs.Prelude.{IsFound, IsNoneOrLinked, seen_node, has_place, is_linked_three}
use Rattle.ic_raw.specs.Tree.{node, lent_table}
use Rattle.ic_raw.proofs.Trees.{in_range, end_in, closed, beside_stands, one_beside, seen_represented}
use Rattle.ic_raw.proofs.tree.step_from_none.Goals as goal

pub step_bounded-requires : goal.step_bounded-requires
step_bounded-requires c =
    let t = lent_table c.args.links.now in
    let law = in_range c.args.links.now in
    let stands = subst (λ o. IsNoneOrLinked is_linked_three t o) c.root.ensures (c.stands.ensures.0 c.if-not-stands.false) in
    (has_place t, closed t c.root-2.result (rw c.root-2.ensures (end_in t law _ stands)), (tt, tt))

pub hand_out-requires : goal.hand_out-requires
hand_out-requires c =
    let t = lent_table c.args.links.now in
    let law = in_range c.args.links.now in
    let stands = subst (λ o. IsNoneOrLinked is_linked_three t o) c.root.ensures (c.stands.ensures.0 c.if-not-stands.false) in
    c.step_bounded.ensures.safe (has_place t) (closed t c.root-2.result (rw c.root-2.ensures (end_in t law _ stands))) tt

pub returns-clause-found : goal.returns-clause-found
returns-clause-found c cut member shown at is =
    let t = lent_table c.args.links.now in
    let there = c.step_bounded.ensures.leads cut (rw c.root-2.ensures (represents_of seen_node (seen_represented t (in_range c.args.links.now) [] (represented_of node shown) tt))) at in
    subst (λ o. IsFound o c.hand_out.result c.hand_out.new.found) (one_beside (across c.args.side) cut there is)
    (c.hand_out.ensures.found (beside_stands (across c.args.side) cut shown there))

pub returns-clause-stepped : goal.returns-clause-stepped
returns-clause-stepped c ok =
    let links_back = c.hand_out.ensures.links_back ok in (links_back.0, links_back.2, links_back.3, rw c.root-2.ensures at (c.step_bounded.ensures.reached links_back.0 links_back.1))

pub returns-clause-ended : goal.returns-clause-ended
returns-clause-ended c null = rw c.root-2.ensures at (c.step_bounded.ensures.ended (c.hand_out.ensures.null.0 null))
