use Rattle.std.proofs.Common.{Some, sym, ◌∙◌, subst}
use Rattle.ic_link_ops.specs.Frames.{across}
use Rattle.ic_link_ops.specs.Sequences.{Cut, join}
use Rattle.ic_link_ops.specs.declared.side.Side.{Side}
use Rattle.ic_link_ops.proofs.Prelude.{some_same, is_end_no, is_end_yes}
use Rattle.ic_rbtree.specs.Sides.{IsBeside}
use Rattle.ic_rbtree.proofs.EndsKept.{end_stays, end_steps}
use Rattle.ic_raw.specs.Tree.{RepresentsTree, node, root_in, table_of}
use Rattle.ic_raw.proofs.Gaps.{never}
use Rattle.ic_raw.proofs.Trees.{beside_stands}
use Rattle.ic_raw_keyed.proofs.TreeEnds.{gap_inwards, inwards_beside, inwards_joins, inwards_other, is_next}
use Rattle.ic_raw_keyed.proofs.ends_calls.end_without.Goals as goal

-- if the removed member is not the end, the end stays as it is
pub returns-then-not-is_at-clause-shown : goal.returns-then-not-is_at-clause-shown
returns-then-not-is_at-clause-shown c front back after shown is same =
    sym (some_same same) ∙ end_stays c.args.side front back c.args.member is (sym c.is_at.ensures ∙ c.if-not-is_at.true)

pub returns-then-not-is_at-clause-own : goal.returns-then-not-is_at-clause-own
returns-then-not-is_at-clause-own c after same in_closed_set = record {
  next = λ at. absurd (is_end_no c.args.end c.args.member (sym c.is_at.ensures ∙ c.if-not-is_at.true) at);
  other = λ away. sym (some_same same);
}

-- a step inwards leads to the member that is next to the removed end, which is another linked place
pub returns-then-is_at-clause-accepted : goal.returns-then-is_at-clause-accepted
returns-then-is_at-clause-accepted c front back shown none =
    let gap = gap_inwards c.args.side front c.args.member back in
    let there : IsBeside (across (across c.args.side)) gap c.beside-next.result =
    rw (← c.inwards.ensures) (c.beside-next.ensures.leads gap (subst (RepresentsTree c.args.table.now c.args.tree.now) (sym (inwards_joins c.args.side front c.args.member back)) shown)
    (rw c.inwards.ensures (inwards_beside c.args.side front c.args.member back))) in
    inwards_other c.args.side front c.args.member back shown.held.distinct there (is_end_yes c.beside-next.result c.args.member (sym c.is_at-2.ensures ∙ c.if-is_at.true))

pub returns-then-not-stands-clause-accepted : goal.returns-then-not-stands-clause-accepted
returns-then-not-stands-clause-accepted c front back shown none =
    let gap = gap_inwards c.args.side front c.args.member back in
    let whole = subst (RepresentsTree c.args.table.now c.args.tree.now) (sym (inwards_joins c.args.side front c.args.member back)) shown in
    let there : IsBeside (across (across c.args.side)) gap c.beside-next.result =
    rw (← c.inwards.ensures) (c.beside-next.ensures.leads gap whole (rw c.inwards.ensures (inwards_beside c.args.side front c.args.member back))) in
    never c.if-not-stands.true (c.stands.ensures.stands.1 (rw c.beside-next.ensures.same (beside_stands (across (across c.args.side)) gap whole there)))

pub returns-clause-shown : goal.returns-clause-shown
returns-clause-shown c front back after shown is same =
    let leads : (cut : Cut) → RepresentsTree c.args.table.now c.args.tree.now (join cut) → IsBeside (across c.args.side) cut (Some c.args.member)
    → IsBeside (across (across c.args.side)) cut c.beside-next.result =
    subst (λ (s : Side). (cut : Cut) → RepresentsTree c.args.table.now c.args.tree.now (join cut) → IsBeside s cut (Some c.args.member)
    → IsBeside (across s) cut c.beside-next.result) c.inwards.ensures c.beside-next.ensures.leads in
    sym (some_same same) ∙ end_steps {n = node} c.args.side front back c.args.member shown is (sym c.is_at.ensures ∙ c.if-not-is_at.false) leads

pub returns-clause-own : goal.returns-clause-own
returns-clause-own c after same in_closed_set = record {
  next = λ at. rw (← some_same same) (is_next (table_of c.args.table.now) (root_in c.args.tree.now) c.args.side c.args.member c.beside-next.result
      (rw (← c.inwards.ensures) c.beside-next.ensures.reached) (λ none. rw (← c.inwards.ensures) (c.beside-next.ensures.ended in_closed_set none))
      (rw (← c.beside-next.ensures.same) (c.stands.ensures.stands.0 c.if-not-stands.false))
      (is_end_no c.beside-next.result c.args.member (sym c.is_at-2.ensures ∙ c.if-is_at.false)));
  other = λ away. absurd (away (is_end_yes c.args.end c.args.member (sym c.is_at.ensures ∙ c.if-not-is_at.false)));
}
