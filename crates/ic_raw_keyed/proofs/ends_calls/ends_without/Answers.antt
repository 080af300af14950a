use Rattle.std.proofs.Common.{◌≡◌, ◌++◌, ◌∙◌, subst}
use Rattle.ic_link_ops.specs.declared.side.Side.{Side}
use Rattle.ic_link_ops.specs.declared.side.Side.TheVariants.{Left, Right}
use Rattle.ic_link_ops.proofs.SequenceLemmas.{some_same}
use Rattle.ic_rbtree.specs.Ends.{end_on}
use Rattle.ic_raw.specs.Tree.{root_in, table_of}
use Rattle.ic_raw_keyed.specs.declared.ends.RawTreeEnds.{RawTreeEnds}
use Rattle.ic_raw_keyed.specs.Ends.{LosesEnd, SaysEnds, end_in}
use Rattle.ic_raw_keyed.proofs.ends_calls.ends_without.Goals as goal

pub returns-clause-shown : goal.returns-clause-shown
returns-clause-shown c front back after shown says same =
    let both : SaysEnds c.of.result (front ++ back) = by in
    subst (λ (e : RawTreeEnds). SaysEnds e (front ++ back)) (some_same same) both where
      by : (d : Side) → end_in d c.of.result ≡ end_on d (front ++ back)
      by Left = c.of.ensures.first ∙ c.end_without.ensures.shown front back c.in-Some.first shown (c.end.ensures ∙ says Left) c.in-Some.is
      by Right = c.of.ensures.last ∙ c.end_without-2.ensures.shown front back c.in-Some-end_without.last (rw c.end_without.ensures.same shown) (c.end-2.ensures ∙ says Right) c.in-Some-end_without.is

pub returns-clause-own : goal.returns-clause-own
returns-clause-own c after same in_closed_set = subst (λ (e : RawTreeEnds). (d : Side)
    → LosesEnd (table_of c.args.table.now) (root_in c.args.tree.now) d c.args.member (end_in d c.args.ends.now) (end_in d e)) (some_same same) by where
      by : (d : Side) → LosesEnd (table_of c.args.table.now) (root_in c.args.tree.now) d c.args.member (end_in d c.args.ends.now) (end_in d c.of.result)
      by Left = rw (← c.end.ensures, c.of.ensures.first) (c.end_without.ensures.own c.in-Some.first c.in-Some.is in_closed_set)
      by Right =
          rw (← c.end-2.ensures, c.of.ensures.last, ← c.end_without.ensures.same)
          (c.end_without-2.ensures.own c.in-Some-end_without.last c.in-Some-end_without.is (rw c.end_without.ensures.same in_closed_set))
