use Rattle.std.proofs.Common.{Option, refl, sym, ◌∙◌, subst, inr}
use Rattle.ic_unsafe_ref.specs.declared.place.Place.{Place}
use Rattle.ic_link_ops.specs.Frames.{across}
use Rattle.ic_rbtree.specs.Sides.{IsBeside}
use Rattle.ic_raw.specs.Tree.{RepresentsTree}
use Rattle.ic_raw_keyed.proofs.TreeEnds.{end_new, end_old, gap_outwards, outwards_beside, outwards_joins}
use Rattle.ic_raw_keyed.proofs.ends_calls.end_with.Goals as goal

pub returns-in-None-clause-shown : goal.returns-in-None-clause-shown
returns-in-None-clause-shown c cut shown is =
    let gap = gap_outwards c.args.side cut.front c.args.place cut.back in
    let whole = subst (RepresentsTree c.args.table.now c.args.tree.now) (sym (outwards_joins c.args.side cut.front c.args.place cut.back)) shown in
    end_new c.args.side cut.front c.args.place cut.back
    (subst (λ (o : Option Place). IsBeside (across c.args.side) gap o) c.in-None.is (c.beside.ensures.leads gap whole (outwards_beside c.args.side cut.front c.args.place cut.back)))

pub returns-in-None-clause-own : goal.returns-in-None-clause-own
returns-in-None-clause-own c in_closed_set = inr (refl, c.beside.ensures.ended in_closed_set c.in-None.is)

pub returns-in-Some-clause-shown : goal.returns-in-Some-clause-shown
returns-in-Some-clause-shown c cut shown is =
    let gap = gap_outwards c.args.side cut.front c.args.place cut.back in
    let whole = subst (RepresentsTree c.args.table.now c.args.tree.now) (sym (outwards_joins c.args.side cut.front c.args.place cut.back)) shown in
    is ∙ end_old c.args.side cut.front c.args.place cut.back _
    (subst (λ (o : Option Place). IsBeside (across c.args.side) gap o) c.in-Some.is (c.beside.ensures.leads gap whole (outwards_beside c.args.side cut.front c.args.place cut.back)))
