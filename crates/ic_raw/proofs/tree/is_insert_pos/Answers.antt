use Rattle.std.proofs.Common.{is_some, sym, ap, subst, ◌∙◌}
use Rattle.ic_raw.specs.Tree.{IsInsertPos, lent_table}
use Rattle.ic_raw.proofs.Gaps.{never, not_is}
use Rattle.ic_raw.proofs.Trees.{insert_pos_beside, insert_pos_empty}
use Rattle.ic_raw.proofs.tree.is_insert_pos.Goals as goal

pub returns-then-not-stand-clause-shown : goal.returns-then-not-stand-clause-shown
returns-then-not-stand-clause-shown c cut shown at = absurd (never c.if-not-stand.true (c.stand.ensures.shown c.args.side cut shown (insert_pos_beside (lent_table c.args.links.now) c.args.side c.args.at cut at)))

pub returns-in-None-clause-shown : goal.returns-in-None-clause-shown
returns-in-None-clause-shown c cut shown at =
    let side = c.args.side in
    let t = lent_table c.args.links.now in
    let none = c.root.ensures ∙ insert_pos_empty side cut shown (subst (λ o. IsInsertPos side t o cut) c.in-None.is at) in
    not_is c.is_none.result (sym (ap is_some none) ∙ c.is_none.ensures)
