use Rattle.std.proofs.Common.{sym, ap, ◌∙◌}
use Rattle.ic_raw.specs.Words.{is_linked_three}
use Rattle.ic_raw.proofs.tree.tell.Goals as goal

pub returns-clause-links_back : goal.returns-clause-links_back
returns-clause-links_back c links_back =
    (c.in-Some.place, c.in-Some.is, sym (c.is_linked.ensures ∙ ap is_linked_three c.at.ensures) ∙ c.if-not-is_linked.false, c.number_of.ensures)
