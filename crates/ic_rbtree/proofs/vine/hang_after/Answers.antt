use Rattle.std.proofs.Common.{Some, sym, ◌∙◌, subst}
use Rattle.ic_link_ops.specs.Prelude.{list_head, Inserts, at_back}
use Rattle.ic_rbtree.specs.Vines.{RepresentsVine}
use Rattle.ic_rbtree.proofs.Builders.{back_linked, hung_alone, hung_last}
use Rattle.ic_rbtree.proofs.vine.hang_after.Goals as goal

pub set_right-requires-in-Some-clause-linked : goal.set_right-requires-in-Some-clause-linked
set_right-requires-in-Some-clause-linked g c =
    g.met.N.NodeStore.keeps_links_keeps _ _ c.set_right.ensures.keeps_links c.in-Some.last ∙ back_linked g.N.NodeStore.node c.requires.shown.1 c.in-Some.is

pub returns-in-Some-clause-hung : goal.returns-in-Some-clause-hung
returns-in-Some-clause-hung g c s x out =
    hung_last g.N.NodeStore.node x out c.requires.linked c.set_right.ensures.set c.set_right.ensures.frame c.in-Some.is c.set_right-in-Some.ensures.set c.set_right-in-Some.ensures.frame

pub returns-in-None-clause-hung : goal.returns-in-None-clause-hung
returns-in-None-clause-hung g c s x out =
    let n = g.N.NodeStore.node in
    subst (λ o. Inserts (RepresentsVine n) (g.N.NodeStore.table c.args.links.now) (g.N.NodeStore.table c.set_right.new.self) (list_head o (Some c.args.place)) (at_back s) c.args.place) (sym c.of.ensures)
    (hung_alone n x out c.requires.linked c.set_right.ensures.set c.set_right.ensures.frame c.in-None.is)
