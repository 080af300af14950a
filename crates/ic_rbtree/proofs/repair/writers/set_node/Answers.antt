use Rattle.std.proofs.Common.{ap, ◌∙◌}
use Rattle.ic_link_ops.specs.RedBlackTree.{Node}
use Rattle.ic_rbtree.proofs.Closed.{node_written}
use Rattle.ic_rbtree.proofs.repair.writers.set_node.Goals as goal

pub set_right-requires : goal.set_right-requires
set_right-requires g c =
    let same = g.met.N.NodeStore.keeps_links_keeps _ _ c.set_left.ensures.keeps_links in
    record { linked = same c.args.place ∙ c.requires.linked; named = λ q e. same q ∙ c.requires.right q e }

pub set_parent_and_color-requires : goal.set_parent_and_color-requires
set_parent_and_color-requires g c =
    let same = g.met.N.NodeStore.keeps_links_keeps _ _ (g.met.N.NodeStore.keeps_links_on _ _ _ c.set_left.ensures.keeps_links c.set_right.ensures.keeps_links) in
    record { linked = same c.args.place ∙ c.requires.linked; named = λ q e. same q ∙ c.requires.parent q e }

pub returns-clause-set : goal.returns-clause-set
returns-clause-set g c =
    c.set_parent_and_color.ensures.set ∙ (ap (λ (x : Node). record x { parent = c.args.parent; color = c.args.color }) c.set_right.ensures.set
    ∙ ap (λ (x : Node). record x { right = c.args.right; parent = c.args.parent; color = c.args.color }) c.set_left.ensures.set)

pub returns-clause-frame : goal.returns-clause-frame
returns-clause-frame g c = record {
  extent = c.set_parent_and_color.ensures.frame.extent ∙ (c.set_right.ensures.frame.extent ∙ c.set_left.ensures.frame.extent);
  others = λ q k. c.set_parent_and_color.ensures.frame.others q k ∙ (c.set_right.ensures.frame.others q k ∙ c.set_left.ensures.frame.others q k);
}

pub returns-clause-safe : goal.returns-clause-safe
returns-clause-safe g c root S h i = node_written g.N.NodeStore.node (returns-clause-set g c) (returns-clause-frame g c) h i.0 i.1.0 i.1.1.0

pub returns-clause-keeps_links : goal.returns-clause-keeps_links
returns-clause-keeps_links g c =
    let on = g.met.N.NodeStore.keeps_links_on in
    on _ _ _ c.set_left.ensures.keeps_links (on _ _ _ c.set_right.ensures.keeps_links c.set_parent_and_color.ensures.keeps_links)
