use Rattle.std.proofs.Common.{◌≡◌, Some, sym, ◌∙◌}
use Rattle.ic_link_ops.proofs.SequenceLemmas.{some_same}
use Rattle.ic_rbtree.proofs.Closed.{read_in, in_linked}
use Rattle.ic_rbtree.proofs.Transplants.{taken_place}
use Rattle.ic_rbtree.proofs.repair.writers.take_place.Goals as goal

pub change_child-requires : goal.change_child-requires
change_child-requires g c =
    let n = g.N.NodeStore.node in
    let r = c.requires.safe in
    let up = read_in r.0 (r.1.parent c.args.place r.2.0 (λ s. c.requires.apart (sym (some_same s)))) c.parent-parent.ensures in
    record { parent = in_linked n r.1 up; named = in_linked n r.1 r.2.1.0 }

pub adopt-requires : goal.adopt-requires
adopt-requires g c =
    let n = g.N.NodeStore.node in
    let r = c.requires.safe in
    let there = read_in r.0 (r.1.left c.args.place r.2.0 (λ s. c.requires.apart (sym (some_same s)))) c.left-left.ensures in
    let same = g.met.N.NodeStore.keeps_links_keeps _ _ c.change_child.ensures.keeps_links in
    record { child = λ q e. same q ∙ in_linked n r.1 there q e; parent = λ q e. same q ∙ in_linked n r.1 r.2.1.0 q e }

pub adopt-requires-2 : goal.adopt-requires-2
adopt-requires-2 g c =
    let n = g.N.NodeStore.node in
    let r = c.requires.safe in
    let there = read_in r.0 (r.1.right c.args.place r.2.0 (λ s. c.requires.apart (sym (some_same s)))) c.right-right.ensures in
    let on = g.met.N.NodeStore.keeps_links_on in
    let same = g.met.N.NodeStore.keeps_links_keeps _ _ (on _ _ _ c.change_child.ensures.keeps_links (c.adopt.ensures.keeps_links)) in
    record { child = λ q e. same q ∙ in_linked n r.1 there q e; parent = λ q e. same q ∙ in_linked n r.1 r.2.1.0 q e }

pub set_node-requires : goal.set_node-requires
set_node-requires g c =
    let n = g.N.NodeStore.node in
    let r = c.requires.safe in
    let out : Some c.args.new ≡ Some c.args.place → ⊥ = λ s. c.requires.apart (sym (some_same s)) in
    let on = g.met.N.NodeStore.keeps_links_on in
    let same = g.met.N.NodeStore.keeps_links_keeps _ _ (on _ _ _ c.change_child.ensures.keeps_links (on _ _ _ c.adopt.ensures.keeps_links c.adopt-2.ensures.keeps_links)) in
    record {
      linked = same c.args.new ∙ r.1.linked c.args.new r.2.1.0;
      left = λ q e. same q ∙ in_linked n r.1 (read_in r.0 (r.1.left c.args.place r.2.0 out) c.left-left.ensures) q e;
      right = λ q e. same q ∙ in_linked n r.1 (read_in r.0 (r.1.right c.args.place r.2.0 out) c.right-right.ensures) q e;
      parent = λ q e. same q ∙ in_linked n r.1 (read_in r.0 (r.1.parent c.args.place r.2.0 out) c.parent-parent.ensures) q e;
    }

pub returns-clause-taken : goal.returns-clause-taken
returns-clause-taken g c =
    taken_place g.N.NodeStore.node _ _ _ _ _ _ _ _ _ _ _ _ _ c.parent-parent.ensures c.left-left.ensures c.right-right.ensures c.color-color.ensures
    c.change_child.ensures.moved c.adopt.ensures.moved c.adopt-2.ensures.moved c.set_node.ensures.set c.set_node.ensures.frame

pub returns-clause-safe : goal.returns-clause-safe
returns-clause-safe g c S h i =
    let out : Some c.args.new ≡ Some c.args.place → ⊥ = λ s. c.requires.apart (sym (some_same s)) in
    let root = c.change_child.new.root in
    let h1 = c.change_child.ensures.safe (Some c.args.new) S h (i.1.0, tt) in
    let h3 = c.adopt-2.ensures.safe root (Some c.args.new) S (c.adopt.ensures.safe root (Some c.args.new) S h1 (i.1.0, tt)) (i.1.0, tt) in
    c.set_node.ensures.safe root S h3
    (read_in S (h.left c.args.place i.0 out) c.left-left.ensures, (read_in S (h.right c.args.place i.0 out) c.right-right.ensures, (read_in S (h.parent c.args.place i.0 out) c.parent-parent.ensures, tt)))

pub returns-clause-keeps_links : goal.returns-clause-keeps_links
returns-clause-keeps_links g c =
    let on = g.met.N.NodeStore.keeps_links_on in
    on _ _ _ c.change_child.ensures.keeps_links (on _ _ _ c.adopt.ensures.keeps_links (on _ _ _ c.adopt-2.ensures.keeps_links c.set_node.ensures.keeps_links))
