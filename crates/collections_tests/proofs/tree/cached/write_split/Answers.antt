use Rattle.std.proofs.Common.{Some, [], ◌∷◌, sym, ap, ◌∙◌, subst}
use Rattle.ic_link_ops.specs.Sequences.{but_last}
use Rattle.ic_link_ops.proofs.SequenceLemmas.{split_last}
use Rattle.ic_rbtree.specs.Kept.{RepresentsWithEnds}
use Rattle.ic_rbtree.specs.Tree.{ends_of}
use Rattle.collections_tests.proofs.tree.cached.write_split.Goals as goal

pub split_off-rest-requires : goal.split_off-rest-requires
split_off-rest-requires g c =
    let r = c.requires.shown in
    let is = sym r.1.back_is ∙ (sym c.last.ensures ∙ (c.in-Some.is ∙ ap (λ p. Some p) (sym c.new.ensures))) in
    record { member = record { front = but_last r.0; back = []; shown = subst (λ z. RepresentsWithEnds g.L.RBTreeOps.node (g.L.LinkOps.table c.args.links.now) (ends_of c.args.tree.now) z) (split_last r.0 is) r.1 } }

pub append-requires : goal.append-requires
append-requires g c =
    let r = c.requires.shown in
    let is = sym r.1.back_is ∙ (sym c.last.ensures ∙ (c.in-Some.is ∙ ap (λ p. Some p) (sym c.new.ensures))) in
    let whole = subst (λ z. RepresentsWithEnds g.L.RBTreeOps.node (g.L.LinkOps.table c.args.links.now) (ends_of c.args.tree.now) z) (split_last r.0 is) r.1 in
    let s = c.split_off-rest.ensures.split (but_last r.0) [] whole in
    record { shown = (record { front = but_last r.0; back = c.new.result ∷ [] }, record { front = s.keeps; back = s.hands_out; distinct = whole.shown.held.distinct }) }

pub returns : goal.returns
returns g c =
    let r = c.requires.shown in
    let is = sym r.1.back_is ∙ (sym c.last.ensures ∙ (c.in-Some.is ∙ ap (λ p. Some p) (sym c.new.ensures))) in
    let whole = subst (λ z. RepresentsWithEnds g.L.RBTreeOps.node (g.L.LinkOps.table c.args.links.now) (ends_of c.args.tree.now) z) (split_last r.0 is) r.1 in
    let s = c.split_off-rest.ensures.split (but_last r.0) [] whole in
    record { shown = (_, (c.append.ensures.appended (record { front = but_last r.0; back = c.new.result ∷ [] }) (record { front = s.keeps; back = s.hands_out; distinct = whole.shown.held.distinct })).shows) }
