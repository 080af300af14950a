use Rattle.std.proofs.Common.{Option, refl, ap, subst, ◌++◌, ◌∷◌, ◌∙◌}
use Rattle.ic_link_ops.specs.Prelude.{Place, times, fork}
use Rattle.ic_link_ops.proofs.RepresentedTrees.{holds_out}
use Rattle.ic_rbtree.specs.Closed.{IsIn}
use Rattle.ic_augmented.specs.Consistent.{IsConsistentBut}
use Rattle.ic_augmented.proofs.EditLemmas.{consistent_represented}
use Rattle.ic_augmented.proofs.ChangeLemmas.{settled, others_settled}
use Rattle.ic_augmented.proofs.ConsistencyLemmas.{invalidated_none}
use Rattle.ic_augmented.proofs.SubtreeLemmas.{member_subtree}
use Rattle.ic_augmented.proofs.climb.settle.Goals as goal

pub is_above-requires : goal.is_above-requires
is_above-requires g c =
    let m = c.requires.member.1 in
    let x = member_subtree g.N.NodeStore.node (g.N.NodeStore.table c.args.links.now) c.requires.member.0 m.front c.args.place m.back m.shown in
    (x.fs, fork x.c x.a c.args.place x.b, x.subtree, refl)

pub climb-requires-clause-subtree : goal.climb-requires-clause-subtree
climb-requires-clause-subtree g c =
    let m = c.requires.member.1 in
    let x = member_subtree g.N.NodeStore.node (g.N.NodeStore.table c.args.links.now) c.requires.member.0 m.front c.args.place m.back m.shown in
    (x.fs, fork x.c x.a c.args.place x.b, x.subtree, refl)

pub returns-in_default-clause-consistent : goal.returns-in_default-clause-consistent
returns-in_default-clause-consistent g c root front back h k =
    let n = g.N.NodeStore.node in
    let v = g.N.NodeStore.table c.args.links.now in
    let z = g.M.Summaries.summaries c.args.summaries.now in
    consistent_represented n v z root (front ++ c.args.place ∷ back) (h, subst (λ (o : Option Place). IsConsistentBut n v z (front ++ c.args.place ∷ back) o) c.in_default.is k)

pub returns-then-not-is_above-clause-consistent : goal.returns-then-not-is_above-clause-consistent
returns-then-not-is_above-clause-consistent g c root front back h k =
    let n = g.N.NodeStore.node in
    let v = g.N.NodeStore.table c.args.links.now in
    let z = g.M.Summaries.summaries c.args.summaries.now in
    consistent_represented n v _ root (front ++ c.args.place ∷ back)
    (h, c.invalidate_up.ensures.closed (front ++ c.args.place ∷ back) (subst (λ (o : Option Place). IsConsistentBut n v z (front ++ c.args.place ∷ back) o) c.in-Some.is k))

pub returns-clause-consistent : goal.returns-clause-consistent
returns-clause-consistent g c root front back h k =
    let n = g.N.NodeStore.node in
    let v = g.N.NodeStore.table c.args.links.now in
    let z = g.M.Summaries.summaries c.args.summaries.now in
    settled n v z _ root front c.args.place c.in-Some.edge back c.climb.ensures.consistent (c.is_above.ensures c.if-not-is_above.false) h
    (subst (λ (o : Option Place). IsConsistentBut n v z (front ++ c.args.place ∷ back) o) c.in-Some.is k)

pub returns-in_default-clause-others : goal.returns-in_default-clause-others
returns-in_default-clause-others g c root other front back t h k apart but =
    invalidated_none g.N.NodeStore.node (g.N.NodeStore.table c.args.links.now) (g.M.Summaries.summaries c.args.summaries.now) t c.args.edge c.in_default.is but

pub returns-then-not-is_above-clause-others : goal.returns-then-not-is_above-clause-others
returns-then-not-is_above-clause-others g c root other front back t h k apart but =
    let n = g.N.NodeStore.node in
    let v = g.N.NodeStore.table c.args.links.now in
    let z = g.M.Summaries.summaries c.args.summaries.now in
    c.invalidate_up.ensures.closed t (subst (λ (o : Option Place). IsConsistentBut n v z t o) c.in-Some.is but)

pub returns-clause-others : goal.returns-clause-others
returns-clause-others g c root other front back t h k apart but =
    let n = g.N.NodeStore.node in
    let v = g.N.NodeStore.table c.args.links.now in
    let z = g.M.Summaries.summaries c.args.summaries.now in
    others_settled n v z _ root other front c.args.place c.in-Some.edge back t c.climb.ensures.join c.climb.ensures.others (c.is_above.ensures c.if-not-is_above.false) h k apart
    (subst (λ (o : Option Place). IsConsistentBut n v z t o) c.in-Some.is but)

pub returns-in_default-clause-beside : goal.returns-in_default-clause-beside
returns-in_default-clause-beside g c root front back h inside written i q absent out = record { fresh = refl; upper = refl }

pub returns-then-not-is_above-clause-beside : goal.returns-then-not-is_above-clause-beside
returns-then-not-is_above-clause-beside g c root front back h inside written i q absent out =
    c.invalidate_up.ensures.beside inside written (subst (λ (o : Option Place). IsIn inside o) c.in-Some.is i) q out

pub returns-clause-beside : goal.returns-clause-beside
returns-clause-beside g c root front back h inside written i q absent out =
    let x = member_subtree g.N.NodeStore.node (g.N.NodeStore.table c.args.links.now) root front c.args.place back h in
    c.climb.ensures.others x.fs (fork x.c x.a c.args.place x.b) x.subtree refl q (ap (times q) x.same ∙ holds_out h.held q absent)
