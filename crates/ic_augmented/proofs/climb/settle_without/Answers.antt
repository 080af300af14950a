use Rattle.std.proofs.Common.{◌≢◌, Option, Some, refl, sym, ap, subst, ◌∙◌}
use Rattle.ic_link_ops.specs.Prelude.{Place, fork}
use Rattle.ic_link_ops.proofs.Walks.{is_end_yes, is_end_no}
use Rattle.ic_augmented.specs.Consistent.{IsConsistentBut}
use Rattle.ic_augmented.proofs.ChangeLemmas.{settled_here, kept_beside, others_settled_here}
use Rattle.ic_augmented.proofs.ConsistencyLemmas.{invalidated_none}
use Rattle.ic_augmented.proofs.EditLemmas.{edge_absent}
use Rattle.ic_augmented.proofs.SubtreeLemmas.{member_at}
use Rattle.ic_augmented.proofs.climb.settle_without.Goals as goal

pub climb_on-requires-clause-subtree : goal.climb_on-requires-clause-subtree
climb_on-requires-clause-subtree g c =
    let r = c.requires.member in
    let other : c.in-Some.highest ≢ c.args.place = λ e. is_end_no (Some c.in-Some.highest) c.args.place (sym c.is_at.ensures ∙ c.if-is_at.false) (ap Some e) in
    let x = member_at g.N.NodeStore.node (g.N.NodeStore.table c.args.links.now) r.0 r.1 c.in-Some.highest r.2 (r.3 c.in-Some.highest c.in-Some.is other) in
    (x.fs, fork x.c x.a c.in-Some.highest x.b, x.subtree, refl)

pub returns-in_default-clause-consistent : goal.returns-in_default-clause-consistent
returns-in_default-clause-consistent g c root s h of absent k =
    invalidated_none g.N.NodeStore.node (g.N.NodeStore.table c.args.links.now) (g.M.Summaries.summaries c.args.summaries.now) s c.args.edge c.in_default.is k

pub returns-then-is_at-clause-consistent : goal.returns-then-is_at-clause-consistent
returns-then-is_at-clause-consistent g c root s h of absent k =
    edge_absent g.N.NodeStore.node (g.N.NodeStore.table c.args.links.now) (g.M.Summaries.summaries c.args.summaries.now) s c.args.place c.args.edge
    (c.in-Some.is ∙ is_end_yes (Some c.in-Some.highest) c.args.place (sym c.is_at.ensures ∙ c.if-is_at.true)) absent k

pub returns-clause-consistent : goal.returns-clause-consistent
returns-clause-consistent g c root s h of absent k =
    let n = g.N.NodeStore.node in
    let v = g.N.NodeStore.table c.args.links.now in
    let z = g.M.Summaries.summaries c.args.summaries.now in
    let other : c.in-Some.highest ≢ c.args.place = λ e. is_end_no (Some c.in-Some.highest) c.args.place (sym c.is_at.ensures ∙ c.if-is_at.false) (ap Some e) in
    settled_here n v z _ root s c.in-Some.highest h (of c.in-Some.highest c.in-Some.is other) c.climb_on.ensures.consistent (subst (λ (o : Option Place). IsConsistentBut n v z s o) c.in-Some.is k)

pub returns-in_default-clause-others : goal.returns-in_default-clause-others
returns-in_default-clause-others g c root other s t h of k apart absent but =
    invalidated_none g.N.NodeStore.node (g.N.NodeStore.table c.args.links.now) (g.M.Summaries.summaries c.args.summaries.now) t c.args.edge c.in_default.is but

pub returns-then-is_at-clause-others : goal.returns-then-is_at-clause-others
returns-then-is_at-clause-others g c root other s t h of k apart absent but =
    edge_absent g.N.NodeStore.node (g.N.NodeStore.table c.args.links.now) (g.M.Summaries.summaries c.args.summaries.now) t c.args.place c.args.edge
    (c.in-Some.is ∙ is_end_yes (Some c.in-Some.highest) c.args.place (sym c.is_at.ensures ∙ c.if-is_at.true)) absent but

pub returns-clause-others : goal.returns-clause-others
returns-clause-others g c root other s t h of k apart absent but =
    let n = g.N.NodeStore.node in
    let v = g.N.NodeStore.table c.args.links.now in
    let z = g.M.Summaries.summaries c.args.summaries.now in
    let here : c.in-Some.highest ≢ c.args.place = λ e. is_end_no (Some c.in-Some.highest) c.args.place (sym c.is_at.ensures ∙ c.if-is_at.false) (ap Some e) in
    others_settled_here n v z _ root s c.in-Some.highest h (of c.in-Some.highest c.in-Some.is here) other t c.climb_on.ensures.join c.climb_on.ensures.others k apart
    (subst (λ (o : Option Place). IsConsistentBut n v z t o) c.in-Some.is but)

pub returns-clause-beside : goal.returns-clause-beside
returns-clause-beside g c root s h of q absent =
    let other : c.in-Some.highest ≢ c.args.place = λ e. is_end_no (Some c.in-Some.highest) c.args.place (sym c.is_at.ensures ∙ c.if-is_at.false) (ap Some e) in
    kept_beside g.N.NodeStore.node (g.N.NodeStore.table c.args.links.now) _ _ root s c.in-Some.highest h (of c.in-Some.highest c.in-Some.is other) c.climb_on.ensures.others q absent
