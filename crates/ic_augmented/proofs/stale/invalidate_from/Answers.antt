use Rattle.std.proofs.Common.{Option, Some, refl, sym, ap, subst, ◌∙◌, inl, inr}
use Rattle.ic_unsafe_ref.specs.declared.place.Place.{Place}
use Rattle.ic_link_ops.proofs.Walks.{is_end_yes}
use Rattle.ic_rbtree.specs.Closed.{IsIn}
use Rattle.ic_augmented.specs.Prelude.{IsConsistentBut, marks_still, inside_still}
use Rattle.ic_augmented.proofs.ConsistencyLemmas.{stale_none, invalidated_none, invalidated_starts}
use Rattle.ic_augmented.proofs.stale.invalidate_from.Goals as goal

pub returns-then-is_at-clause-writable : goal.returns-then-is_at-clause-writable
returns-then-is_at-clause-writable g c = inr (is_end_yes c.args.edge c.args.place (sym c.is_at.ensures ∙ c.if-is_at.true))

pub returns-then-not-is_fresh-clause-writable : goal.returns-then-not-is_fresh-clause-writable
returns-then-not-is_fresh-clause-writable g c = inl (stale_none _ (sym c.is_fresh.ensures ∙ c.if-not-is_fresh.true))

pub returns-clause-writable : goal.returns-clause-writable
returns-clause-writable g c = elim c.move_edge.ensures.writable [
  | inl none ↦ inl none
  | inr e ↦ inr (ap Some e)
]

pub returns-in_default-clause-edge : goal.returns-in_default-clause-edge
returns-in_default-clause-edge g c =
    let n = g.N.NodeStore.node in
    let v = g.N.NodeStore.table c.args.links.now in
    let z = g.M.Summaries.summaries c.args.summaries.now in
    record {
      consistent = λ s h. invalidated_starts n v z s (Some c.args.place) (invalidated_none n v z s c.args.edge c.in_default.is h);
      marks = marks_still z;
      join = refl;
    }

pub returns-clause-edge : goal.returns-clause-edge
returns-clause-edge g c =
    let n = g.N.NodeStore.node in
    let v = g.N.NodeStore.table c.args.links.now in
    let z = g.M.Summaries.summaries c.args.summaries.now in
    record {
      consistent = λ s h. c.move_edge.ensures.edge.consistent s (subst (λ (o : Option Place). IsConsistentBut n v z s o) c.in-Some.is h);
      marks = c.move_edge.ensures.edge.marks;
      join = c.move_edge.ensures.edge.join;
    }

pub returns-then-is_at-clause-beside : goal.returns-then-is_at-clause-beside
returns-then-is_at-clause-beside g c inside here = inside_still (g.M.Summaries.summaries c.args.summaries.now) c.args.edge inside

pub returns-then-not-is_fresh-clause-beside : goal.returns-then-not-is_fresh-clause-beside
returns-then-not-is_fresh-clause-beside g c inside here = inside_still (g.M.Summaries.summaries c.args.summaries.now) c.args.edge inside

pub returns-in_default-clause-beside : goal.returns-in_default-clause-beside
returns-in_default-clause-beside g c inside here i = (here, λ written q out. record { fresh = refl; upper = refl })

pub returns-clause-beside : goal.returns-clause-beside
returns-clause-beside g c inside here i = c.move_edge.ensures.beside inside here (subst (λ (o : Option Place). IsIn inside o) c.in-Some.is i)
