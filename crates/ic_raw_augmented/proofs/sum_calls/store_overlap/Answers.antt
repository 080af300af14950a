use Rattle.std.proofs.Common.{Option, Some, refl, sym, ap, ◌∙◌, subst}
use Rattle.ic_link_ops.specs.Prelude.{Place, join}
use Rattle.ic_link_ops.specs.declared.side.Side.TheVariants.{Right}
use Rattle.ic_link_ops.proofs.SequenceLemmas.{some_same}
use Rattle.ic_rbtree.proofs.Closed.{in_there, read_in}
use Rattle.ic_raw.specs.declared.status.TheConstants.{NULL, OK}
use Rattle.ic_raw.specs.Prelude.{IsFound, IsNoneOrLinked, key_of, IsSeen, is_linked_three}
use Rattle.ic_raw.specs.Tree.{lent_table}
use Rattle.ic_raw.proofs.Gaps.{never}
use Rattle.ic_raw.proofs.Trees.{beside_stands, in_range, root_stands, seen_represents}
use Rattle.ic_raw_augmented.specs.Find.{overlaps}
use Rattle.ic_raw_augmented.specs.Sums.{value_at}
use Rattle.ic_raw_augmented.proofs.Viewed.{first_linked}
use Rattle.ic_raw_augmented.proofs.sum_calls.store_overlap.Goals as goal

pub returns-then-not-is_searchable-clause-found : goal.returns-then-not-is_searchable-clause-found
returns-then-not-is_searchable-clause-found c cut starts enough at shown right sorted =
    let v = lent_table c.args.links.now in
    absurd (never c.if-not-is_searchable.true (c.is_searchable.ensures.shown enough
    (subst (λ (o : Option Place). IsNoneOrLinked is_linked_three v o) (sym c.place_of-after.ensures) (beside_stands Right cut shown at))
    (subst (λ (o : Option Place). IsNoneOrLinked is_linked_three v o) (sym c.place_in-root.ensures) (root_stands shown))))

pub returns-in_default-clause-found : goal.returns-in_default-clause-found
returns-in_default-clause-found c cut starts enough at shown right sorted =
    let v = lent_table c.args.links.now in
    let f = c.overlap.ensures.found cut (subst (λ (o : Option Place). IsSeen v o (join cut)) (sym c.place_in-root.ensures) (seen_represents v (in_range c.args.links.now) shown)) (c.place_of-after.ensures ∙ at) right sorted in
    absurd (c.in_default.not-Some _ f)

pub returns-in_default-position-clause-found : goal.returns-in_default-position-clause-found
returns-in_default-position-clause-found c cut starts enough at shown right sorted =
    let v = lent_table c.args.links.now in
    let f = c.overlap.ensures.found cut (subst (λ (o : Option Place). IsSeen v o (join cut)) (sym c.place_in-root.ensures) (seen_represents v (in_range c.args.links.now) shown)) (c.place_of-after.ensures ∙ at) right sorted in
    subst (λ (o : Option Place). IsFound o NULL c.args.found.now) (sym c.in_default-position.is ∙ some_same (sym c.in-Some.is ∙ f)) refl

pub returns-then-not-is_linked-clause-found : goal.returns-then-not-is_linked-clause-found
returns-then-not-is_linked-clause-found c cut starts enough at shown right sorted =
    let v = lent_table c.args.links.now in
    let f = c.overlap.ensures.found cut (subst (λ (o : Option Place). IsSeen v o (join cut)) (sym c.place_in-root.ensures) (seen_represents v (in_range c.args.links.now) shown)) (c.place_of-after.ensures ∙ at) right sorted in
    let one = sym c.in-Some-position.is ∙ some_same (sym c.in-Some.is ∙ f) in
    absurd (never (sym c.is_linked.ensures ∙ c.if-not-is_linked.true)
    (first_linked c.args.links.now _ cut shown (overlaps (key_of c.args.starts.now) (value_at c.args.sums.now) c.args.from c.args.to) c.in-Some-position.member one))

pub returns-clause-found : goal.returns-clause-found
returns-clause-found c cut starts enough at shown right sorted =
    let v = lent_table c.args.links.now in
    let f = c.overlap.ensures.found cut (subst (λ (o : Option Place). IsSeen v o (join cut)) (sym c.place_in-root.ensures) (seen_represents v (in_range c.args.links.now) shown)) (c.place_of-after.ensures ∙ at) right sorted in
    let one = sym c.in-Some-position.is ∙ some_same (sym c.in-Some.is ∙ f) in
    subst (λ (o : Option Place). IsFound o OK c.number_of.result) one (record { accepted = refl; done = c.number_of.ensures })

pub returns-clause-reached : goal.returns-clause-reached
returns-clause-reached c ok = (
  c.in-Some-position.member,
  sym c.is_linked.ensures ∙ c.if-not-is_linked.false,
  c.number_of.ensures,
  (λ S h ends.
      let in_closed_set = rw c.in-Some.is at (c.overlap.ensures.in_closed_set S (rw c.place_in-root.ensures h) (read_in S ends.0 c.place_of-after.ensures)) in
      in_there S in_closed_set c.in-Some-position.is),
)

pub returns-in_default-position-clause-ended : goal.returns-in_default-position-clause-ended
returns-in_default-position-clause-ended c null =
    rw (c.place_in-root.ensures, c.place_of-after.ensures) at (c.overlap.ensures.ended (c.in-Some.is ∙ ap Some c.in_default-position.is))
