use Rattle.std.proofs.Common.{refl, ap, ◌∙◌, ◌<◌, ℕ, Option}
use Rattle.ic_link_ops.specs.Prelude.{Place, index_of}
use Rattle.ic_augmented.specs.Prelude.{RepresentsConsistent, greatest, room_of}
use Rattle.ic_augmented.specs.GreatestLaws.{greatest_tells}
use Rattle.keyed_tests.proofs.Ready.{room_linked}
use Rattle.keyed_tests.proofs.augmented.first_above.Goals as goal

pub set_value-requires : goal.set_value-requires
set_value-requires g c = record { covered = c.requires.ready.room c.args.place c.requires.covered }

pub refresh-requires : goal.refresh-requires
refresh-requires g c =
    let n = g.L.RBTreeOps.node in
    let q = c.requires.ready in
    let e = c.set_value.ensures in
    record {
      shown = (q.members, rw e.links q.shown.shows);
      covered = λ p is. e.covers p (room_linked n g.L.LinkOps.table g.L.LinkOps.linked g.met.L.RBTreeOps.linked_alike g.met.L.LinkOps.linked_is_covered (λ p. index_of p < room_of c.args.summed.now.summaries)
          c.args.summed.now.links q.room c.args.summed.now.links refl p (rw e.links at is));
    }

pub first_greater-requires : goal.first_greater-requires
first_greater-requires g c = let q = c.requires.ready in (q.members, rw (c.refresh.ensures.links, c.set_value.ensures.links) q.shown.shows)

pub returns-clause-ready : goal.returns-clause-ready
returns-clause-ready g c =
    let n = g.L.RBTreeOps.node in
    let q = c.requires.ready in
    let e = c.set_value.ensures in
    let old = q.consistent in
    let shown : RepresentsConsistent n (greatest c.set_value.new.summed.summaries) (g.L.LinkOps.table c.set_value.new.summed.links) c.args.tree.now.head q.members
    = (rw e.links old.0, e.consistent q.members old.1) in
    record {
      members = q.members;
      shown = c.refresh.ensures.summed q.members shown;
      consistent = c.refresh.ensures.consistent q.members shown;
      room = λ p covered. c.refresh.ensures.covers p (e.covers p (q.room p (rw (c.refresh.ensures.links, e.links) at covered)));
    }

pub returns-clause-number : goal.returns-clause-number
returns-clause-number g c =
    greatest_tells _ _ (λ a b. ap (λ (j : Place → Option ℕ → Option ℕ → ℕ). j c.args.place a b) c.refresh.ensures.join) ∙ c.set_value.ensures.set

pub returns-clause-extent : goal.returns-clause-extent
returns-clause-extent g c = rw (c.refresh.ensures.links, c.set_value.ensures.links) refl
