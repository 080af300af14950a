use Rattle.std.proofs.Common.{[], Some, refl, sym, ap, subst, ◌∙◌}
use Rattle.ic_link_ops.proofs.SequenceLemmas.{some_same}
use Rattle.ic_rbtree.proofs.Closed.{in_there}
use Rattle.ic_raw.specs.Keys.{against, IsTarget}
use Rattle.ic_raw.proofs.Gaps.{never}
use Rattle.ic_raw.proofs.Faults.{by_others}
use Rattle.ic_raw.specs.Seen.{has_place}
use Rattle.ic_raw.specs.Tree.{lent_table}
use Rattle.ic_raw.proofs.Keys.{target_stands, enough}
use Rattle.ic_raw.proofs.Trees.{in_range, end_in, closed}
use Rattle.ic_raw.proofs.search.store_found.Goals as goal

pub returns-then-not-is_searchable-clause-found : goal.returns-then-not-is_searchable-clause-found
returns-then-not-is_searchable-clause-found c s shown enough = absurd (never c.if-not-is_searchable.true (c.is_searchable.ensures.shown s shown enough))

pub returns-in_default-clause-found : goal.returns-in_default-clause-found
returns-in_default-clause-found c s shown enough =
    let found = c.find.ensures.found s shown in absurd (c.in_default.not-Some found.0 found.1)

pub hand_out-requires : goal.hand_out-requires
hand_out-requires c =
    let t = lent_table c.args.links.now in
    let root = end_in t (in_range c.args.links.now) _ (c.is_searchable.ensures.root c.if-not-is_searchable.false) in
    rw c.in-Some.is at (c.find.ensures.in_closed_set (has_place t) (closed t _ root))

pub returns-clause-found : goal.returns-clause-found
returns-clause-found c s shown enough =
    let at = against c.args.key c.args.keys.now in
    let found = c.find.ensures.found s shown in
    let is = subst (IsTarget c.args.target at s) (some_same (sym found.1 ∙ c.in-Some.is)) found.2 in
    (c.in-Some.member, is, c.hand_out.ensures.found (target_stands c.args.target at shown is))

pub returns-clause-bounded : goal.returns-clause-bounded
returns-clause-bounded c ok =
    let links_back = c.hand_out.ensures.links_back ok in
    (links_back.0, links_back.2, links_back.3, c.find.ensures.bounded links_back.0 (c.in-Some.is ∙ ap Some links_back.1))

pub returns-clause-why : goal.returns-clause-why
returns-clause-why c made found =
    c.hand_out.ensures.why made found ∙ by_others [] (enough c.args.keys.now _ (c.is_searchable.ensures.keys c.if-not-is_searchable.false)) refl

pub returns-clause-reached : goal.returns-clause-reached
returns-clause-reached c ok =
    let links_back = c.hand_out.ensures.links_back ok in (
      links_back.0,
      links_back.2,
      links_back.3,
      (λ S h ends. let in_closed_set = rw c.in-Some.is at (c.find.ensures.in_closed_set S h) in in_there S in_closed_set links_back.1),
    )
