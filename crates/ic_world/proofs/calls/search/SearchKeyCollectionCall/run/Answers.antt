use Rattle.std.proofs.Common.{sym, ap, ◌∙◌}
use Rattle.ic_any_collection.specs.AnyCollection.{is_tree}
use Rattle.ic_world.specs.declared.calls.collection_call.Call.TheVariants.{Search as search}
use Rattle.ic_rbtree.specs.KeyProbe.{looks_of}
use Rattle.ic_world.specs.Looks.{looks_within}
use Rattle.ic_world.proofs.Keyed.{searched}
use Rattle.ic_world.proofs.Looks.{few_asked, few_for}
use Rattle.ic_world.proofs.Seeking.{ran_not}
use Rattle.ic_world.proofs.calls.search.SearchKeyCollectionCall.run.Goals as goal

pub returns-then-not-is_tree : goal.returns-then-not-is_tree
returns-then-not-is_tree g c = ran_not (search c.args.self.now) c.requires.held (ap is_tree (sym c.kind.ensures) ∙ sym c.is_tree.ensures ∙ c.if-not-is_tree.true)

pub find_by-found-requires-clause-can : goal.find_by-found-requires-clause-can
find_by-found-requires-clause-can g c = ap is_tree (sym c.kind.ensures) ∙ sym c.is_tree.ensures ∙ c.if-not-is_tree.false

pub returns-in-Find : goal.returns-in-Find
returns-in-Find g c =
    let e = c.find_by-found.ensures in
    let probe = c.new-probe.ensures in
    let found = rw (probe.adapter, probe.key) at e.found in
    rw (c.in-Find.is, c.looks.ensures)
    (searched (c.find_by-found.result, looks_of c.find_by-found.new.probe) (ap is_tree (sym c.kind.ensures) ∙ sym c.is_tree.ensures ∙ c.if-not-is_tree.false) e.moved
    (λ same. (found, few_asked _ probe.none e.looks, same)))

pub lower_bound_by-found-requires-clause-can : goal.lower_bound_by-found-requires-clause-can
lower_bound_by-found-requires-clause-can g c = ap is_tree (sym c.kind.ensures) ∙ sym c.is_tree.ensures ∙ c.if-not-is_tree.false

pub returns-in-LowerBound : goal.returns-in-LowerBound
returns-in-LowerBound g c =
    let e = c.lower_bound_by-found.ensures in
    let probe = c.probe_in_bound-probe.ensures in
    let objects = c.args.objects.now in
    let border = rw (probe.order objects) at e.border in
    rw (c.in-LowerBound.is, c.looks_in.ensures)
    (searched (c.lower_bound_by-found.result, looks_within c.lower_bound_by-found.new.bound) (ap is_tree (sym c.kind.ensures) ∙ sym c.is_tree.ensures ∙ c.if-not-is_tree.false) e.moved
    (λ same. (border, few_for _ _ objects _ _ _ _ probe.none (probe.order objects) e.looks, same)))

pub upper_bound_by-found-requires-clause-can : goal.upper_bound_by-found-requires-clause-can
upper_bound_by-found-requires-clause-can g c = ap is_tree (sym c.kind.ensures) ∙ sym c.is_tree.ensures ∙ c.if-not-is_tree.false

pub returns-in-UpperBound : goal.returns-in-UpperBound
returns-in-UpperBound g c =
    let e = c.upper_bound_by-found.ensures in
    let probe = c.probe_in_bound-probe-in-UpperBound.ensures in
    let objects = c.args.objects.now in
    let border = rw (probe.order objects) at e.border in
    rw (c.in-UpperBound.is, c.looks_in-in-UpperBound.ensures)
    (searched (c.upper_bound_by-found.result, looks_within c.upper_bound_by-found.new.bound) (ap is_tree (sym c.kind.ensures) ∙ sym c.is_tree.ensures ∙ c.if-not-is_tree.false) e.moved
    (λ same. (border, few_for _ _ objects _ _ _ _ probe.none (probe.order objects) e.looks, same)))
