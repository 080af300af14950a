use Rattle.std.proofs.Common.{sym, ap, ◌∙◌}
use Rattle.ic_any_collection.specs.Gaps.{can_replace}
use Rattle.ic_world.specs.declared.calls.collection_call.Call.TheVariants as one
use Rattle.ic_world.proofs.Inserted.{swapped_in, swap_nothing, swap_not}
use Rattle.ic_world.proofs.Seeking.{ran_not}
use Rattle.ic_world.proofs.calls.gaps.SwapCollectionCall.run.Goals as goal

pub returns-then-not-can_replace : goal.returns-then-not-can_replace
returns-then-not-can_replace g c =
    let at = c.args.self.now.0 in
    ran_not {K = g.row.A-Key.Denot} (one.Swap at c.args.self.now.1) c.requires.held (ap (can_replace at) (sym c.kind.ensures) ∙ sym c.can_replace.ensures ∙ c.if-not-can_replace.true)

pub replace-out-requires-clause-can : goal.replace-out-requires-clause-can
replace-out-requires-clause-can g c = ap (can_replace c.args.self.now.0) (sym c.kind.ensures) ∙ sym c.can_replace.ensures ∙ c.if-not-can_replace.false

pub returns-in_default : goal.returns-in_default
returns-in_default g c =
    let at = c.args.self.now.0 in
    let can = ap (can_replace at) (sym c.kind.ensures) ∙ sym c.can_replace.ensures ∙ c.if-not-can_replace.false in
    let e = rw c.in_default.is at c.replace-out.ensures in
    swap_nothing g.row.A-Key.Denot c.args.links.now c.replace-out.new.links at c.args.self.now.1 c.args.members.now c.replace-out.new.self can c.requires.held c.replace-out.result.1 e

pub returns-then-not-acquired : goal.returns-then-not-acquired
returns-then-not-acquired g c =
    let at = c.args.self.now.0 in
    let can = ap (can_replace at) (sym c.kind.ensures) ∙ sym c.can_replace.ensures ∙ c.if-not-can_replace.false in
    let e = rw (c.in-Some.is, c.if-not-acquired.true) at c.replace-out.ensures in
    swap_not g.row.A-Key.Denot c.args.links.now c.replace-out.new.links at c.args.self.now.1 c.args.members.now c.replace-out.new.self can c.requires.held c.in-Some.out e

pub returns : goal.returns
returns g c =
    let at = c.args.self.now.0 in
    let can = ap (can_replace at) (sym c.kind.ensures) ∙ sym c.can_replace.ensures ∙ c.if-not-can_replace.false in
    let e = rw (c.in-Some.is, c.if-not-acquired.false) at c.replace-out.ensures in
    swapped_in g.row.A-Key.Denot c.args.links.now c.replace-out.new.links at c.args.self.now.1 c.args.members.now c.replace-out.new.self can c.requires.held c.in-Some.out c.requires.covered.0 e
