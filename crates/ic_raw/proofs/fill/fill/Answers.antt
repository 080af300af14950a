use Rattle.std.proofs.Common.{◌≡◌, sym, ◌∙◌}
use Rattle.ic_link_ops.proofs.SequenceLemmas.{some_same}
use Rattle.ic_raw.specs.Fills.{run_faults}
use Rattle.ic_raw.specs.Tables.{nameable_table, place_fault}
use Rattle.ic_raw.proofs.Runs.{run_faultless, free_run, refused_by, none_refused}
use Rattle.ic_raw.proofs.fill.fill.Goals as goal

pub returns-then-fault-ne-OK-clause-filled : goal.returns-then-fault-ne-OK-clause-filled
returns-then-fault-ne-OK-clause-filled g c law cut free shown is =
    let t = nameable_table g.W.Words.width g.W.Words.unlinked c.args.links.now in
    absurd (c.if-fault-ne-OK.true (c.run_fault-fault.ensures.fault ∙ run_faultless g.W.Words.is_linked t c.args.first c.args.count free))

pub returns-then-fault-ne-OK-clause-accepted : goal.returns-then-fault-ne-OK-clause-accepted
returns-then-fault-ne-OK-clause-accepted g c free some =
    let t = nameable_table g.W.Words.width g.W.Words.unlinked c.args.links.now in
    absurd (c.if-fault-ne-OK.true (c.run_fault-fault.ensures.fault ∙ run_faultless g.W.Words.is_linked t c.args.first c.args.count free))

pub returns-then-fault-ne-OK-clause-why : goal.returns-then-fault-ne-OK-clause-why
returns-then-fault-ne-OK-clause-why g c refused =
    let faults = run_faults (place_fault g.W.Words.is_linked (nameable_table g.W.Words.width g.W.Words.unlinked c.args.links.now)) c.args.first c.args.count in
    let fault = c.run_fault-fault.ensures.fault in fault ∙ refused_by faults (λ none. refused (fault ∙ none))

pub returns-in_default-clause-why : goal.returns-in_default-clause-why
returns-in_default-clause-why g c refused =
    let faults = run_faults (place_fault g.W.Words.is_linked (nameable_table g.W.Words.width g.W.Words.unlinked c.args.links.now)) c.args.first c.args.count in
    none_refused faults (sym c.run_fault-fault.ensures.fault ∙ c.if-fault-ne-OK.false)

pub returns-clause-free : goal.returns-clause-free
returns-clause-free g c made =
    let t = nameable_table g.W.Words.width g.W.Words.unlinked c.args.links.now in
    free_run g.W.Words.is_linked t c.args.first c.args.count (sym c.run_fault-fault.ensures.fault ∙ c.if-fault-ne-OK.false)

pub returns-clause-ends : goal.returns-clause-ends
returns-clause-ends g c made some at is =
    let t = nameable_table g.W.Words.width g.W.Words.unlinked c.args.links.now in
    let free = free_run g.W.Words.is_linked t c.args.first c.args.count (sym c.run_fault-fault.ensures.fault ∙ c.if-fault-ne-OK.false) in
    let one : at ≡ c.in-Some.gap = some_same (sym is ∙ c.in-Some.is) in
    rw one (c.link_run.ensures.ends free some)

pub returns-clause-touched : goal.returns-clause-touched
returns-clause-touched g c made at is outermost free =
    let one : at ≡ c.in-Some.gap = some_same (sym is ∙ c.in-Some.is) in
    rw one (c.link_run.ensures.touched (rw one at outermost) free)
