use Rattle.std.proofs.Common.{ap, ◌∙◌}
use Rattle.ic_raw.specs.Prelude.{is_linked_one, member_fault}
use Rattle.ic_raw.specs.Singly.{lent_table}
use Rattle.ic_raw.proofs.Faults.{by_first, by_others}
use Rattle.ic_raw.proofs.xor_calls.refusal_with_both.Goals as goal

pub returns-then-fault-ne-OK-clause-refusal : goal.returns-then-fault-ne-OK-clause-refusal
returns-then-fault-ne-OK-clause-refusal c =
    let fault = c.member_fault-fault.ensures.fault ∙ ap (λ at. member_fault is_linked_one (lent_table c.args.links.now) at) c.place_of.ensures in by_first _ fault c.if-fault-ne-OK.true

pub returns-clause-refusal : goal.returns-clause-refusal
returns-clause-refusal c =
    let fault = c.member_fault-fault.ensures.fault ∙ ap (λ at. member_fault is_linked_one (lent_table c.args.links.now) at) c.place_of.ensures in
    c.refusal.ensures.refusal ∙ by_others _ fault c.if-fault-ne-OK.false
