use Rattle.std.proofs.Common.{[], ap, ◌∙◌}
use Rattle.ic_raw.specs.Tables.{nameable_table, member_fault, place_fault}
use Rattle.ic_raw.proofs.Faults.{by_first, by_others}
use Rattle.ic_raw.proofs.table.RawTable.refusal.Goals as goal

pub returns-then-fault-ne-OK-clause-refusal : goal.returns-then-fault-ne-OK-clause-refusal
returns-then-fault-ne-OK-clause-refusal g c =
    let fault = c.member_fault-fault.ensures.fault ∙ ap (λ at. member_fault g.W.Words.is_linked (nameable_table g.W.Words.width g.W.Words.unlinked c.args.self.now) at) c.place_of.ensures in by_first _ fault c.if-fault-ne-OK.true

pub returns-then-fault-ne-OK-2-clause-refusal : goal.returns-then-fault-ne-OK-2-clause-refusal
returns-then-fault-ne-OK-2-clause-refusal g c =
    let fault = c.member_fault-fault.ensures.fault ∙ ap (λ at. member_fault g.W.Words.is_linked (nameable_table g.W.Words.width g.W.Words.unlinked c.args.self.now) at) c.place_of.ensures in
    let other = c.place_fault-fault.ensures.fault ∙ ap (λ p. place_fault g.W.Words.is_linked (nameable_table g.W.Words.width g.W.Words.unlinked c.args.self.now) p) c.place_of-2.ensures in
    by_first [] other c.if-fault-ne-OK-2.true ∙ by_others _ fault c.if-fault-ne-OK.false

pub returns-clause-refusal : goal.returns-clause-refusal
returns-clause-refusal g c =
    let fault = c.member_fault-fault.ensures.fault ∙ ap (λ at. member_fault g.W.Words.is_linked (nameable_table g.W.Words.width g.W.Words.unlinked c.args.self.now) at) c.place_of.ensures in
    let other = c.place_fault-fault.ensures.fault ∙ ap (λ p. place_fault g.W.Words.is_linked (nameable_table g.W.Words.width g.W.Words.unlinked c.args.self.now) p) c.place_of-2.ensures in
    by_others [] other c.if-fault-ne-OK-2.false ∙ by_others _ fault c.if-fault-ne-OK.false
