use Rattle.std.proofs.Common.{◌≡◌, ◌∙◌, false, ap, arith, below_more}
use Rattle.ic_program.specs.Text.{begins_with}
use Rattle.ic_program.proofs.TextLemmas.{no_space}
use Rattle.ic_program.proofs.LineLemmas.{says_nothing, says_call_after, says_none, after_same}
use Rattle.ic_program.proofs.line.Line.first_of.Goals as goal

pub returns-in-Some-clause-said : goal.returns-in-Some-clause-said
returns-in-Some-clause-said c = says_nothing c.args.text.now c.in-Some.ensures.0

pub returns-in-Some-call_at-clause-said : goal.returns-in-Some-call_at-clause-said
returns-in-Some-call_at-clause-said c =
    says_call_after c.args.text.now c.without_spaces-start.result.now c.in-Some-call_at.command c.without_spaces-start.ensures c.in-Some-call_at.ensures.said.0

pub returns-in-Some-call_at-clause-after : goal.returns-in-Some-call_at-clause-after
returns-in-Some-call_at-clause-after c = after_same c.args.text.now c.without_spaces-start.result.now _ c.without_spaces-start.ensures c.in-Some-call_at.ensures.said.1

pub returns-in-Some-call_at-2-clause-said : goal.returns-in-Some-call_at-2-clause-said
returns-in-Some-call_at-2-clause-said c =
    says_call_after c.args.text.now c.without_spaces-start.result.now c.in-Some-call_at-2.command c.without_spaces-start.ensures c.in-Some-call_at-2.ensures.said.0

pub returns-in-Some-call_at-2-clause-after : goal.returns-in-Some-call_at-2-clause-after
returns-in-Some-call_at-2-clause-after c = after_same c.args.text.now c.without_spaces-start.result.now _ c.without_spaces-start.ensures c.in-Some-call_at-2.ensures.said.1

pub loop-slot-preserved : goal.loop-slot-preserved
loop-slot-preserved c =
    let word : begins_with 32 c.without_spaces-start.result.now ≡ false = ap (begins_with 32) c.without_spaces-start.ensures ∙ no_space c.args.text.now in
    below_more _ _ c.loop-slot.invariant (c.in_default-call_at-2.ensures.none word)

pub returns-clause-said : goal.returns-clause-said
returns-clause-said c =
    says_none c.args.text.now c.without_spaces-start.result.now c.without_spaces-start.ensures c.in_default.ensures
    (λ s low. c.loop-slot.invariant s (omega (arith, low, c.loop-slot-test.false)))
