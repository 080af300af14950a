use Rattle.std.proofs.Common.{refl, arith}
use Rattle.ic_raw.proofs.HashChecks.{checks_none, checks_more, few_checked, checks_all, not_held}
use Rattle.ic_raw.proofs.check_calls.all_members.Goals as goal

pub loop-at-init : goal.loop-at-init
loop-at-init c = record { checks = checks_none; in_bounds = omega arith }

pub returns-in_default : goal.returns-in_default
returns-in_default c = not_held c.loop-at.invariant.checks (omega (arith, c.loop-at-test.true)) c.in_default.ensures

pub overflow_add-members : goal.overflow_add-members
overflow_add-members c = let few = few_checked c.loop-at.invariant.checks c.in-Some.ensures in omega (arith, few)

pub loop-at-preserved : goal.loop-at-preserved
loop-at-preserved c = record {
  checks = checks_more c.loop-at.invariant.checks c.in-Some.ensures refl (omega arith);
  in_bounds = omega (arith, c.loop-at-test.true);
}

pub returns : goal.returns
returns c = checks_all c.loop-at.invariant.checks (omega (arith, c.loop-at-test.false, c.loop-at.invariant.in_bounds))
