use Rattle.std.proofs.Common.{refl, ◌∙◌, ap, length, arith}
use Rattle.ic_check.proofs.HashTables.{chains_none, few_checked, chains_more, not_held, held_exactly}
use Rattle.ic_check.proofs.hash_table.check_hash_table.Goals as goal

pub loop-at-init : goal.loop-at-init
loop-at-init g c = record { checks = chains_none }

pub check_chain-requires : goal.check_chain-requires
check_chain-requires g c =
    let many = c.count-count.ensures ∙ ap (λ b. length (g.B.BucketRow.fronts b)) c.buckets.ensures in
    record { in_bounds = omega (arith, c.loop-at-test.true, many); well_formed = c.requires.chains.well_formed }

pub returns-in_default : goal.returns-in_default
returns-in_default g c =
    let many = c.count-count.ensures ∙ ap (λ b. length (g.B.BucketRow.fronts b)) c.buckets.ensures in
    ((λ never. absurd (cc)), λ held. absurd (not_held c.loop-at.invariant.checks (omega (arith, c.loop-at-test.true, many)) c.in_default.ensures held))

pub overflow_add-members : goal.overflow_add-members
overflow_add-members g c = let few = few_checked c.loop-at.invariant.checks c.in-Some.ensures in omega (arith, few)

pub loop-at-preserved : goal.loop-at-preserved
loop-at-preserved g c =
    let many = c.count-count.ensures ∙ ap (λ b. length (g.B.BucketRow.fronts b)) c.buckets.ensures in
    record { checks = chains_more c.loop-at.invariant.checks (omega (arith, c.loop-at-test.true, many)) c.in-Some.ensures refl (omega arith) }

pub returns : goal.returns
returns g c =
    let many = c.count-count.ensures ∙ ap (λ b. length (g.B.BucketRow.fronts b)) c.buckets.ensures in
    held_exactly c.loop-at.invariant.checks (omega (arith, c.loop-at-test.false, many)) c.requires.chains c.len.ensures
