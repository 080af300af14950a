use Rattle.std.proofs.Common.{filter, refl, ◌∙◌, arith}
use Rattle.std.specs.Fn.{FnReturnsAt}
use Rattle.ic_keyed.specs.Tests.{passing}
use Rattle.ic_keyed.proofs.RetainLemmas.{asked_all, asked_more, asked_none, keyed_is, passing_are}
use Rattle.ic_keyed.proofs.keyed.Keyed.retain.Goals as goal

pub loop-asked-init : goal.loop-asked-init
loop-asked-init g c = record { parts = refl; asked = asked_none }

pub loop-asked-preserved : goal.loop-asked-preserved
loop-asked-preserved g c =
    let k = c.loop-asked.invariant in
    record {
      parts = c.test_first.ensures.parts ∙ k.parts;
      asked = asked_more k.asked (omega (arith, c.loop-asked-test.true, c.len-asked-end.ensures)) c.test_first.ensures.tested;
    }

pub returns-clause-asked : goal.returns-clause-asked
returns-clause-asked g c =
    let k = c.loop-asked.invariant in
    let a = asked_all k.asked (omega (arith, c.loop-asked-test.false, c.len-asked-end.ensures)) in
    (a.0, a.1, keyed_is c.args.self.now c.loop-asked.self (passing a.0 c.args.self.now.values) k.parts a.2)

pub returns-clause-kept : goal.returns-clause-kept
returns-clause-kept g c holds tests =
    let k = c.loop-asked.invariant in
    let a = asked_all k.asked (omega (arith, c.loop-asked-test.false, c.len-asked-end.ensures)) in
    keyed_is c.args.self.now c.loop-asked.self (filter holds c.args.self.now.values) k.parts (a.2 ∙ passing_are (FnReturnsAt g.F.Fn c.args.keeps) holds tests c.args.self.now.values a.0 a.1)
