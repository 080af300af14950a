use Rattle.std.proofs.Common.{◌≡◌, ◌≤◌, [], length, refl, ◌∙◌, arith}
use Rattle.ic_keyed.proofs.RetainLemmas.{keyed_is, none_left, one_out, same_parts}
use Rattle.ic_keyed.proofs.keyed.Keyed.clear.Goals as goal

pub loop-popped-init : goal.loop-popped-init
loop-popped-init g c = record { parts = refl; count = omega arith }

pub loop-popped-preserved : goal.loop-popped-preserved
loop-popped-preserved g c =
    let k = c.loop-popped.invariant in
    let some : 1 ≤ length c.loop-popped.self.values = omega (arith, k.count, c.loop-popped-test.true, c.len-popped-end.ensures) in
    record {
      parts = same_parts c.loop-popped.self c.pop_last.new.self c.pop_last.result c.pop_last.ensures ∙ k.parts;
      count = omega (arith, k.count, one_out c.loop-popped.self c.pop_last.new.self c.pop_last.result c.pop_last.ensures some);
    }

pub returns : goal.returns
returns g c =
    let k = c.loop-popped.invariant in keyed_is c.args.self.now c.loop-popped.self [] k.parts (none_left c.loop-popped.self.values (omega (arith, k.count, c.loop-popped-test.false, c.len-popped-end.ensures)))
