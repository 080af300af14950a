use Rattle.std.proofs.Common.{◌+◌, refl, arith}
use Rattle.ic_hash_table.proofs.SlotLemmas.{twice}
use Rattle.ic_hash_table.proofs.slots.Slots.all.Goals as goal

pub loop-mask-init : goal.loop-mask-init
loop-mask-init c = record { half = omega (arith, c.requires.some); bits = (0, refl) }

pub loop-mask-preserved : goal.loop-mask-preserved
loop-mask-preserved c =
    let b = c.loop-mask.invariant.bits in
    record {
      half = omega (arith, c.loop-mask-test.true);
      bits = (1 + b.0, twice c.loop-mask.mask b.0 b.1);
    }
