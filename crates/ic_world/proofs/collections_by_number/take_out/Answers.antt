use Rattle.std.proofs.Common.{refl, sym, arith}
use Rattle.ic_world.proofs.ByNumber.{set_past}
use Rattle.ic_world.proofs.collections_by_number.take_out.Goals as goal

pub returns-else-index-len : goal.returns-else-index-len
returns-else-index-len g c =
    let rest = c.pop.new.self in
    record { rest = rest.items; last = c.in-Some.last; was = c.in-Some.ensures.items; is = sym (set_past rest.items c.args.index c.in-Some.last (omega (arith, c.if-index-len.false, c.len.ensures, rest.ok.0))); moved = refl }
