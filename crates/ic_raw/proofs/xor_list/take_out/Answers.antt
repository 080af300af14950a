use Rattle.std.proofs.Common.{refl}
use Rattle.ic_raw.proofs.Lists.{removed}
use Rattle.ic_raw.proofs.Own.{taken_out}
use Rattle.ic_raw.proofs.Touches.{touches_remove}
use Rattle.ic_raw.proofs.xor_list.take_out.Goals as goal

pub returns-clause-removed : goal.returns-clause-removed
returns-clause-removed c front back shown before after =
    let off = c.bypass.ensures in
    let released = c.release_link.ensures in
    (refl, removed front c.args.member back before after shown off.shows off.extent off.others released.frame, released.released.is)

pub returns-clause-own : goal.returns-clause-own
returns-clause-own c made = taken_out refl c.bypass.ensures.ends

pub returns-clause-touched : goal.returns-clause-touched
returns-clause-touched c made =
    let off = c.bypass.ensures in
    let released = c.release_link.ensures in
    touches_remove off.trace_stays off.others released.released released.frame
