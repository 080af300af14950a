use Rattle.std.proofs.Common.{◌∙◌}
use Rattle.ic_link_ops.proofs.RepresentedLists.{represents_middle}
use Rattle.ic_raw.proofs.Lists.{removed}
use Rattle.ic_raw.proofs.Singly.{touches_off}
use Rattle.ic_raw.proofs.stack.remove.Goals as goal

pub returns-clause-removed : goal.returns-clause-removed
returns-clause-removed c front back shown after =
    let following = c.next-after.ensures ∙ (represents_middle front back shown).next in
    let off = c.bypass.ensures in
    let released = c.release_link.ensures in
    (removed front c.args.member back after following shown off.shows off.extent off.others released.frame, released.released.is)

pub returns-clause-own : goal.returns-clause-own
returns-clause-own c = rw (← c.next-after.ensures) c.bypass.ensures.ends.head

pub returns-clause-touched : goal.returns-clause-touched
returns-clause-touched c =
    let off = c.bypass.ensures in
    touches_off off.trace_stays off.others c.release_link.ensures.released c.release_link.ensures.frame
