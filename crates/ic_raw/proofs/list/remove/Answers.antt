use Rattle.std.proofs.Common.{◌∷◌, Some, refl, sym, ap, ◌∙◌}
use Rattle.ic_link_ops.proofs.SequenceLemmas.{some_same}
use Rattle.ic_raw.proofs.Lists.{removed}
use Rattle.ic_raw.proofs.Own.{taken_out}
use Rattle.ic_raw.specs.Touches.{sides}
use Rattle.ic_raw.proofs.Touches.{touches_remove, touches_same}
use Rattle.ic_raw.proofs.LinkViews.{link_words, end_has_room, linked_has_room}
use Rattle.ic_raw.proofs.list.remove.Goals as goal

pub returns-clause-removed : goal.returns-clause-removed
returns-clause-removed g c front back shown =
    let gap = some_same (sym c.in-Some.is ∙ c.beside.ensures.member front back c.args.member shown refl) in
    let off = c.bypass.ensures in
    let released = c.release_link.ensures in (
      refl,
      removed front c.args.member back (ap (λ g. g.before) gap) (ap (λ g. g.after) gap) shown off.shows off.extent off.others released.frame,
      released.released.is,
    )

pub returns-clause-own : goal.returns-clause-own
returns-clause-own g c made = taken_out (c.beside.ensures.sides _ c.in-Some.is) c.bypass.ensures.ends

pub returns-clause-touched : goal.returns-clause-touched
returns-clause-touched g c made =
    let found = c.beside.ensures.sides _ c.in-Some.is in
    let off = c.bypass.ensures in
    let released = c.release_link.ensures in
    touches_same (λ k. Some c.args.member ∷ sides (found k)) (touches_remove off.trace_stays off.others released.released released.frame)

pub bypass-requires-clause-next : goal.bypass-requires-clause-next
bypass-requires-clause-next g c =
    let words = link_words g.W.Words g.W.NextWord g.W.PrevPlace in
    end_has_room words g.met.W.Words.starts_unlinked c.args.links.now c.in-Some.gap.after (c.beside.ensures.stands _ c.in-Some.is).1

pub bypass-requires-clause-out : goal.bypass-requires-clause-out
bypass-requires-clause-out g c =
    let words = link_words g.W.Words g.W.NextWord g.W.PrevPlace in
    linked_has_room words g.met.W.Words.starts_unlinked c.args.links.now c.args.member (c.beside.ensures.at _ c.in-Some.is _ refl)
