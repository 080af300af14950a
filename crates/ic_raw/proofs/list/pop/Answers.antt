use Rattle.std.proofs.Common.{◌≡◌, ◌∷◌, Some, sym, ap, ◌∙◌, subst, refl}
use Rattle.ic_link_ops.proofs.SequenceLemmas.{some_same}
use Rattle.ic_raw.proofs.Lists.{removed}
use Rattle.ic_raw.specs.Doubly.{around}
use Rattle.ic_raw.specs.Prelude.{TakenOut, sides}
use Rattle.ic_raw.proofs.Own.{taken_out}
use Rattle.ic_raw.proofs.Touches.{touches_remove, touches_same}
use Rattle.ic_raw.specs.LinkWords.{lent_table}
use Rattle.ic_raw.proofs.LinkViews.{link_words, end_has_room, linked_has_room}
use Rattle.ic_raw.proofs.list.pop.Goals as goal

pub returns-clause-popped : goal.returns-clause-popped
returns-clause-popped g c front back p shown' there =
    let found = some_same (sym c.in-Some.is ∙ c.end_at.ensures.shown front back p shown' there) in
    let one : p ≡ c.in-Some.member = sym (ap (λ m. m.0) found) in
    let gap = ap (λ m. m.1) found in
    let shown = rw one at shown' in
    let off = c.bypass.ensures in
    let released = c.release_link.ensures in (
      ap (λ q. Some q) (sym one),
      rw one (removed front c.in-Some.member back (ap (λ g. g.before) gap) (ap (λ g. g.after) gap) shown off.shows off.extent off.others released.frame),
      rw one released.released.is,
    )

pub returns-clause-own : goal.returns-clause-own
returns-clause-own g c p is =
    let words = link_words g.W.Words g.W.NextWord g.W.PrevPlace in
    subst (λ q. TakenOut (around words (lent_table words c.args.links.now) c.args.list.now (Some q)) c.args.list.now c.bypass.new.self) (some_same is)
    (taken_out (c.end_at.ensures.sides _ _ c.in-Some.is) c.bypass.ensures.ends)

pub returns-clause-touched : goal.returns-clause-touched
returns-clause-touched g c p is =
    let found = c.end_at.ensures.sides _ _ c.in-Some.is in
    let off = c.bypass.ensures in
    let released = c.release_link.ensures in
    rw (← some_same is) (touches_same (λ k. Some c.in-Some.member ∷ sides (found k)) (touches_remove off.trace_stays off.others released.released released.frame))

pub bypass-requires-clause-next : goal.bypass-requires-clause-next
bypass-requires-clause-next g c =
    let words = link_words g.W.Words g.W.NextWord g.W.PrevPlace in
    end_has_room words g.met.W.Words.starts_unlinked c.args.links.now c.in-Some.gap.after (c.end_at.ensures.beside _ _ c.in-Some.is).1

pub bypass-requires-clause-out : goal.bypass-requires-clause-out
bypass-requires-clause-out g c =
    let words = link_words g.W.Words g.W.NextWord g.W.PrevPlace in
    linked_has_room words g.met.W.Words.starts_unlinked c.args.links.now c.in-Some.member (c.end_at.ensures.stands _ _ c.in-Some.is _ refl)
