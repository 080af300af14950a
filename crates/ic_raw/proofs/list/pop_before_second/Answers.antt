use Rattle.std.proofs.Common.{◌≡◌, ◌∷◌, Some, None, [], refl, sym, subst, ◌∙◌}
use Rattle.ic_link_ops.proofs.Prelude.{some_same, represents_middle}
use Rattle.ic_raw.specs.declared.gap.GapSide.TheVariants.{After}
use Rattle.ic_raw.specs.Doubly.{TellsGap, around}
use Rattle.ic_raw.proofs.Doubly.{told_after}
use Rattle.ic_raw.proofs.Lists.{removed}
use Rattle.ic_raw.specs.Gaps.{TakenOut}
use Rattle.ic_raw.proofs.Own.{sides_are, taken_out}
use Rattle.ic_raw.proofs.Touches.{touches_remove, touches_same}
use Rattle.ic_raw.specs.LinkWords.{lent_table}
use Rattle.ic_raw.proofs.LinkViews.{link_words, linked_has_room}
use Rattle.ic_raw.proofs.list.pop_before_second.Goals as goal

pub returns-clause-removed : goal.returns-clause-removed
returns-clause-removed g c p q s some shown' =
    let one : p ≡ c.in-Some.first = sym (some_same (sym c.in-Some.is ∙ c.first.ensures ∙ shown'.head)) in
    let shown = rw one at shown' in
    let after = sym c.in-Some-next.is ∙ c.next.ensures ∙ (represents_middle [] s shown).next in
    let off = c.bypass.ensures in
    let released = c.release_link.ensures in (
      sym (some_same some) ∙ sym one,
      rw one (removed [] c.in-Some.first s refl after shown off.shows off.extent off.others released.frame),
      rw one released.released.is,
    )

pub returns-clause-tail : goal.returns-clause-tail
returns-clause-tail g c q is = c.bypass.ensures.ends.tail _ refl

pub returns-clause-own : goal.returns-clause-own
returns-clause-own g c q is =
    let words = link_words g.W.Words g.W.NextWord g.W.PrevPlace in
    let prev = sym (c.is_after.ensures.prev c.if-not-is_after.false) in
    let next = sym c.in-Some-next.is ∙ c.next.ensures in
    subst (λ p. TakenOut (around words (lent_table words c.args.links.now) c.args.list.now (Some p)) c.args.list.now c.bypass.new.self) (some_same is)
    (taken_out (sides_are prev next) c.bypass.ensures.ends)

pub returns-clause-outer : goal.returns-clause-outer
returns-clause-outer g c q is =
    let words = link_words g.W.Words g.W.NextWord g.W.PrevPlace in
    told_after words (lent_table words c.args.links.now) c.args.list.now None (Some c.in-Some.first) (sym c.first.ensures ∙ c.in-Some.is) (c.is_after.ensures.stands c.if-not-is_after.false)
    (c.is_after.ensures.prev c.if-not-is_after.false)

pub returns-clause-inner : goal.returns-clause-inner
returns-clause-inner g c q is =
    let words = link_words g.W.Words g.W.NextWord g.W.PrevPlace in
    let links_back : TellsGap words After (lent_table words c.args.links.now) c.args.list.now (Some c.in-Some.first) =
    told_after words (lent_table words c.args.links.now) c.args.list.now (Some c.in-Some.first) (Some c.in-Some-next.second) (sym c.next.ensures ∙ c.in-Some-next.is)
    (c.is_after-2.ensures.stands c.if-not-is_after-2.false) (c.is_after-2.ensures.prev c.if-not-is_after-2.false) in
    subst (λ p. TellsGap words After (lent_table words c.args.links.now) c.args.list.now (Some p)) (some_same is) links_back

pub returns-clause-touched : goal.returns-clause-touched
returns-clause-touched g c q is =
    let prev = sym (c.is_after.ensures.prev c.if-not-is_after.false) in
    let next = sym c.in-Some-next.is ∙ c.next.ensures in
    let off = c.bypass.ensures in
    let released = c.release_link.ensures in
    rw (← some_same is) (touches_same (λ k. Some c.in-Some.first ∷ prev k ∷ next k ∷ []) (touches_remove off.trace_stays off.others released.released released.frame))

pub bypass-requires-clause-next : goal.bypass-requires-clause-next
bypass-requires-clause-next g c =
    let words = link_words g.W.Words g.W.NextWord g.W.PrevPlace in
    linked_has_room words g.met.W.Words.starts_unlinked c.args.links.now c.in-Some-next.second (c.is_after-2.ensures.stands c.if-not-is_after-2.false _ refl)

pub bypass-requires-clause-out : goal.bypass-requires-clause-out
bypass-requires-clause-out g c =
    let words = link_words g.W.Words g.W.NextWord g.W.PrevPlace in
    linked_has_room words g.met.W.Words.starts_unlinked c.args.links.now c.in-Some.first (c.is_after.ensures.stands c.if-not-is_after.false _ refl)
