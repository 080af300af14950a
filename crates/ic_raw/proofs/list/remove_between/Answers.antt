use Rattle.std.proofs.Common.{◌∷◌, Some, sym, ap, ◌∙◌, refl}
use Rattle.ic_raw.proofs.Doubly.{first_kept, last_kept}
use Rattle.ic_raw.proofs.Lists.{removed}
use Rattle.ic_raw.proofs.Own.{end_stays}
use Rattle.ic_raw.specs.Touches.{sides}
use Rattle.ic_raw.proofs.Touches.{touches_remove, touches_same}
use Rattle.ic_raw.proofs.LinkViews.{link_words, end_has_room, linked_has_room}
use Rattle.ic_raw.proofs.list.remove_between.Goals as goal

pub returns-clause-removed : goal.returns-clause-removed
returns-clause-removed g c front back made shown =
    let member = c.args.member in
    let found = c.in-Some.is in
    let gap = c.between.ensures.shown _ _ front back found shown in
    let before = ap (λ g. g.before) gap in
    let after = ap (λ g. g.after) gap in
    let prev = sym (c.between.ensures.prev _ found).1 ∙ before in
    let next = sym (c.between.ensures.next _ found).1 ∙ after in
    let off = c.bypass.ensures in
    let released = c.release_link.ensures in
    let done = removed front member back before after shown off.shows off.extent off.others released.frame in (
      record {
        shows = record {
          distinct = done.shows.distinct;
          chain = done.shows.chain;
          head = shown.head ∙ first_kept front (member ∷ back) prev ∙ sym (first_kept front back prev);
          tail = shown.tail ∙ last_kept front member back next;
        };
        frame = done.frame;
      },
      released.released.is,
    )

pub returns-clause-before : goal.returns-clause-before
returns-clause-before g c made = c.between.ensures.before _ c.args.list.now c.in-Some.is

pub returns-clause-after : goal.returns-clause-after
returns-clause-after g c made = c.between.ensures.after _ c.args.list.now c.in-Some.is

pub returns-clause-own : goal.returns-clause-own
returns-clause-own g c made =
    let found = c.in-Some.is in
    let sides = c.between.ensures.sides _ c.args.list.now found in
    record {
      head = sym (end_stays _ (sym (ap (λ g. g.before) sides) ∙ (c.between.ensures.prev _ found).1));
      tail = sym (end_stays _ (sym (ap (λ g. g.after) sides) ∙ (c.between.ensures.next _ found).1));
    }

pub returns-clause-touched : goal.returns-clause-touched
returns-clause-touched g c made =
    let found = c.between.ensures.sides _ c.args.list.now c.in-Some.is in
    let off = c.bypass.ensures in
    let released = c.release_link.ensures in
    touches_same (λ k. Some c.args.member ∷ sides (found k)) (touches_remove off.trace_stays off.others released.released released.frame)

pub bypass-requires-clause-next : goal.bypass-requires-clause-next
bypass-requires-clause-next g c =
    let words = link_words g.W.Words g.W.NextWord g.W.PrevPlace in
    end_has_room words g.met.W.Words.starts_unlinked c.args.links.now c.in-Some.gap.after (c.between.ensures.stands _ c.in-Some.is).1

pub bypass-requires-clause-out : goal.bypass-requires-clause-out
bypass-requires-clause-out g c =
    let words = link_words g.W.Words g.W.NextWord g.W.PrevPlace in
    linked_has_room words g.met.W.Words.starts_unlinked c.args.links.now c.args.member (c.between.ensures.member _ c.in-Some.is _ refl)
