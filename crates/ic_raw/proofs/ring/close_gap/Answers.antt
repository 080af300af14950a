use Rattle.std.proofs.Common.{Some, ap, ◌∙◌}
use Rattle.ic_link_ops.proofs.DoublyLists.{next_turns, prev_turns}
use Rattle.ic_ring.proofs.Circles.{circle_closed}
use Rattle.ic_raw.specs.LinkWords.{neighbors}
use Rattle.ic_raw.proofs.Rings.{keeps_next, keeps_prev}
use Rattle.ic_raw.proofs.LinkViews.{link_words, linked_has_room}
use Rattle.ic_raw.proofs.ring.close_gap.Goals as goal

pub set_next-requires-clause-next : goal.set_next-requires-clause-next
set_next-requires-clause-next g c =
    let words = link_words g.W.Words g.W.NextWord g.W.PrevPlace in
    linked_has_room words g.met.W.Words.starts_unlinked c.args.links.now c.args.after c.requires.after

pub set_prev-requires-clause-prev : goal.set_prev-requires-clause-prev
set_prev-requires-clause-prev g c =
    let words = link_words g.W.Words g.W.NextWord g.W.PrevPlace in
    linked_has_room words g.met.W.Words.starts_unlinked c.args.links.now c.args.before c.requires.before

pub returns-clause-closed : goal.returns-clause-closed
returns-clause-closed g c p r circle before after =
    let words = link_words g.W.Words g.W.NextWord g.W.PrevPlace in
    circle_closed p r circle
    (rw (before, after) at (next_turns {n = neighbors words} (Some p) c.set_next.ensures.frame c.set_next.ensures.set))
    (rw (before, after) at (prev_turns {n = neighbors words} (Some p) c.set_prev.ensures.frame c.set_prev.ensures.set))

pub returns-clause-others : goal.returns-clause-others
returns-clause-others g c q before after = c.set_prev.ensures.frame.others q after ∙ c.set_next.ensures.frame.others q before

pub returns-clause-joined : goal.returns-clause-joined
returns-clause-joined g c =
    let words = link_words g.W.Words g.W.NextWord g.W.PrevPlace in
    let before = c.args.before in
    let after = c.args.after in
    record {
      linked = c.set_prev.ensures.trace_stays before ∙ c.set_next.ensures.trace_stays before ∙ c.requires.before;
      next = keeps_next words c.set_prev.ensures.frame c.set_prev.ensures.set before ∙ ap (λ x. x.next) c.set_next.ensures.set;
      stands = c.set_prev.ensures.trace_stays after ∙ c.set_next.ensures.trace_stays after ∙ c.requires.after;
      prev = ap (λ x. x.prev) c.set_prev.ensures.set;
    }

pub returns-clause-links_back : goal.returns-clause-links_back
returns-clause-links_back g c x y from to k =
    let words = link_words g.W.Words g.W.NextWord g.W.PrevPlace in record {
      linked = c.set_prev.ensures.trace_stays x ∙ c.set_next.ensures.trace_stays x ∙ k.linked;
      next = keeps_next words c.set_prev.ensures.frame c.set_prev.ensures.set x ∙ ap (λ e. (neighbors words e).next) (c.set_next.ensures.frame.others x from) ∙ k.next;
      stands = c.set_prev.ensures.trace_stays y ∙ c.set_next.ensures.trace_stays y ∙ k.stands;
      prev = ap (λ e. (neighbors words e).prev) (c.set_prev.ensures.frame.others y to) ∙ keeps_prev words c.set_next.ensures.frame c.set_next.ensures.set y ∙ k.prev;
    }
