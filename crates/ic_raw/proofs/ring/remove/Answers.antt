use Rattle.std.proofs.Common.{refl, ◌∙◌}
use Rattle.ic_ring.proofs.Circles.{circle_taken, circle_beside, ring_frame}
use Rattle.ic_raw.specs.LinkWords.{neighbors}
use Rattle.ic_raw.proofs.Rings.{apart_around, some_there}
use Rattle.ic_raw.proofs.Touches.{other_place, unlinks_last}
use Rattle.ic_raw.proofs.LinkViews.{link_words}
use Rattle.ic_raw.proofs.ring.remove.Goals as goal

pub returns-in_default-clause-removed : goal.returns-in_default-clause-removed
returns-in_default-clause-removed g c r circle = absurd (some_there c.in_default.is (c.around.ensures.tells r circle))

pub bypass-requires-clause-before : goal.bypass-requires-clause-before
bypass-requires-clause-before g c = (c.around.ensures.links_back c.in-Some.pair c.in-Some.is).0.linked

pub bypass-requires-clause-after : goal.bypass-requires-clause-after
bypass-requires-clause-after g c = (c.around.ensures.links_back c.in-Some.pair c.in-Some.is).1.stands

pub release_link-requires : goal.release_link-requires
release_link-requires g c = record { linked = c.bypass.ensures.trace_stays c.args.place ∙ (c.around.ensures.links_back c.in-Some.pair c.in-Some.is).1.linked }

pub returns-clause-removed : goal.returns-clause-removed
returns-clause-removed g c r circle =
    let words = link_words g.W.Words g.W.NextWord g.W.PrevPlace in
    let links_back = c.around.ensures.links_back c.in-Some.pair c.in-Some.is in
    let off = circle_taken {n = neighbors words} links_back.0.prev links_back.1.next (c.bypass.ensures.closed c.args.place) r circle in (
      refl,
      record {
        circle = circle_beside {n = neighbors words} c.args.place off circle.distinct.0 c.release_link.ensures.frame.others;
        frame = record {
          extent = c.release_link.ensures.frame.extent ∙ c.bypass.ensures.extent;
          others = ring_frame {n = neighbors words} r circle links_back.0.prev links_back.1.next (λ q np nq nn. c.release_link.ensures.frame.others q nq ∙ c.bypass.ensures.others q np nn);
        };
      },
    )

pub returns-clause-before : goal.returns-clause-before
returns-clause-before g c made = (c.in-Some.pair.0, (c.around.ensures.links_back c.in-Some.pair c.in-Some.is).0)

pub returns-clause-after : goal.returns-clause-after
returns-clause-after g c made = (c.in-Some.pair.1, (c.around.ensures.links_back c.in-Some.pair c.in-Some.is).1)

pub returns-clause-touched : goal.returns-clause-touched
returns-clause-touched g c made =
    let words = link_words g.W.Words g.W.NextWord g.W.PrevPlace in
    let links_back = c.around.ensures.links_back c.in-Some.pair c.in-Some.is in
    let off = c.release_link.ensures in record {
      steps_are = unlinks_last c.bypass.ensures.trace_stays off.released;
      others = λ q out.
          let apart = apart_around words links_back.0 links_back.1 out.1.0 out.1.1.0 in off.frame.others q (other_place out.0) ∙ c.bypass.ensures.others q apart.0 apart.1;
    }

pub returns-clause-extent : goal.returns-clause-extent
returns-clause-extent g c = c.release_link.ensures.frame.extent ∙ c.bypass.ensures.extent
