use Rattle.std.proofs.Common.{◌≡◌, ◌≢◌, Some, None, [], ◌∷◌, ◌++◌, refl, sym, ap, ◌∙◌, inl, inr}
use Rattle.ic_link_ops.proofs.Prelude.{same_or_not, absent_both, first_not, last_or-append, none_not, some_same}
use Rattle.ic_ring.proofs.Circles.{circle_beside, free_outside, rotated}
use Rattle.ic_raw.specs.declared.gap.GapSide.TheVariants.{Before}
use Rattle.ic_raw.specs.LinkWords.{lent_table, neighbors}
use Rattle.ic_raw.specs.Ring.{Makes}
use Rattle.ic_raw.proofs.Rings.{apart_around, apart_without, next_first, not_beside, some_there, told_beside}
use Rattle.ic_raw.proofs.Touches.{links_first, other_place}
use Rattle.ic_raw.proofs.LinkViews.{link_words}
use Rattle.ic_raw.proofs.ring_moves.replace.Goals as goal

pub returns-in_default-clause-replaced : goal.returns-in_default-clause-replaced
returns-in_default-clause-replaced g c p r is_place free circle = absurd (some_there c.in_default.is (c.around.ensures.tells r circle))

pub returns-in_default-acquire-clause-replaced : goal.returns-in_default-acquire-clause-replaced
returns-in_default-acquire-clause-replaced g c p r is_place free circle = absurd (none_not p (sym c.in_default-acquire.is ∙ c.acquire.ensures.accepted p is_place free))

pub link_between-requires-clause-links_back : goal.link_between-requires-clause-links_back
link_between-requires-clause-links_back g c =
    let words = link_words g.W.Words g.W.NextWord g.W.PrevPlace in
    let own = c.in-Some-acquire.own in
    told_beside words (c.acquire.ensures.free own c.in-Some-acquire.is).unlinked (c.acquire.ensures.frame own c.in-Some-acquire.is) (c.around.ensures.links_back c.in-Some.pair c.in-Some.is).0

pub close_gap-requires-clause-before : goal.close_gap-requires-clause-before
close_gap-requires-clause-before g c =
    let own = c.in-Some-acquire.own in c.link_between.ensures.trace_stays own ∙ c.acquire.ensures.linked own c.in-Some-acquire.is

pub close_gap-requires-clause-after : goal.close_gap-requires-clause-after
close_gap-requires-clause-after g c =
    let words = link_words g.W.Words g.W.NextWord g.W.PrevPlace in
    let own = c.in-Some-acquire.own in
    let links_back = (c.around.ensures.links_back c.in-Some.pair c.in-Some.is).1 in
    let kept = told_beside words (c.acquire.ensures.free own c.in-Some-acquire.is).unlinked (c.acquire.ensures.frame own c.in-Some-acquire.is) links_back in
    elim (same_or_not c.in-Some.pair.1 c.args.at) [
      | inl e ↦ rw (c.next_without.ensures.alone e) (c.link_between.ensures.trace_stays own ∙ c.acquire.ensures.linked own c.in-Some-acquire.is)
      | inr e ↦ rw (c.next_without.ensures.other e) (c.link_between.ensures.trace_stays c.in-Some.pair.1 ∙ kept.stands)
    ]

pub release_link-requires : goal.release_link-requires
release_link-requires g c =
    let words = link_words g.W.Words g.W.NextWord g.W.PrevPlace in
    let own = c.in-Some-acquire.own in
    let links_back = (c.around.ensures.links_back c.in-Some.pair c.in-Some.is).1 in
    let kept = told_beside words (c.acquire.ensures.free own c.in-Some-acquire.is).unlinked (c.acquire.ensures.frame own c.in-Some-acquire.is) links_back in
    record { linked = c.close_gap.ensures.trace_stays c.args.at ∙ c.link_between.ensures.trace_stays c.args.at ∙ kept.linked }

pub returns-clause-replaced : goal.returns-clause-replaced
returns-clause-replaced g c p r is_place free circle =
    let words = link_words g.W.Words g.W.NextWord g.W.PrevPlace in
    let own = c.in-Some-acquire.own in
    let at = c.args.at in
    let old = lent_table words c.args.links.now in
    let put : own ≡ p = some_same (sym c.in-Some-acquire.is ∙ c.acquire.ensures.accepted p is_place free) in
    let links_back = c.around.ensures.links_back c.in-Some.pair c.in-Some.is in
    let out = free_outside {n = neighbors words} (λ e. refl) circle (c.acquire.ensures.free own c.in-Some-acquire.is).unlinked in
    let got = c.acquire.ensures.frame own c.in-Some-acquire.is in
    let kept = circle_beside {n = neighbors words} own circle out got.others in
    let both = rotated {n = neighbors words} (own ∷ []) (at ∷ r) (c.link_between.ensures.inserted Before at r refl kept out) in
    let next = next_first words r circle links_back.1 c.next_without.ensures.alone c.next_without.ensures.other in
    let off = c.close_gap.ensures.closed at (r ++ own ∷ []) both (sym (last_or-append None r (own ∷ []))) next in
    let made : Makes words old (lent_table words c.release_link.new.self) (own ∷ at ∷ r) (own ∷ r) = record {
      circle = rotated {n = neighbors words} r (own ∷ []) (circle_beside {n = neighbors words} at off both.distinct.0 c.release_link.ensures.frame.others);
      frame = record {
        extent = c.release_link.ensures.frame.extent ∙ c.close_gap.ensures.extent ∙ c.link_between.ensures.extent ∙ got.extent;
        others = λ q away.
            let beside = not_beside words Before old r circle (c.in-Some.pair.0, at) links_back.0 refl q away.1 in
            let other : q ≢ c.next_without.result = λ e. first_not (r ++ own ∷ []) None q (none_not q) (absent_both q r (own ∷ []) away.1.1 (away.0, tt)) (sym next ∙ ap Some (sym e)) in
            c.release_link.ensures.frame.others q away.1.0 ∙ c.close_gap.ensures.others q away.0 other ∙ c.link_between.ensures.others q away.0 beside.0 beside.1 ∙ got.others q away.0;
      };
    } in
    (refl, rw put at made)

pub returns-clause-free : goal.returns-clause-free
returns-clause-free g c made =
    let own = c.in-Some-acquire.own in
    (own, c.acquire.ensures.same own c.in-Some-acquire.is, c.acquire.ensures.free own c.in-Some-acquire.is)

pub returns-clause-before : goal.returns-clause-before
returns-clause-before g c made = (c.in-Some.pair.0, (c.around.ensures.links_back c.in-Some.pair c.in-Some.is).0)

pub returns-clause-after : goal.returns-clause-after
returns-clause-after g c made = (c.in-Some.pair.1, (c.around.ensures.links_back c.in-Some.pair c.in-Some.is).1)

pub returns-clause-touched : goal.returns-clause-touched
returns-clause-touched g c p is made =
    let words = link_words g.W.Words g.W.NextWord g.W.PrevPlace in
    let own = c.in-Some-acquire.own in
    let got = c.acquire.ensures in
    let one : p ≡ own = some_same (sym is ∙ got.same own c.in-Some-acquire.is) in
    let links_back = c.around.ensures.links_back c.in-Some.pair c.in-Some.is in
    let frame = got.frame own c.in-Some-acquire.is in
    let put = c.link_between.ensures in
    let gap = c.close_gap.ensures in
    let off = c.release_link.ensures in
    rw one (record {
      steps_are = (
        lent_table words c.close_gap.new.links,
        links_first (got.free own c.in-Some-acquire.is) (got.linked own c.in-Some-acquire.is) frame (λ q. gap.trace_stays q ∙ put.trace_stays q),
        off.released,
      );
      others = λ q out.
          let away = other_place out.0 in
          let gone = other_place out.1.0 in
          let apart = apart_around words links_back.0 links_back.1 out.1.1.0 out.1.1.1.0 in
          off.frame.others q gone ∙ gap.others q away (apart_without c.next_without.ensures.alone c.next_without.ensures.other away apart.1)
          ∙ put.others q away apart.0 gone ∙ frame.others q away;
    })

pub returns-clause-extent : goal.returns-clause-extent
returns-clause-extent g c =
    c.release_link.ensures.frame.extent ∙ c.close_gap.ensures.extent ∙ c.link_between.ensures.extent ∙ (c.acquire.ensures.frame c.in-Some-acquire.own c.in-Some-acquire.is).extent
