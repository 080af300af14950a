use Rattle.std.proofs.Common.{◌≡◌, ◌∷◌, refl, sym, ◌∙◌}
use Rattle.ic_link_ops.proofs.SequenceLemmas.{none_not, some_same}
use Rattle.ic_ring.proofs.Circles.{circle_beside, free_outside}
use Rattle.ic_raw.specs.LinkWords.{lent_table, neighbors}
use Rattle.ic_raw.specs.Ring.{Makes, put_in}
use Rattle.ic_raw.proofs.Rings.{apart_beside, circle_tells, not_beside, told_beside}
use Rattle.ic_raw.proofs.Touches.{links_first, other_place}
use Rattle.ic_raw.proofs.LinkViews.{link_words}
use Rattle.ic_raw.proofs.ring.insert.Goals as goal

pub returns-in_default-clause-inserted : goal.returns-in_default-clause-inserted
returns-in_default-clause-inserted g c p r is_place free circle =
    let words = link_words g.W.Words g.W.NextWord g.W.PrevPlace in
    let x = circle_tells words (lent_table words c.args.links.now) r circle c.args.side in absurd (none_not x.0 (sym c.in_default.is ∙ c.beside.ensures.tells x.0 x.1 x.2))

pub link_between-requires-clause-links_back : goal.link_between-requires-clause-links_back
link_between-requires-clause-links_back g c =
    let words = link_words g.W.Words g.W.NextWord g.W.PrevPlace in
    let own = c.in-Some-acquire.own in
    told_beside words (c.acquire.ensures.free own c.in-Some-acquire.is).unlinked (c.acquire.ensures.frame own c.in-Some-acquire.is) (c.beside.ensures.links_back c.in-Some.pair c.in-Some.is).0

pub returns-clause-inserted : goal.returns-clause-inserted
returns-clause-inserted g c p r is_place free circle =
    let words = link_words g.W.Words g.W.NextWord g.W.PrevPlace in
    let own = c.in-Some-acquire.own in
    let put : own ≡ p = some_same (sym c.in-Some-acquire.is ∙ c.acquire.ensures.accepted p is_place free) in
    let links_back = c.beside.ensures.links_back c.in-Some.pair c.in-Some.is in
    let old = lent_table words c.args.links.now in
    let out = free_outside {n = neighbors words} (λ e. refl) circle (c.acquire.ensures.free own c.in-Some-acquire.is).unlinked in
    let got = c.acquire.ensures.frame own c.in-Some-acquire.is in
    let made : Makes words old (lent_table words c.link_between.new.links) (own ∷ c.args.at ∷ r) (put_in c.args.side c.args.at own r) = record {
      circle = c.link_between.ensures.inserted c.args.side c.args.at r links_back.1 (circle_beside {n = neighbors words} own circle out got.others) out;
      frame = record {
        extent = c.link_between.ensures.extent ∙ got.extent;
        others = λ q away.
            let beside = not_beside words c.args.side old r circle c.in-Some.pair links_back.0 links_back.1 q away.1 in
            c.link_between.ensures.others q away.0 beside.0 beside.1 ∙ got.others q away.0;
      };
    } in
    (refl, rw put at made)

pub returns-clause-links_back : goal.returns-clause-links_back
returns-clause-links_back g c made = let links_back = c.beside.ensures.links_back c.in-Some.pair c.in-Some.is in (c.in-Some.pair, links_back.0, links_back.1)

pub returns-clause-free : goal.returns-clause-free
returns-clause-free g c made =
    let own = c.in-Some-acquire.own in
    (own, c.acquire.ensures.same own c.in-Some-acquire.is, c.acquire.ensures.free own c.in-Some-acquire.is)

pub returns-clause-touched : goal.returns-clause-touched
returns-clause-touched g c p is made =
    let words = link_words g.W.Words g.W.NextWord g.W.PrevPlace in
    let own = c.in-Some-acquire.own in
    let got = c.acquire.ensures in
    let one : p ≡ own = some_same (sym is ∙ got.same own c.in-Some-acquire.is) in
    let links_back = c.beside.ensures.links_back c.in-Some.pair c.in-Some.is in
    let frame = got.frame own c.in-Some-acquire.is in
    rw one (record {
      steps_are = links_first (got.free own c.in-Some-acquire.is) (got.linked own c.in-Some-acquire.is) frame c.link_between.ensures.trace_stays;
      others = λ q out.
          let away = other_place out.0 in
          let apart = apart_beside words c.args.side c.in-Some.pair links_back.0 links_back.1 out.1.0 out.1.1.0 in c.link_between.ensures.others q away apart.0 apart.1 ∙ frame.others q away;
    })

pub returns-clause-extent : goal.returns-clause-extent
returns-clause-extent g c = c.link_between.ensures.extent ∙ (c.acquire.ensures.frame c.in-Some-acquire.own c.in-Some-acquire.is).extent
