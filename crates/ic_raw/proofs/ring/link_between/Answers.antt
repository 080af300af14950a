use Rattle.std.proofs.Common.{◌≡◌, ◌≢◌, ◌∷◌, refl, sym, ap, ◌∙◌}
use Rattle.ic_unsafe_ref.specs.declared.place.Place.{Place}
use Rattle.ic_ring.proofs.Circles.{circle_beside}
use Rattle.ic_raw.specs.LinkWords.{lent_table, neighbors}
use Rattle.ic_raw.proofs.Rings.{not_beside, put_beside}
use Rattle.ic_raw.proofs.LinkViews.{link_words, linked_has_room}
use Rattle.ic_raw.proofs.ring.link_between.Goals as goal

pub set_prev-requires-clause-prev : goal.set_prev-requires-clause-prev
set_prev-requires-clause-prev g c =
    let words = link_words g.W.Words g.W.NextWord g.W.PrevPlace in
    linked_has_room words g.met.W.Words.starts_unlinked c.args.links.now c.args.pair.0 c.requires.links_back.linked

pub set_next-requires-clause-next : goal.set_next-requires-clause-next
set_next-requires-clause-next g c =
    let words = link_words g.W.Words g.W.NextWord g.W.PrevPlace in
    linked_has_room words g.met.W.Words.starts_unlinked c.args.links.now c.args.pair.1 c.requires.links_back.stands

pub turn_to-requires-clause-place : goal.turn_to-requires-clause-place
turn_to-requires-clause-place g c =
    let words = link_words g.W.Words g.W.NextWord g.W.PrevPlace in
    linked_has_room words g.met.W.Words.starts_unlinked c.args.links.now c.args.place c.requires.held

pub returns-clause-inserted : goal.returns-clause-inserted
returns-clause-inserted g c side at r own circle out =
    let words = link_words g.W.Words g.W.NextWord g.W.PrevPlace in
    let pair = c.args.pair in
    let links_back = c.requires.links_back in
    let old = lent_table words c.args.links.now in
    let mid = lent_table words c.set_next.new.self in
    let same : (q : Place) → q ≢ c.args.place → mid.entry q ≡ old.entry q = λ q other. c.set_next.ensures.frame.others q other ∙ c.set_prev.ensures.frame.others q other in
    let apart = not_beside words side old r circle pair links_back own c.args.place out in
    let kept = circle_beside {n = neighbors words} c.args.place circle out same in
    let next = ap (λ e. (neighbors words e).next) (same pair.0 (λ e. apart.0 (sym e))) ∙ links_back.next in
    let prev = ap (λ e. (neighbors words e).prev) (same pair.1 (λ e. apart.1 (sym e))) ∙ links_back.prev in
    put_beside words side mid (lent_table words c.turn_to.new.links) r pair own next kept out
    (λ u ring away. c.turn_to.ensures.filled (pair.1 ∷ u) ring away (sym prev ∙ ring.chain.0.prev) refl (record {
      linked = ap (λ x. x.linked) c.set_next.ensures.set ∙ ap (λ x. x.linked) c.set_prev.ensures.set ∙ c.requires.held;
      prev = ap (λ x. x.prev) c.set_next.ensures.set ∙ ap (λ x. x.prev) c.set_prev.ensures.set;
      next = ap (λ x. x.next) c.set_next.ensures.set;
    }))
