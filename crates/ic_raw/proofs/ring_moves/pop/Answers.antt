use Rattle.std.proofs.Common.{◌≡◌, Some, ◌∷◌, sym, ap, ◌∙◌}
use Rattle.ic_link_ops.proofs.SequenceLemmas.{none_not, some_same}
use Rattle.ic_ring.proofs.Circles.{tested_same, tested_other}
use Rattle.ic_raw.specs.LinkWords.{lent_table}
use Rattle.ic_raw.specs.Ring.{IsCircle, Makes, neighbor_on}
use Rattle.ic_raw.proofs.Gaps.{never}
use Rattle.ic_raw.proofs.Rings.{beside_told, others_of, put_tells, from_put, put_apart, without_put, alone_tells}
use Rattle.ic_raw.proofs.LinkViews.{link_words}
use Rattle.ic_raw.proofs.ring_moves.pop.Goals as goal

pub returns-in_default-clause-popped : goal.returns-in_default-clause-popped
returns-in_default-clause-popped g c p r circle =
    let words = link_words g.W.Words g.W.NextWord g.W.PrevPlace in
    let x = put_tells words c.args.side (lent_table words c.args.links.now) c.args.head p r circle in absurd (none_not x.0 (sym c.in_default.is ∙ c.beside.ensures.tells x.0 x.1 x.2))

pub returns-then-eq-clause-popped : goal.returns-then-eq-clause-popped
returns-then-eq-clause-popped g c p r circle =
    let words = link_words g.W.Words g.W.NextWord g.W.PrevPlace in
    let x = put_tells words c.args.side (lent_table words c.args.links.now) c.args.head p r circle in
    let is = c.neighbor_on-member.ensures ∙ ap (neighbor_on c.args.side) (some_same (sym c.in-Some.is ∙ c.beside.ensures.tells x.0 x.1 x.2)) ∙ x.3 in
    absurd (put_apart words c.args.side (lent_table words c.args.links.now) c.args.head p r circle (sym is ∙ tested_same _ _ (sym c.eq.ensures ∙ c.if-eq.true)))

pub returns-then-not-remove-clause-popped : goal.returns-then-not-remove-clause-popped
returns-then-not-remove-clause-popped g c p r circle =
    let words = link_words g.W.Words g.W.NextWord g.W.PrevPlace in
    let x = put_tells words c.args.side (lent_table words c.args.links.now) c.args.head p r circle in
    let is : c.neighbor_on-member.result ≡ p = c.neighbor_on-member.ensures ∙ ap (neighbor_on c.args.side) (some_same (sym c.in-Some.is ∙ c.beside.ensures.tells x.0 x.1 x.2)) ∙ x.3 in
    let here : IsCircle words (lent_table words c.args.links.now) (c.neighbor_on-member.result ∷ others_of c.args.side c.args.head r) = rw is (from_put words c.args.side (lent_table words c.args.links.now) c.args.head p r circle) in
    absurd (never c.if-not-remove.true (c.remove.ensures.removed (others_of c.args.side c.args.head r) here).0)

pub returns-clause-popped : goal.returns-clause-popped
returns-clause-popped g c p r circle =
    let words = link_words g.W.Words g.W.NextWord g.W.PrevPlace in
    let x = put_tells words c.args.side (lent_table words c.args.links.now) c.args.head p r circle in
    let is : c.neighbor_on-member.result ≡ p = c.neighbor_on-member.ensures ∙ ap (neighbor_on c.args.side) (some_same (sym c.in-Some.is ∙ c.beside.ensures.tells x.0 x.1 x.2)) ∙ x.3 in
    let rest = others_of c.args.side c.args.head r in
    let here : IsCircle words (lent_table words c.args.links.now) (c.neighbor_on-member.result ∷ rest) = rw is (from_put words c.args.side (lent_table words c.args.links.now) c.args.head p r circle) in
    let off : Makes words (lent_table words c.args.links.now) (lent_table words c.remove.new.links) (p ∷ rest) rest = rw is at (c.remove.ensures.removed rest here).1 in
    (ap Some is, without_put words c.args.side c.args.head p r off)

pub returns-clause-empty : goal.returns-clause-empty
returns-clause-empty g c circle =
    let words = link_words g.W.Words g.W.NextWord g.W.PrevPlace in
    let x = alone_tells words c.args.side circle in
    let is = c.neighbor_on-member.ensures ∙ ap (neighbor_on c.args.side) (some_same (sym c.in-Some.is ∙ c.beside.ensures.tells x.0 x.1 x.2)) ∙ x.3 in
    absurd (tested_other _ _ (sym c.eq.ensures ∙ c.if-eq.false) is)

pub returns-clause-beside : goal.returns-clause-beside
returns-clause-beside g c p is =
    let words = link_words g.W.Words g.W.NextWord g.W.PrevPlace in
    let links_back = c.beside.ensures.links_back c.in-Some.pair c.in-Some.is in
    beside_told words c.args.side c.in-Some.pair links_back.0 links_back.1 ∙ ap Some (sym c.neighbor_on-member.ensures) ∙ is

pub returns-clause-touched : goal.returns-clause-touched
returns-clause-touched g c p is = rw (sym (some_same is)) (c.remove.ensures.touched c.if-not-remove.false)
