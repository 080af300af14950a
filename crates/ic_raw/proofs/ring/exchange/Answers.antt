use Rattle.std.proofs.Common.{Some, [], ◌∷◌, refl, sym, ap, ◌∙◌}
use Rattle.ic_link_ops.proofs.SequenceLemmas.{none_not}
use Rattle.ic_ring.proofs.Circles.{rotated}
use Rattle.ic_raw.specs.LinkWords.{lent_table, neighbors}
use Rattle.ic_raw.proofs.Rings.{apart_beside, last_tells, part_tells}
use Rattle.ic_raw.specs.declared.gap.GapSide.TheVariants.{After}
use Rattle.ic_raw.proofs.LinkViews.{link_words}
use Rattle.ic_raw.proofs.ring.exchange.Goals as goal

pub returns-in_default-clause-joins : goal.returns-in_default-clause-joins
returns-in_default-clause-joins g c [] s circle ring apart last_r last_s =
    absurd (none_not c.args.one last_r)
returns-in_default-clause-joins g c (x ∷ r) s circle ring apart last_r last_s =
    let words = link_words g.W.Words g.W.NextWord g.W.PrevPlace in
    absurd (none_not (c.args.one, x) (sym c.in_default.is ∙ c.beside.ensures.tells (c.args.one, x) (last_tells words (lent_table words c.args.links.now) x r circle last_r) refl))

pub returns-in_default-beside-clause-joins : goal.returns-in_default-beside-clause-joins
returns-in_default-beside-clause-joins g c r [] circle ring apart last_r last_s =
    absurd (none_not c.args.other last_s)
returns-in_default-beside-clause-joins g c r (y ∷ s) circle ring apart last_r last_s =
    let words = link_words g.W.Words g.W.NextWord g.W.PrevPlace in
    absurd (none_not (c.args.other, y) (sym c.in_default-beside.is ∙ c.beside-2.ensures.tells (c.args.other, y) (last_tells words (lent_table words c.args.links.now) y s ring last_s) refl))

pub returns-in_default-clause-cuts : goal.returns-in_default-clause-cuts
returns-in_default-clause-cuts g c [] s circle last_r last_s =
    absurd (none_not c.args.one last_r)
returns-in_default-clause-cuts g c (x ∷ r) [] circle last_r last_s =
    absurd (none_not c.args.other last_s)
returns-in_default-clause-cuts g c (x ∷ r) (y ∷ s) circle last_r last_s =
    let words = link_words g.W.Words g.W.NextWord g.W.PrevPlace in
    absurd (none_not (c.args.one, y) (sym c.in_default.is ∙ c.beside.ensures.tells (c.args.one, y) (part_tells words (lent_table words c.args.links.now) x r y s circle last_r) refl))

pub returns-in_default-beside-clause-cuts : goal.returns-in_default-beside-clause-cuts
returns-in_default-beside-clause-cuts g c [] s circle last_r last_s =
    absurd (none_not c.args.one last_r)
returns-in_default-beside-clause-cuts g c (x ∷ r) [] circle last_r last_s =
    absurd (none_not c.args.other last_s)
returns-in_default-beside-clause-cuts g c (x ∷ r) (y ∷ s) circle last_r last_s =
    let words = link_words g.W.Words g.W.NextWord g.W.PrevPlace in
    absurd (none_not (c.args.other, x) (sym c.in_default-beside.is
    ∙ c.beside-2.ensures.tells (c.args.other, x) (part_tells words (lent_table words c.args.links.now) y s x r (rotated {n = neighbors words} (x ∷ r) (y ∷ s) circle) last_s) refl))

pub cross-requires-clause-first : goal.cross-requires-clause-first
cross-requires-clause-first g c = (c.beside.ensures.links_back c.in-Some.first c.in-Some.is).0

pub cross-requires-clause-second : goal.cross-requires-clause-second
cross-requires-clause-second g c = (c.beside-2.ensures.links_back c.in-Some-beside.second c.in-Some-beside.is).0

pub returns-clause-joins : goal.returns-clause-joins
returns-clause-joins g c r s circle ring apart last_r last_s =
    let a = c.beside.ensures.links_back c.in-Some.first c.in-Some.is in
    let b = c.beside-2.ensures.links_back c.in-Some-beside.second c.in-Some-beside.is in
    (refl, c.cross.ensures.joins r s circle ring apart (last_r ∙ ap Some (sym a.1)) (last_s ∙ ap Some (sym b.1)))

pub returns-clause-cuts : goal.returns-clause-cuts
returns-clause-cuts g c r s circle last_r last_s =
    let a = c.beside.ensures.links_back c.in-Some.first c.in-Some.is in
    let b = c.beside-2.ensures.links_back c.in-Some-beside.second c.in-Some-beside.is in
    (refl, c.cross.ensures.cuts r s circle (last_r ∙ ap Some (sym a.1)) (last_s ∙ ap Some (sym b.1)))

pub returns-clause-links_back : goal.returns-clause-links_back
returns-clause-links_back g c made = let a = c.beside.ensures.links_back c.in-Some.first c.in-Some.is in (c.in-Some.first.1, rw a.1 at a.0)

pub returns-clause-other : goal.returns-clause-other
returns-clause-other g c made = let b = c.beside-2.ensures.links_back c.in-Some-beside.second c.in-Some-beside.is in (c.in-Some-beside.second.1, rw b.1 at b.0)

pub returns-clause-touched : goal.returns-clause-touched
returns-clause-touched g c made =
    let words = link_words g.W.Words g.W.NextWord g.W.PrevPlace in
    let a = c.beside.ensures.links_back c.in-Some.first c.in-Some.is in
    let b = c.beside-2.ensures.links_back c.in-Some-beside.second c.in-Some-beside.is in record {
      steps_are = c.cross.ensures.trace_stays;
      others = λ q out.
          let one = apart_beside words After c.in-Some.first a.0 a.1 out.0 out.1.0 in
          let two = apart_beside words After c.in-Some-beside.second b.0 b.1 out.1.1.0 out.1.1.1.0 in
          c.cross.ensures.others q one.0 one.1 two.0 two.1;
    }
