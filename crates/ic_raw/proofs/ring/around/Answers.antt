use Rattle.std.proofs.Common.{sym, ◌∙◌}
use Rattle.ic_link_ops.proofs.SequenceLemmas.{none_not, some_same}
use Rattle.ic_raw.specs.declared.gap.GapSide.TheVariants.{After, Before}
use Rattle.ic_raw.specs.LinkWords.{lent_table}
use Rattle.ic_raw.proofs.Rings.{circle_tells}
use Rattle.ic_raw.proofs.LinkViews.{link_words}
use Rattle.ic_raw.proofs.ring.around.Goals as goal

pub returns-in_default-clause-tells : goal.returns-in_default-clause-tells
returns-in_default-clause-tells g c r circle =
    let words = link_words g.W.Words g.W.NextWord g.W.PrevPlace in
    let x = circle_tells words (lent_table words c.args.links.now) r circle Before in absurd (none_not x.0 (sym c.in_default.is ∙ c.beside.ensures.tells x.0 x.1 x.2))

pub returns-in_default-beside-clause-tells : goal.returns-in_default-beside-clause-tells
returns-in_default-beside-clause-tells g c r circle =
    let words = link_words g.W.Words g.W.NextWord g.W.PrevPlace in
    let x = circle_tells words (lent_table words c.args.links.now) r circle After in absurd (none_not x.0 (sym c.in_default-beside.is ∙ c.beside-2.ensures.tells x.0 x.1 x.2))

pub returns-clause-links_back : goal.returns-clause-links_back
returns-clause-links_back g c x is =
    let a = c.beside.ensures.links_back c.in-Some.before c.in-Some.is in
    let b = c.beside-2.ensures.links_back c.in-Some-beside.after c.in-Some-beside.is in
    rw (sym (some_same is)) (rw a.1 at a.0, rw b.1 at b.0)
