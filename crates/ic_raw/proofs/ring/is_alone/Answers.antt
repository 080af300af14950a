use Rattle.std.proofs.Common.{refl, sym, ◌∙◌}
use Rattle.ic_link_ops.proofs.SequenceLemmas.{none_not, some_same}
use Rattle.ic_raw.proofs.Rings.{told_named}
use Rattle.ic_raw.proofs.LinkViews.{link_words}
use Rattle.ic_raw.proofs.ring.is_alone.Goals as goal

pub returns-in_default-clause-tells : goal.returns-in_default-clause-tells
returns-in_default-clause-tells g c links_back = absurd (none_not (c.args.place, c.args.place) (sym c.in_default.is ∙ c.pair.ensures.tells (c.args.place, c.args.place) refl refl links_back))

pub returns-clause-links_back : goal.returns-clause-links_back
returns-clause-links_back g c made =
    let words = link_words g.W.Words g.W.NextWord g.W.PrevPlace in
    let k = c.pair.ensures.links_back _ c.in-Some.is in told_named words k.0 (some_same k.1) (some_same k.2)
