use Rattle.std.proofs.Common.{refl}
use Rattle.ic_link_ops.proofs.StepLemmas.{each_unlinked}
use Rattle.ic_raw.proofs.Gaps.{never}
use Rattle.ic_raw.specs.LinkWords.{lent_table}
use Rattle.ic_raw.proofs.LinkViews.{link_words}
use Rattle.ic_raw.proofs.whole.clear_list.Goals as goal

pub returns-then-not-leads_to_last-clause-cleared : goal.returns-then-not-leads_to_last-clause-cleared
returns-then-not-leads_to_last-clause-cleared g c s shown = absurd (never c.if-not-leads_to_last.true (c.leads_to_last.ensures.shown s shown))

pub returns-clause-cleared : goal.returns-clause-cleared
returns-clause-cleared g c s shown =
    let words = link_words g.W.Words g.W.NextWord g.W.PrevPlace in (
      refl,
      record {
        unlinked = λ p member. each_unlinked words.is_linked s (lent_table words c.args.links.now) (lent_table words c.clear.new.links) p (c.clear.ensures.released s shown) member;
        frame = c.clear.ensures.frame s shown;
      },
    )
