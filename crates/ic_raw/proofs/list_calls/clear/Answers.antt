use Rattle.std.proofs.Common.{refl, rules}
use Rattle.ic_raw.proofs.Gaps.{never}
use Rattle.ic_raw.proofs.Lists.{kept}
use Rattle.ic_raw.proofs.LinkViews.{link_words, viewed, represented_back, clears_back}
use Rattle.ic_raw.proofs.list_calls.clear.Goals as goal

pub returns-then-not-clear_list : goal.returns-then-not-clear_list
returns-then-not-clear_list g c =
    let words = link_words g.W.Words g.W.NextWord g.W.PrevPlace in record {
      cleared = λ s shown. absurd (never c.if-not-clear_list.true (c.clear_list.ensures.cleared s (rw c.list_of.ensures (viewed words kept c.new-links.result c.new-links.ensures.1 shown))).0);
      ended = search rules;
      emptied = search rules;
      refused = search rules;
      why = search rules;
      is_status = search rules;
    }

pub returns : goal.returns
returns g c =
    let words = link_words g.W.Words g.W.NextWord g.W.PrevPlace in record {
      cleared = λ s shown.
          let done = (c.clear_list.ensures.cleared s (rw c.list_of.ensures (viewed words kept c.new-links.result c.new-links.ensures.1 shown))).1 in
          record { accepted = refl; done = clears_back words c.new-links.result c.clear_list.new.links c.new-links.ensures.1 (search rules) done };
      ended = λ made.
          let ended = c.clear_list.ensures.ended c.if-not-clear_list.false in
          (ended.0, represented_back words kept c.new-links.result c.new-links.ensures.1 (rw (← c.list_of.ensures) ended.1));
      emptied = search rules;
      refused = search rules;
      why = search rules;
      is_status = search rules;
    }
