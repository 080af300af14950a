use Rattle.std.proofs.Common.{rules}
use Rattle.ic_raw.proofs.Lists.{kept}
use Rattle.ic_raw.proofs.LinkViews.{link_words, viewed, represented_back}
use Rattle.ic_raw.proofs.check_calls.check_list.Goals as goal

pub returns-in_default : goal.returns-in_default
returns-in_default g c =
    let words = link_words g.W.Words g.W.NextWord g.W.PrevPlace in record {
      shown = search rules;
      not_represented = λ refused s shown. (rw c.in_default.is at c.check.ensures) s (rw c.list_of.ensures (viewed words kept c.new-links.result c.new-links.ensures.1 shown));
      refused = search rules;
      same = search rules;
      why = search rules;
      is_status = search rules;
    }

pub returns : goal.returns
returns g c =
    let words = link_words g.W.Words g.W.NextWord g.W.PrevPlace in record {
      shown = λ accepted. let found = rw c.in-Some.is at c.check.ensures in (found.0, represented_back words kept c.new-links.result c.new-links.ensures.1 (rw (← c.list_of.ensures) found.1), found.2);
      not_represented = search rules;
      refused = search rules;
      same = search rules;
      why = search rules;
      is_status = search rules;
    }
