use Rattle.std.proofs.Common.{rules}
use Rattle.ic_raw.specs.Words.{no_word}
use Rattle.ic_raw.proofs.Lists.{kept}
use Rattle.ic_raw.proofs.Views.{viewed, represented_back}
use Rattle.ic_raw.proofs.check_calls.check_stack.Goals as goal

pub returns-in_default : goal.returns-in_default
returns-in_default c = record {
  shown = search rules;
  not_represented = λ refused s shown. (rw c.in_default.is at c.check.ensures) s (rw c.stack_of.ensures (viewed no_word kept c.new-links.result c.new-links.ensures.1 shown));
  refused = search rules;
  same = search rules;
  why = search rules;
  is_status = search rules;
}

pub returns : goal.returns
returns c = record {
  shown = λ accepted. let found = rw c.in-Some.is at c.check.ensures in (found.0, represented_back no_word kept c.new-links.result c.new-links.ensures.1 (rw (← c.stack_of.ensures) found.1), found.2);
  not_represented = search rules;
  refused = search rules;
  same = search rules;
  why = search rules;
  is_status = search rules;
}
