use Rattle.std.proofs.Common.{refl, rules}
use Rattle.ic_raw.specs.Words.{no_word, is_linked_one}
use Rattle.ic_raw.proofs.Gaps.{never}
use Rattle.ic_raw.proofs.Views.{viewed, represented_back, clears_back}
use Rattle.ic_raw.proofs.Lists.{kept}
use Rattle.ic_raw.proofs.stack_calls.clear.Goals as goal

pub returns-then-not-clear_stack : goal.returns-then-not-clear_stack
returns-then-not-clear_stack c = record {
  cleared = λ s shown. absurd (never c.if-not-clear_stack.true (c.clear_stack.ensures.cleared s (rw c.stack_of.ensures (viewed no_word kept c.new-links.result c.new-links.ensures.1 shown))).0);
  ended = search rules;
  emptied = search rules;
  refused = search rules;
  why = search rules;
  is_status = search rules;
}

pub returns : goal.returns
returns c = record {
  cleared = λ s shown.
      let done = (c.clear_stack.ensures.cleared s (rw c.stack_of.ensures (viewed no_word kept c.new-links.result c.new-links.ensures.1 shown))).1 in
      record { accepted = refl; done = clears_back no_word is_linked_one c.new-links.result c.clear_stack.new.links c.new-links.ensures.1 (search rules) done };
  ended = λ made.
      let ended = c.clear_stack.ensures.ended c.if-not-clear_stack.false in
      (ended.0, represented_back no_word kept c.new-links.result c.new-links.ensures.1 (rw (← c.stack_of.ensures) ended.1));
  emptied = search rules;
  refused = search rules;
  why = search rules;
  is_status = search rules;
}
