use Rattle.std.proofs.Common.{refl, subst, rules}
use Rattle.ic_raw.specs.Prelude.{no_word, is_linked_one, ends_of}
use Rattle.ic_raw.specs.Singly.{lent_table}
use Rattle.ic_raw.specs.Xor.{LeadsThrough}
use Rattle.ic_raw.proofs.Gaps.{never}
use Rattle.ic_raw.proofs.Views.{viewed, clears_back, unlinks_back}
use Rattle.ic_raw.proofs.Lists.{kept}
use Rattle.ic_raw.proofs.Xor.{leads_back}
use Rattle.ic_raw.proofs.xor_calls.clear.Goals as goal

pub returns-then-not-clear : goal.returns-then-not-clear
returns-then-not-clear c = record {
  cleared = λ s shown. absurd (never c.if-not-clear.true (c.clear.ensures.cleared s (rw c.list_of.ensures (viewed no_word kept c.new-links.result c.new-links.ensures.1 shown))).0);
  ended = search rules;
  emptied = search rules;
  marks = unlinks_back no_word c.new-links.result c.clear.new.links c.new-links.ensures.1 (search rules) c.clear.ensures.marks;
  refused = search rules;
  why = search rules;
  is_status = search rules;
}

pub returns : goal.returns
returns c = record {
  cleared = λ s shown.
      let done = (c.clear.ensures.cleared s (rw c.list_of.ensures (viewed no_word kept c.new-links.result c.new-links.ensures.1 shown))).1 in
      record { accepted = refl; done = clears_back no_word is_linked_one c.new-links.result c.clear.new.links c.new-links.ensures.1 (search rules) done };
  ended = λ made.
      let ended = c.clear.ensures.ended c.if-not-clear.false in (
        ended.0,
        leads_back c.new-links.result (ends_of c.args.list.now) ended.0 c.new-links.ensures.1
            (subst (λ list. LeadsThrough (lent_table c.new-links.result) list ended.0) c.list_of.ensures ended.1),
      );
  emptied = search rules;
  marks = unlinks_back no_word c.new-links.result c.clear.new.links c.new-links.ensures.1 (search rules) c.clear.ensures.marks;
  refused = search rules;
  why = search rules;
  is_status = search rules;
}
