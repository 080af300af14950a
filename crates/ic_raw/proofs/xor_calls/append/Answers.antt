use Rattle.std.proofs.Common.{refl, sym, ap, ◌∙◌, append-nil, rules}
use Rattle.ic_link_ops.specs.Sequences.{at_back, last}
use Rattle.ic_link_ops.proofs.SequenceLemmas.{none_not}
use Rattle.ic_raw.proofs.Gaps.{never}
use Rattle.ic_raw.proofs.xor_calls.append.Goals as goal

pub returns-then-not-splice : goal.returns-then-not-splice
returns-then-not-splice c = record {
  spliced = λ s t shown given apart. absurd (never c.if-not-splice.true (c.splice.ensures.spliced (at_back s) t (c.place_in-last.ensures ∙ shown.tail ∙ ap last (append-nil s)) refl shown given apart).0);
  emptied = search rules;
  stands = search rules;
  links_back = search rules;
  ends = search rules;
  apart = search rules;
  touched = search rules;
  own = search rules;
  nothing = search rules;
  words = search rules;
  refused = search rules;
  why = search rules;
  is_status = search rules;
}

pub returns : goal.returns
returns c = record {
  spliced = λ s t shown given apart. (c.splice.ensures.spliced (at_back s) t (c.place_in-last.ensures ∙ shown.tail ∙ ap last (append-nil s)) refl shown given apart).1 shown given apart;
  emptied = search rules;
  stands = search rules;
  links_back = search rules;
  ends = search rules;
  apart = search rules;
  touched = λ made.
      let touched = c.splice.ensures.touched c.if-not-splice.false in
      record { steps_are = touched.steps_are; others = λ q out. touched.others q ((λ e. out.0 (sym c.place_in-last.ensures ∙ e)), (none_not q, out.1)) };
  own = λ first is made. rw c.place_in-last.ensures at (c.splice.ensures.own first is c.if-not-splice.false);
  nothing = λ is made. c.splice.ensures.nothing is c.if-not-splice.false;
  words = search rules;
  refused = search rules;
  why = search rules;
  is_status = search rules;
}
