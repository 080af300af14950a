use Rattle.std.proofs.Common.{◌≡◌, sym, ◌∙◌, rules}
use Rattle.ic_link_ops.proofs.SequenceLemmas.{none_not, some_same}
use Rattle.ic_raw.specs.LinkWords.{wide_words}
use Rattle.ic_raw.proofs.Rings.{circle_viewed}
use Rattle.ic_raw_lists.proofs.RingViews.{circle_back}
use Rattle.ic_raw_lists.proofs.ring_check_calls.check.Goals as goal

pub returns-in_default : goal.returns-in_default
returns-in_default c = record {
  shown = search rules;
  not_represented = λ refused s shown. none_not shown.0 (sym c.in_default.is ∙ c.place_of.ensures ∙ shown.1);
  null = search rules;
  refused = search rules;
  same = search rules;
  why = search rules;
  is_status = search rules;
}

pub returns-in_default-count_members : goal.returns-in_default-count_members
returns-in_default-count_members c = record {
  shown = search rules;
  not_represented = λ refused s shown.
      let one : shown.0 ≡ c.in-Some.place = some_same (sym shown.1 ∙ sym c.place_of.ensures ∙ c.in-Some.is) in
      (rw c.in_default-count_members.is at c.count_members.ensures) s (record { circle = circle_viewed wide_words c.new-links.result c.new-links.ensures.1 (rw one at shown.2); out = tt });
  null = search rules;
  refused = search rules;
  same = search rules;
  why = search rules;
  is_status = search rules;
}

pub returns : goal.returns
returns c = record {
  shown = λ accepted.
      let found = rw c.in-Some-count_members.is at c.count_members.ensures in
      (found.0, (c.in-Some.place, sym c.place_of.ensures ∙ c.in-Some.is, circle_back c.new-links.result c.new-links.ensures.1 found.1.circle), found.2);
  not_represented = search rules;
  null = search rules;
  refused = search rules;
  same = search rules;
  why = search rules;
  is_status = search rules;
}
