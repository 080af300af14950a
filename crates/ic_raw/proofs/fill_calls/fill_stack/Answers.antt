use Rattle.std.proofs.Common.{None, refl, sym, ap, ◌∙◌, rules}
use Rattle.ic_link_ops.specs.Prelude.{at_front, end_of}
use Rattle.ic_raw.specs.Words.{no_word, is_linked_one, place_of}
use Rattle.ic_raw.specs.Singly.{Represents, lent_table}
use Rattle.ic_raw.specs.declared.gap.Gap.{Gap}
use Rattle.ic_link_ops.proofs.SequenceLemmas.{none_not}
use Rattle.ic_raw.proofs.Views.{viewed, spliced_back}
use Rattle.ic_raw.proofs.Lists.{kept}
use Rattle.ic_raw.proofs.Singly.{gap_same, law}
use Rattle.ic_raw.proofs.Runs.{none_left, splices_none, touches_no_run, run_touched, run_viewed, run_back, why_back}
use Rattle.ic_raw.proofs.fill_calls.fill_stack.Goals as goal

pub returns-then-count-eq0 : goal.returns-then-count-eq0
returns-then-count-eq0 c = record {
  filled = λ s shown free. record { accepted = refl; done = splices_none (at_front s) shown (none_left is_linked_one _ c.args.first c.args.count free c.if-count-eq0.true) };
  nothing = search rules;
  accepted = λ some. absurd (some c.if-count-eq0.true);
  own = search rules;
  touched = λ made free. touches_no_run c.if-count-eq0.true free;
  words = search rules;
  refused = search rules;
  why = search rules;
  is_status = search rules;
}

pub returns-then-status-ne-OK : goal.returns-then-status-ne-OK
returns-then-status-ne-OK c = record {
  filled = λ s shown free.
      let view = c.new-links.ensures.1 in
      let seen : Represents (lent_table c.new-links.result) c.stack_of-edited.result s = rw c.stack_of-edited.ensures (viewed no_word kept c.new-links.result view shown) in
      let gap = c.gap_after-gap.ensures.shown (at_front s) seen refl in
      absurd (c.if-status-ne-OK.true (c.fill-status.ensures.filled law (at_front s) (run_viewed is_linked_one no_word c.new-links.result view free) seen gap).0);
  nothing = search rules;
  accepted = λ some. (
    (λ ok. absurd (c.if-status-ne-OK.true ok)),
    (λ links_back.
        let view = c.new-links.ensures.1 in
        let gap = (gap_same c.new-links.result view c.stack_of-edited.ensures {at = None} refl).1 ((λ q e. absurd (none_not q e)), links_back.1) in
        absurd (c.if-status-ne-OK.true (c.fill-status.ensures.accepted (run_viewed is_linked_one no_word c.new-links.result view links_back.0)
        (λ none. none_not _ (sym none ∙ c.gap_after-gap.ensures.found gap))))),
  );
  own = search rules;
  touched = search rules;
  words = search rules;
  refused = search rules;
  why = λ refused. why_back is_linked_one no_word c.new-links.result c.args.first c.args.count c.new-links.ensures.1 (c.fill-status.ensures.why refused);
  is_status = search rules;
}

pub returns : goal.returns
unfolding run_viewed
returns c = record {
  filled = λ s shown free.
      let view = c.new-links.ensures.1 in
      let seen : Represents (lent_table c.new-links.result) c.stack_of-edited.result s = rw c.stack_of-edited.ensures (viewed no_word kept c.new-links.result view shown) in
      let gap = c.gap_after-gap.ensures.shown (at_front s) seen refl in
      let done = (c.fill-status.ensures.filled law (at_front s) (run_viewed is_linked_one no_word c.new-links.result view free) seen gap).1 in
      record { accepted = refl; done = spliced_back no_word kept c.new-links.result c.fill-status.new.links view (search rules) (search rules) done };
  nothing = search rules;
  accepted = λ some.
      let gap = c.fill-status.ensures.gap c.if-status-ne-OK.false in
      let links_back = (gap_same c.new-links.result c.new-links.ensures.1 c.stack_of-edited.ensures {at = None} refl).0 (c.gap_after-gap.ensures.links_back gap.0 gap.1) in
      let free = run_back is_linked_one no_word c.new-links.result c.new-links.ensures.1 (c.fill-status.ensures.free c.if-status-ne-OK.false) in
      ((λ ok. (free, links_back.1)), (λ links_back. refl));
  own = λ made some.
      let gap = c.fill-status.ensures.gap c.if-status-ne-OK.false in
      let front = c.gap_after-gap.ensures.is gap.0 gap.1 in
      c.write_back.ensures.set ∙ (c.fill-status.ensures.ends c.if-status-ne-OK.false some gap.0 gap.1).head
      ∙ ap (λ (g : Gap). end_of g.before (place_of c.args.first) c.stack_of-edited.result.head) front;
  touched = λ made free.
      run_touched is_linked_one no_word c.new-links.result c.fill-status.new.links c.new-links.ensures.1 (search rules) (c.fill-status.ensures.touched c.if-status-ne-OK.false)
      (c.fill-status.ensures.gap c.if-status-ne-OK.false) (λ g is. (ap (λ (x : Gap). x.before) (c.gap_after-gap.ensures.is g is), (λ no. absurd no))) free;
  words = search rules;
  refused = search rules;
  why = search rules;
  is_status = search rules;
}
