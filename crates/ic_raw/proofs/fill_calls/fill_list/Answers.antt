use Rattle.std.proofs.Common.{None, refl, ap, subst, ◌∙◌, rules}
use Rattle.ic_link_ops.specs.Prelude.{at_back, join, Ends}
use Rattle.ic_raw.specs.Prelude.{no_words, is_linked_two, gap_between}
use Rattle.ic_raw.specs.declared.gap.GapSide.TheVariants.{Before}
use Rattle.ic_raw.specs.Doubly.{Represents, TellsGap, ends_of}
use Rattle.ic_raw.specs.LinkWords.{lent_table, wide_words}
use Rattle.ic_raw.specs.declared.gap.Gap.{Gap}
use Rattle.ic_raw.proofs.Views.{viewed, spliced_back}
use Rattle.ic_raw.proofs.Lists.{kept}
use Rattle.ic_raw.proofs.Doubly.{law, told_back}
use Rattle.ic_raw.proofs.Runs.{free_none, none_left, splices_none, touches_no_run, run_touched, turns_back, run_viewed, run_back, why_back}
use Rattle.ic_raw.proofs.fill_calls.fill_list.Goals as goal

pub returns-then-count-eq0 : goal.returns-then-count-eq0
returns-then-count-eq0 c = record {
  filled = λ s shown free. record { accepted = refl; done = splices_none (at_back s) shown (none_left is_linked_two _ c.args.first c.args.count free c.if-count-eq0.true) };
  free = λ made. free_none c.if-count-eq0.true;
  nothing = search rules;
  links_back = search rules;
  own = search rules;
  touched = λ made free. touches_no_run c.if-count-eq0.true free;
  words = search rules;
  refused = search rules;
  why = search rules;
  is_status = search rules;
}

pub returns-then-status-ne-OK : goal.returns-then-status-ne-OK
returns-then-status-ne-OK c = record {
  filled = λ s shown free.
      let view = c.new-links.ensures.1 in
      let seen : Represents wide_words (lent_table wide_words c.new-links.result) c.list_of-edited.result (join (at_back s)) = rw c.list_of-edited.ensures (viewed no_words kept c.new-links.result view shown) in
      let gap = c.gap_at-gap.ensures.shown (at_back s) seen refl in
      absurd (c.if-status-ne-OK.true (c.fill-status.ensures.filled (law wide_words) (at_back s) (run_viewed is_linked_two no_words c.new-links.result view free) seen gap).0);
  free = search rules;
  nothing = search rules;
  links_back = search rules;
  own = search rules;
  touched = search rules;
  words = search rules;
  refused = search rules;
  why = λ refused. why_back is_linked_two no_words c.new-links.result c.args.first c.args.count c.new-links.ensures.1 (c.fill-status.ensures.why refused);
  is_status = search rules;
}

pub returns : goal.returns
unfolding run_viewed
returns c = record {
  filled = λ s shown free.
      let view = c.new-links.ensures.1 in
      let seen : Represents wide_words (lent_table wide_words c.new-links.result) c.list_of-edited.result (join (at_back s)) = rw c.list_of-edited.ensures (viewed no_words kept c.new-links.result view shown) in
      let gap = c.gap_at-gap.ensures.shown (at_back s) seen refl in
      let done = (c.fill-status.ensures.filled (law wide_words) (at_back s) (run_viewed is_linked_two no_words c.new-links.result view free) seen gap).1 in
      record { accepted = refl; done = spliced_back no_words kept c.new-links.result c.fill-status.new.links view (search rules) (search rules) done };
  free = λ made. run_back is_linked_two no_words c.new-links.result c.new-links.ensures.1 (c.fill-status.ensures.free c.if-status-ne-OK.false);
  nothing = search rules;
  links_back = λ made some.
      let gap = c.fill-status.ensures.gap c.if-status-ne-OK.false in
      let there : TellsGap wide_words Before (lent_table wide_words c.new-links.result) (ends_of c.args.list.now) None =
      subst (λ (list : Ends). TellsGap wide_words Before (lent_table wide_words c.new-links.result) list None) c.list_of-edited.ensures (c.gap_at-gap.ensures.links_back gap.0 gap.1) in
      told_back wide_words Before c.new-links.result (ends_of c.args.list.now) None c.new-links.ensures.1 there;
  own = λ made some.
      let gap = c.fill-status.ensures.gap c.if-status-ne-OK.false in
      let after = c.gap_at-gap.ensures.sides gap.0 gap.1 ∙ ap (λ (l : Ends). gap_between l.tail None) c.list_of-edited.ensures in
      turns_back after c.list_of-edited.ensures c.write_back.ensures.set (c.fill-status.ensures.ends c.if-status-ne-OK.false some gap.0 gap.1);
  touched = λ made free.
      run_touched is_linked_two no_words c.new-links.result c.fill-status.new.links c.new-links.ensures.1 (search rules) (c.fill-status.ensures.touched c.if-status-ne-OK.false)
      (c.fill-status.ensures.gap c.if-status-ne-OK.false)
      (λ g is. (
        ap (λ (x : Gap). x.before) (c.gap_at-gap.ensures.sides g is) ∙ ap (λ (l : Ends). l.tail) c.list_of-edited.ensures,
        (λ _. ap (λ (x : Gap). x.after) (c.gap_at-gap.ensures.sides g is)),
      )) free;
  words = search rules;
  refused = search rules;
  why = search rules;
  is_status = search rules;
}
