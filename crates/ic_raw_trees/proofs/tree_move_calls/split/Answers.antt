use Rattle.std.proofs.Common.{◌≡◌, [], is_some, refl, sym, ap, ◌∙◌, rules}
use Rattle.ic_link_ops.proofs.SequenceLemmas.{some_same}
use Rattle.ic_raw.proofs.Faults.{by_first}
use Rattle.ic_raw.proofs.Gaps.{never}
use Rattle.ic_raw.specs.Tree.{fault_at}
use Rattle.ic_raw_trees.proofs.MarkedViews.{member_back, member_faultless, member_viewed, none_of, splits_back, steps_back, viewed}
use Rattle.ic_raw_trees.proofs.tree_move_calls.split.Goals as goal

pub returns-then-fault-ne-OK : goal.returns-then-fault-ne-OK
returns-then-fault-ne-OK c = record {
  split = λ front back p at shown empty.
      let one : p ≡ c.in-Some.member = some_same (sym at ∙ (sym c.place_of.ensures ∙ c.in-Some.is)) in
      absurd (c.if-fault-ne-OK.true (c.member_fault-fault.ensures.fault ∙ rw (← one) (member_faultless c.args.table.now front p back shown)));
  member = search rules;
  null = search rules;
  empty = search rules;
  linked = search rules;
  words = search rules;
  rest_words = search rules;
  refused = search rules;
  why = λ bad named.
      let at = sym c.place_of.ensures ∙ c.in-Some.is in
      by_first [] (c.member_fault-fault.ensures.fault ∙ ap (fault_at c.args.table.now) (sym at)) bad;
  is_status = search rules;
}

pub returns-then-is_some : goal.returns-then-is_some
returns-then-is_some c = record {
  split = λ front back p at shown empty.
      absurd (never (c.is_some.ensures ∙ ap is_some (c.root.ensures ∙ (c.tree_of.ensures ∙ empty))) c.if-is_some.true);
  member = search rules;
  null = search rules;
  empty = search rules;
  linked = search rules;
  words = search rules;
  rest_words = search rules;
  refused = search rules;
  why = search rules;
  is_status = search rules;
}

pub returns-then-not-has_member : goal.returns-then-not-has_member
returns-then-not-has_member c = record {
  split = λ front back p at shown empty.
      let one : p ≡ c.in-Some.member = some_same (sym at ∙ (sym c.place_of.ensures ∙ c.in-Some.is)) in
      let has = member_viewed c.new-links.result (c.new-links.ensures.words ∙ c.member_fault-fault.ensures.kept) (record { front = front; back = back; shown = shown }) in
      absurd (never c.if-not-has_member.true (c.has_member.ensures.1 (rw (c.tree_of-edited.ensures, ← one) has)));
  member = search rules;
  null = search rules;
  empty = search rules;
  linked = search rules;
  words = search rules;
  rest_words = search rules;
  refused = search rules;
  why = search rules;
  is_status = search rules;
}

pub returns : goal.returns
returns c =
    let same = c.new-links.ensures.words ∙ c.member_fault-fault.ensures.kept in record {
      split = λ front back p at shown empty.
          let one : p ≡ c.in-Some.member = some_same (sym at ∙ (sym c.place_of.ensures ∙ c.in-Some.is)) in
          let whole = rw one at (viewed c.new-links.result same shown) in
          let made = c.split_off-handed.ensures.split front back (rw (c.tree_of-edited.ensures, c.new.ensures) whole) in
          record {
            accepted = refl;
            done = rw one (splits_back c.new-links.result c.split_off-handed.new.links same (search rules) c.write_back.ensures.set c.write_back-2.ensures.set
                (rw c.new.ensures at made));
          };
      member = λ p at ok.
          let one : p ≡ c.in-Some.member = some_same (sym at ∙ (sym c.place_of.ensures ∙ c.in-Some.is)) in
          let has = rw c.tree_of-edited.ensures at (c.has_member.ensures.0 c.if-not-has_member.false) in
          rw one (member_back c.new-links.result same has);
      null = search rules;
      empty = λ ok. sym c.tree_of.ensures ∙ (sym c.root.ensures ∙ none_of c.root.result (sym c.is_some.ensures ∙ c.if-is_some.false));
      linked = steps_back c.new-links.result c.split_off-handed.new.links same (search rules) [] c.split_off-handed.ensures.trace_stays;
      words = search rules;
      rest_words = search rules;
      refused = search rules;
      why = search rules;
      is_status = search rules;
    }
