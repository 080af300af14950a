use Rattle.std.proofs.Common.{◌≡◌, [], ◌∷◌, refl, sym, ap, ◌∙◌, rules}
use Rattle.ic_link_ops.specs.LinkSteps.{acquires}
use Rattle.ic_link_ops.proofs.Calling.{accepted}
use Rattle.ic_link_ops.proofs.SequenceLemmas.{some_same}
use Rattle.ic_raw.specs.Tree.{word_of_root}
use Rattle.ic_raw.proofs.Gaps.{never}
use Rattle.ic_raw_trees.proofs.MarkedViews.{free_in, inserts_back, parts_back, parts_viewed, steps_back, unlinked_viewed}
use Rattle.ic_raw_trees.proofs.tree_move_calls.join.Goals as goal

pub returns-then-not-represents_both : goal.returns-then-not-represents_both
returns-then-not-represents_both c = record {
  joined = λ gap p at both free.
      let parts = parts_viewed c.new-links.result (c.new-links.ensures.words ∙ c.place_fault-fault.ensures.kept) both in
      absurd (never c.if-not-represents_both.true (c.represents_both.ensures.1 (gap, rw (c.tree_of-edited.ensures, c.tree_of-later.ensures) parts)));
  shown = search rules;
  free = search rules;
  no_place = search rules;
  emptied = search rules;
  linked = search rules;
  words = search rules;
  refused = search rules;
  why = search rules;
  is_status = search rules;
}

pub returns : goal.returns
returns c =
    let free' = free_in c.args.table.now c.in-Some.object (sym c.place_fault-fault.ensures.fault ∙ c.if-fault-ne-OK.false) in
    let same = c.new-links.ensures.words ∙ c.place_fault-fault.ensures.kept in
    let off = unlinked_viewed c.new-links.result c.in-Some.object same free' in
    let refused' = rw c.new.ensures at c.join.ensures.refused in
    record {
      joined = λ gap p at both free.
          let one : p ≡ c.in-Some.object = some_same (sym at ∙ (sym c.place_of.ensures ∙ c.in-Some.is)) in
          let parts = parts_viewed c.new-links.result same both in
          let made = accepted _ c.join.result off refused' (c.join.ensures.joined gap (rw (c.tree_of-edited.ensures, c.tree_of-later.ensures) parts)) in
          record {
            accepted = refl;
            done = rw one (inserts_back c.new-links.result c.join.new.links same (search rules) c.write_back.ensures.set (rw c.new.ensures at made));
          };
      shown = λ ok.
          let both = rw (c.tree_of-edited.ensures, c.tree_of-later.ensures) at (c.represents_both.ensures.0 c.if-not-represents_both.false) in
          (both.0, parts_back c.new-links.result same both.1);
      free = λ p at ok.
          let one : p ≡ c.in-Some.object = some_same (sym at ∙ (sym c.place_of.ensures ∙ c.in-Some.is)) in
          rw one free';
      no_place = search rules;
      emptied = λ ok.
          c.write_back-2.ensures.words ∙ ap word_of_root (c.write_back-2.ensures.set ∙ accepted _ c.join.result off refused' c.join.ensures.emptied);
      linked = λ p at ok.
          let one : p ≡ c.in-Some.object = some_same (sym at ∙ (sym c.place_of.ensures ∙ c.in-Some.is)) in
          let steps = rw c.new.ensures at (accepted _ c.join.result off refused' c.join.ensures.acquired) in
          rw one (steps_back c.new-links.result c.join.new.links same (search rules) (acquires c.in-Some.object ∷ []) steps);
      words = search rules;
      refused = search rules;
      why = search rules;
      is_status = search rules;
    }
