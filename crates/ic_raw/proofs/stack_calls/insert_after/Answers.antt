use Rattle.std.proofs.Common.{Some, [], ◌∷◌, refl, sym, ap, ◌∙◌, rules}
use Rattle.ic_link_ops.specs.Sequences.{join}
use Rattle.ic_raw.specs.Words.{no_word}
use Rattle.ic_raw.specs.Singly.{Represents, lent_table}
use Rattle.ic_raw.proofs.Gaps.{accepts, both, never, refuses}
use Rattle.ic_raw.proofs.Lists.{kept}
use Rattle.ic_raw.proofs.Singly.{gap_same}
use Rattle.ic_raw.proofs.Touches.{touched_back}
use Rattle.ic_raw.proofs.Views.{viewed, free_same, free_viewed, inserted_back}
use Rattle.ic_raw.proofs.stack_calls.insert_after.Goals as goal

pub returns-then-not-insert : goal.returns-then-not-insert
returns-then-not-insert c = record {
  inserted = λ cut p after is shown free.
      let view = c.new-links.ensures.1 in
      let seen : Represents (lent_table c.new-links.result) c.stack_of-edited.result (join cut) = rw c.stack_of-edited.ensures (viewed no_word kept c.new-links.result view shown) in
      absurd (never c.if-not-insert.true (c.insert.ensures.inserted cut p seen (c.place_of.ensures ∙ after) (c.place_of-2.ensures ∙ is) (free_viewed no_word c.new-links.result view free)).0);
  accepted = refuses c.insert.ensures.accepted (both (free_same no_word c.new-links.result c.new-links.ensures.1 c.place_of-2.ensures) (gap_same c.new-links.result c.new-links.ensures.1 c.stack_of-edited.ensures c.place_of.ensures)) c.if-not-insert.true c.refusal.ensures.refused.0;
  own = search rules;
  touched = search rules;
  words = search rules;
  refused = search rules;
  why = search rules;
  is_status = search rules;
}

pub returns : goal.returns
returns c = record {
  inserted = λ cut p after is shown free.
      let view = c.new-links.ensures.1 in
      let seen : Represents (lent_table c.new-links.result) c.stack_of-edited.result (join cut) = rw c.stack_of-edited.ensures (viewed no_word kept c.new-links.result view shown) in
      let put = c.insert.ensures.inserted cut p seen (c.place_of.ensures ∙ after) (c.place_of-2.ensures ∙ is) (free_viewed no_word c.new-links.result view free) in
      record { accepted = refl; done = inserted_back no_word kept c.new-links.result c.insert.new.links view (search rules) (search rules) put.1 };
  accepted = accepts c.insert.ensures.accepted (both (free_same no_word c.new-links.result c.new-links.ensures.1 c.place_of-2.ensures) (gap_same c.new-links.result c.new-links.ensures.1 c.stack_of-edited.ensures c.place_of.ensures)) c.if-not-insert.false refl;
  own = search rules;
  touched = λ p is made.
      touched_back no_word c.new-links.result c.insert.new.links c.new-links.ensures.1 (search rules) (ap (λ at. Some p ∷ at ∷ []) (sym c.place_of.ensures))
      (c.insert.ensures.touched p (c.place_of-2.ensures ∙ is) c.if-not-insert.false);
  words = search rules;
  refused = search rules;
  why = search rules;
  is_status = search rules;
}
