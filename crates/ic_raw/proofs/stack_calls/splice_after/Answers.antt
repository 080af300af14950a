use Rattle.std.proofs.Common.{[], ◌∷◌, refl, sym, ap, ◌∙◌, rules}
use Rattle.ic_link_ops.specs.Prelude.{join, last, Front}
use Rattle.ic_raw.specs.Singly.{Represents, lent_table}
use Rattle.ic_raw.specs.Words.{no_word}
use Rattle.ic_raw.proofs.Gaps.{accepts, apart_same, never, refuses, three}
use Rattle.ic_raw.proofs.Lists.{kept}
use Rattle.ic_raw.proofs.Singly.{gap_same, some_represented}
use Rattle.ic_raw.proofs.Touches.{touched_back}
use Rattle.ic_raw.proofs.Views.{viewed, spliced_back}
use Rattle.ic_raw.proofs.stack_calls.splice_after.Goals as goal

pub returns-then-not-splice : goal.returns-then-not-splice
returns-then-not-splice c = record {
  spliced = λ cut t after shown given apart.
      let view = c.new-links.ensures.1 in
      let seen : Represents (lent_table c.new-links.result) c.stack_of-edited.result (join cut) = rw c.stack_of-edited.ensures (viewed no_word kept c.new-links.result view shown) in
      let other : Represents (lent_table c.new-links.result) c.stack_of-other.result t = rw c.stack_of-other.ensures (viewed no_word kept c.new-links.result view given) in
      absurd (never c.if-not-splice.true (c.splice.ensures.spliced cut t seen (c.place_of.ensures ∙ after) other apart).0);
  emptied = search rules;
  accepted = refuses c.splice.ensures.accepted (three (gap_same c.new-links.result c.new-links.ensures.1 c.stack_of-edited.ensures c.place_of.ensures)
      (apart_same (ap (λ (l : Front). l.head) c.stack_of-edited.ensures) (ap (λ (l : Front). l.head) c.stack_of-other.ensures))
      (some_represented c.new-links.result c.new-links.ensures.1 c.stack_of-other.ensures))
      c.if-not-splice.true c.refusal_at.ensures.refused.0;
  own = search rules;
  nothing = search rules;
  touched = search rules;
  words = search rules;
  refused = search rules;
  why = search rules;
  is_status = search rules;
}

pub returns : goal.returns
returns c = record {
  spliced = λ cut t after shown given apart.
      let view = c.new-links.ensures.1 in
      let seen : Represents (lent_table c.new-links.result) c.stack_of-edited.result (join cut) = rw c.stack_of-edited.ensures (viewed no_word kept c.new-links.result view shown) in
      let other : Represents (lent_table c.new-links.result) c.stack_of-other.result t = rw c.stack_of-other.ensures (viewed no_word kept c.new-links.result view given) in
      let put = c.splice.ensures.spliced cut t seen (c.place_of.ensures ∙ after) other apart in
      record { accepted = refl; done = spliced_back no_word kept c.new-links.result c.splice.new.links view (search rules) (search rules) put.1 };
  emptied = search rules;
  accepted = accepts c.splice.ensures.accepted (three (gap_same c.new-links.result c.new-links.ensures.1 c.stack_of-edited.ensures c.place_of.ensures)
      (apart_same (ap (λ (l : Front). l.head) c.stack_of-edited.ensures) (ap (λ (l : Front). l.head) c.stack_of-other.ensures))
      (some_represented c.new-links.result c.new-links.ensures.1 c.stack_of-other.ensures))
      c.if-not-splice.false refl;
  own = search rules;
  nothing = search rules;
  touched = λ t given made.
      let view = c.new-links.ensures.1 in
      let other : Represents (lent_table c.new-links.result) c.stack_of-other.result t = rw c.stack_of-other.ensures (viewed no_word kept c.new-links.result view given) in
      touched_back no_word c.new-links.result c.splice.new.links view (search rules) (ap (λ at. at ∷ last t ∷ []) (sym c.place_of.ensures))
      (c.splice.ensures.touched t other c.if-not-splice.false);
  words = search rules;
  refused = search rules;
  why = search rules;
  is_status = search rules;
}
