use Rattle.std.proofs.Common.{[], ◌∷◌, refl, sym, ap, ◌∙◌, rules}
use Rattle.ic_link_ops.specs.Sequences.{join}
use Rattle.ic_raw.specs.Singly.{Represents, lent_table}
use Rattle.ic_raw.specs.Words.{no_word}
use Rattle.ic_raw.proofs.Lists.{kept}
use Rattle.ic_raw.proofs.Singly.{gap_same}
use Rattle.ic_raw.proofs.Touches.{touched_back}
use Rattle.ic_raw.proofs.Views.{viewed, splits_back}
use Rattle.ic_raw.proofs.stack_calls.split_after.Goals as goal

pub returns : goal.returns
returns c = record {
  split = λ cut after nothing shown.
      let view = c.new-links.ensures.1 in
      let seen : Represents (lent_table c.new-links.result) c.stack_of-edited.result (join cut) = rw c.stack_of-edited.ensures (viewed no_word kept c.new-links.result view shown) in
      let parts = (c.split.ensures.split cut seen (c.place_of.ensures ∙ after)).1 in
      record { accepted = refl; done = splits_back no_word kept c.new-links.result c.split.new.links view (search rules) (search rules) (search rules) parts };
  accepted =
      let same = gap_same c.new-links.result c.new-links.ensures.1 c.stack_of-edited.ensures c.place_of.ensures in
      ((λ ok. (search rules, same.0 (c.split.ensures.accepted.0 c.if-not-split.false))), (λ links_back. refl));
  own = search rules;
  touched = λ made.
      touched_back no_word c.new-links.result c.split.new.links c.new-links.ensures.1 (search rules) (ap (λ at. at ∷ []) (sym c.place_of.ensures))
      (c.split.ensures.touched c.if-not-split.false);
  words = search rules;
  rest_words = search rules;
  refused = search rules;
  why = search rules;
  is_status = search rules;
}
