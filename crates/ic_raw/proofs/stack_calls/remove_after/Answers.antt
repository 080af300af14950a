use Rattle.std.proofs.Common.{◌≡◌, ◌∷◌, ◌++◌, append-nil, refl, sym, ap, subst, ◌∙◌, rules}
use Rattle.ic_link_ops.specs.Sequences.{at_back}
use Rattle.ic_link_ops.proofs.SequenceLemmas.{some_same, none_not}
use Rattle.ic_raw.specs.declared.gap.Gap.{Gap}
use Rattle.ic_raw.specs.Prelude.{before, no_word, is_linked_one, HasNumber}
use Rattle.ic_raw.specs.Singly.{Represents, lent_table}
use Rattle.ic_raw.proofs.Views.{viewed, removed_back, unlinked_back}
use Rattle.ic_raw.proofs.Lists.{kept}
use Rattle.ic_raw.proofs.Singly.{after_told, gap_viewed, member_same, member_told}
use Rattle.ic_raw.proofs.Own.{front_left}
use Rattle.ic_raw.proofs.Touches.{touched_back}
use Rattle.ic_raw.proofs.stack_calls.remove_after.Goals as goal

pub returns-in_default : goal.returns-in_default
returns-in_default c = record {
  taken = λ front back p after shown.
      let finds = gap_viewed c.new-links.result c.new-links.ensures.1 c.stack_of-edited.ensures c.place_of.ensures c.gap_after.ensures.shown in
      let gap = finds (before p front back) shown after in
      absurd (none_not _ (sym c.in_default.is ∙ gap));
  handed = search rules;
  nothing = λ s shown after.
      let finds = gap_viewed c.new-links.result c.new-links.ensures.1 c.stack_of-edited.ensures c.place_of.ensures c.gap_after.ensures.shown in
      let gap = finds (at_back s) (rw append-nil shown) after in
      absurd (none_not _ (sym c.in_default.is ∙ gap));
  null = search rules;
  accepted = (
    (λ ok. absurd (c.refusal_at.ensures.refused.0 ok)),
    (λ links_back. absurd (none_not _ (sym c.in_default.is ∙ c.gap_after.ensures.found ((member_same c.new-links.result c.new-links.ensures.1 c.stack_of-edited.ensures c.place_of.ensures).1 links_back).0))),
  );
  own = search rules;
  touched = search rules;
  words = search rules;
  refused = search rules;
  why = search rules;
  is_status = search rules;
}

pub returns-in_default-after : goal.returns-in_default-after
returns-in_default-after c = record {
  taken = λ front back p after shown.
      let finds = gap_viewed c.new-links.result c.new-links.ensures.1 c.stack_of-edited.ensures c.place_of.ensures c.gap_after.ensures.shown in
      let gap = finds (before p front back) shown after in
      absurd (none_not p (sym c.in_default-after.is ∙ ap (λ g. g.after) (some_same (sym c.in-Some.is ∙ gap))));
  handed = search rules;
  nothing = search rules;
  null = search rules;
  accepted = (
    (λ ok. cc),
    (λ links_back. absurd (((member_same c.new-links.result c.new-links.ensures.1 c.stack_of-edited.ensures c.place_of.ensures).1 links_back).1 (sym (ap (λ (g : Gap). g.after) (c.gap_after.ensures.is _ c.in-Some.is)) ∙ c.in_default-after.is))),
  );
  own = search rules;
  touched = search rules;
  words = search rules;
  refused = search rules;
  why = search rules;
  is_status = search rules;
}

pub returns : goal.returns
returns c = record {
  taken = λ front back p after shown.
      let view = c.new-links.ensures.1 in
      let seen : Represents (lent_table c.new-links.result) c.stack_of-edited.result (front ++ p ∷ back) =
      rw c.stack_of-edited.ensures (viewed no_word kept c.new-links.result view shown) in
      let gap = some_same (sym c.in-Some.is ∙ c.gap_after.ensures.shown (before p front back) seen (c.place_of.ensures ∙ after)) in
      let one : p ≡ c.in-Some-after.member = some_same (sym (ap (λ g. g.after) gap) ∙ c.in-Some-after.is) in
      let off = c.remove.ensures.removed front back (rw one at seen) (ap (λ g. g.before) gap) in
      rw one (record {
        accepted = refl;
        done = (
          removed_back no_word kept c.new-links.result c.remove.new.links view (search rules) (search rules) off.0,
          unlinked_back no_word is_linked_one c.remove.new.links _ (search rules) off.1,
          c.number_of.ensures,
        );
      });
  handed = λ p is made.
      let there = after_told c.new-links.result c.args.list.now c.new-links.ensures.1 c.stack_of-edited.ensures c.place_of.ensures (c.gap_after.ensures.is _ c.in-Some.is) c.in-Some-after.is in
      subst (λ q. HasNumber q c.number_of.result) (some_same (sym there ∙ is)) c.number_of.ensures;
  nothing = λ s shown after.
      let finds = gap_viewed c.new-links.result c.new-links.ensures.1 c.stack_of-edited.ensures c.place_of.ensures c.gap_after.ensures.shown in
      let gap = finds (at_back s) (rw append-nil shown) after in
      absurd (none_not _ (sym (ap (λ g. g.after) (some_same (sym c.in-Some.is ∙ gap))) ∙ c.in-Some-after.is));
  null = search rules;
  accepted = (
    (λ ok. (member_same c.new-links.result c.new-links.ensures.1 c.stack_of-edited.ensures c.place_of.ensures).0 (member_told (lent_table c.new-links.result) c.stack_of-edited.result (c.gap_after.ensures.links_back _ c.in-Some.is) (c.gap_after.ensures.is _ c.in-Some.is) c.in-Some-after.is)),
    (λ links_back. refl),
  );
  own = λ made.
      let view = c.new-links.ensures.1 in
      let there = after_told c.new-links.result c.args.list.now view c.stack_of-edited.ensures c.place_of.ensures (c.gap_after.ensures.is _ c.in-Some.is) c.in-Some-after.is in
      let at = ap (λ g. g.before) (c.gap_after.ensures.is _ c.in-Some.is) ∙ c.place_of.ensures in
      front_left c.new-links.result c.args.list.now c.write_back.new.words view c.stack_of-edited.ensures c.write_back.ensures.set at there c.remove.ensures.own;
  touched = λ p is made.
      let view = c.new-links.ensures.1 in
      let there = after_told c.new-links.result c.args.list.now view c.stack_of-edited.ensures c.place_of.ensures (c.gap_after.ensures.is _ c.in-Some.is) c.in-Some-after.is in
      let at = ap (λ g. g.before) (c.gap_after.ensures.is _ c.in-Some.is) ∙ c.place_of.ensures in
      let one : p ≡ c.in-Some-after.member = some_same (sym is ∙ there) in
      rw (one, ← at) (touched_back no_word c.new-links.result c.remove.new.links view (search rules) refl c.remove.ensures.touched);
  words = search rules;
  refused = search rules;
  why = search rules;
  is_status = search rules;
}
