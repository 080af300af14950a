use Rattle.std.proofs.Common.{◌≡◌, ◌∷◌, ◌++◌, append-nil, refl, sym, ap, subst, ◌∙◌, rules}
use Rattle.ic_link_ops.specs.Sequences.{at_back}
use Rattle.ic_link_ops.proofs.SequenceLemmas.{some_same, none_not}
use Rattle.ic_raw.specs.declared.gap.Gap.{Gap}
use Rattle.ic_raw.specs.Prelude.{before, no_word, is_linked_one, HasNumber}
use Rattle.ic_raw.specs.Singly.{Represents, lent_table}
use Rattle.ic_raw.proofs.Gaps.{never}
use Rattle.ic_raw.proofs.Views.{free_same, free_viewed, viewed, replaced_back, unlinked_back}
use Rattle.ic_raw.proofs.Lists.{kept}
use Rattle.ic_raw.proofs.Singly.{after_told, gap_viewed, member_same, member_told}
use Rattle.ic_raw.proofs.Own.{front_put}
use Rattle.ic_raw.proofs.Touches.{touched_back}
use Rattle.ic_raw.proofs.stack_calls.replace_after.Goals as goal

pub returns-in_default : goal.returns-in_default
returns-in_default c = record {
  replaced = λ front back out p after is shown free.
      let finds = gap_viewed c.new-links.result c.new-links.ensures.1 c.stack_of-edited.ensures c.place_of.ensures c.gap_after.ensures.shown in
      let gap = finds (before out front back) shown after in
      absurd (none_not _ (sym c.in_default.is ∙ gap));
  handed = search rules;
  nothing = λ s shown after.
      let finds = gap_viewed c.new-links.result c.new-links.ensures.1 c.stack_of-edited.ensures c.place_of.ensures c.gap_after.ensures.shown in
      let gap = finds (at_back s) (rw append-nil shown) after in
      absurd (none_not _ (sym c.in_default.is ∙ gap));
  null = search rules;
  accepted = (
    (λ ok. absurd (c.refusal.ensures.refused.0 ok)),
    (λ links_back. absurd (none_not _ (sym c.in_default.is ∙ c.gap_after.ensures.found ((member_same c.new-links.result c.new-links.ensures.1 c.stack_of-edited.ensures c.place_of.ensures).1 links_back.1).0))),
  );
  own = search rules;
  touched = search rules;
  words = search rules;
  refused = search rules;
  why = search rules;
  is_status = search rules;
}

pub returns-in_default-after : goal.returns-in_default-after
returns-in_default-after c = record {
  replaced = λ front back out p after is shown free.
      let finds = gap_viewed c.new-links.result c.new-links.ensures.1 c.stack_of-edited.ensures c.place_of.ensures c.gap_after.ensures.shown in
      let gap = finds (before out front back) shown after in
      absurd (none_not out (sym c.in_default-after.is ∙ ap (λ g. g.after) (some_same (sym c.in-Some.is ∙ gap))));
  handed = search rules;
  nothing = search rules;
  null = search rules;
  accepted = (
    (λ ok. cc),
    (λ links_back. absurd (((member_same c.new-links.result c.new-links.ensures.1 c.stack_of-edited.ensures c.place_of.ensures).1 links_back.1).1 (sym (ap (λ (g : Gap). g.after) (c.gap_after.ensures.is _ c.in-Some.is)) ∙ c.in_default-after.is))),
  );
  own = search rules;
  touched = search rules;
  words = search rules;
  refused = search rules;
  why = search rules;
  is_status = search rules;
}

pub returns-then-not-replace : goal.returns-then-not-replace
returns-then-not-replace c = record {
  replaced = λ front back out p after is shown free.
      let view = c.new-links.ensures.1 in
      let seen : Represents (lent_table c.new-links.result) c.stack_of-edited.result (front ++ out ∷ back) =
      rw c.stack_of-edited.ensures (viewed no_word kept c.new-links.result view shown) in
      let gap = some_same (sym c.in-Some.is ∙ c.gap_after.ensures.shown (before out front back) seen (c.place_of.ensures ∙ after)) in
      let one : out ≡ c.in-Some-after.member = some_same (sym (ap (λ g. g.after) gap) ∙ c.in-Some-after.is) in
      let put = c.replace.ensures.replaced front back p (rw one at seen) (ap (λ g. g.before) gap) (c.place_of-2.ensures ∙ is)
      (free_viewed no_word c.new-links.result view free) in
      absurd (never c.if-not-replace.true put.0);
  handed = search rules;
  nothing = λ s shown after.
      let finds = gap_viewed c.new-links.result c.new-links.ensures.1 c.stack_of-edited.ensures c.place_of.ensures c.gap_after.ensures.shown in
      let gap = finds (at_back s) (rw append-nil shown) after in
      absurd (none_not _ (sym (ap (λ g. g.after) (some_same (sym c.in-Some.is ∙ gap))) ∙ c.in-Some-after.is));
  null = search rules;
  accepted = (
    (λ ok. absurd (c.refusal-then-not-replace.ensures.refused.0 ok)),
    (λ links_back. absurd (never c.if-not-replace.true (c.replace.ensures.accepted.1 ((free_same no_word c.new-links.result c.new-links.ensures.1 c.place_of-2.ensures).1 links_back.0)))),
  );
  own = search rules;
  touched = search rules;
  words = search rules;
  refused = search rules;
  why = search rules;
  is_status = search rules;
}

pub returns : goal.returns
returns c = record {
  replaced = λ front back out p after is shown free.
      let view = c.new-links.ensures.1 in
      let seen : Represents (lent_table c.new-links.result) c.stack_of-edited.result (front ++ out ∷ back) =
      rw c.stack_of-edited.ensures (viewed no_word kept c.new-links.result view shown) in
      let gap = some_same (sym c.in-Some.is ∙ c.gap_after.ensures.shown (before out front back) seen (c.place_of.ensures ∙ after)) in
      let one : out ≡ c.in-Some-after.member = some_same (sym (ap (λ g. g.after) gap) ∙ c.in-Some-after.is) in
      let put = c.replace.ensures.replaced front back p (rw one at seen) (ap (λ g. g.before) gap) (c.place_of-2.ensures ∙ is)
      (free_viewed no_word c.new-links.result view free) in
      rw one (record {
        accepted = refl;
        done = (
          replaced_back no_word kept c.new-links.result c.replace.new.links view (search rules) (search rules) put.1,
          unlinked_back no_word is_linked_one c.replace.new.links _ (search rules) put.2,
          c.number_of.ensures,
        );
      });
  handed = λ p is made.
      let there = after_told c.new-links.result c.args.list.now c.new-links.ensures.1 c.stack_of-edited.ensures c.place_of.ensures (c.gap_after.ensures.is _ c.in-Some.is) c.in-Some-after.is in
      subst (λ q. HasNumber q c.number_of.result) (some_same (sym there ∙ is)) c.number_of.ensures;
  nothing = λ s shown after.
      let finds = gap_viewed c.new-links.result c.new-links.ensures.1 c.stack_of-edited.ensures c.place_of.ensures c.gap_after.ensures.shown in
      let gap = finds (at_back s) (rw append-nil shown) after in
      absurd (none_not _ (sym (ap (λ g. g.after) (some_same (sym c.in-Some.is ∙ gap))) ∙ c.in-Some-after.is));
  null = search rules;
  accepted = (
    (λ ok. (
      (free_same no_word c.new-links.result c.new-links.ensures.1 c.place_of-2.ensures).0 (c.replace.ensures.accepted.0 c.if-not-replace.false),
      (member_same c.new-links.result c.new-links.ensures.1 c.stack_of-edited.ensures c.place_of.ensures).0 (member_told (lent_table c.new-links.result) c.stack_of-edited.result (c.gap_after.ensures.links_back _ c.in-Some.is) (c.gap_after.ensures.is _ c.in-Some.is) c.in-Some-after.is),
    )),
    (λ links_back. refl),
  );
  own = λ made.
      let at = ap (λ g. g.before) (c.gap_after.ensures.is _ c.in-Some.is) ∙ c.place_of.ensures in
      front_put c.new-links.result c.args.list.now c.write_back.new.words c.new-links.ensures.1 c.stack_of-edited.ensures c.write_back.ensures.set at c.place_of-2.ensures (c.replace.ensures.own c.if-not-replace.false);
  touched = λ q p there is made.
      let view = c.new-links.ensures.1 in
      let following = after_told c.new-links.result c.args.list.now view c.stack_of-edited.ensures c.place_of.ensures (c.gap_after.ensures.is _ c.in-Some.is) c.in-Some-after.is in
      let at = ap (λ g. g.before) (c.gap_after.ensures.is _ c.in-Some.is) ∙ c.place_of.ensures in
      let one : q ≡ c.in-Some-after.member = some_same (sym there ∙ following) in
      rw (one, ← at) (touched_back no_word c.new-links.result c.replace.new.links view (search rules) refl
      (c.replace.ensures.touched p (c.place_of-2.ensures ∙ is) c.if-not-replace.false));
  words = search rules;
  refused = search rules;
  why = search rules;
  is_status = search rules;
}
