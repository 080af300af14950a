use Rattle.std.proofs.Common.{◌≡◌, refl, sym, subst, ◌∙◌, rules}
use Rattle.ic_link_ops.proofs.SequenceLemmas.{some_same, none_not, last_of_push}
use Rattle.ic_raw.specs.Words.{HasNumber}
use Rattle.ic_raw.proofs.Gaps.{never}
use Rattle.ic_raw.proofs.xor_calls.pop_back.Goals as goal

pub returns-in_default : goal.returns-in_default
returns-in_default c = record {
  taken = λ s back p is shown'.
      let shown = rw is at shown' in
      absurd (none_not p (sym c.in_default.is ∙ c.place_in.ensures ∙ shown.tail ∙ last_of_push s p));
  handed = search rules;
  null = search rules;
  stands = search rules;
  links_back = search rules;
  touched = search rules;
  own = search rules;
  words = search rules;
  refused = search rules;
  why = search rules;
  is_status = search rules;
}

pub returns-then-not-take_last : goal.returns-then-not-take_last
returns-then-not-take_last c = record {
  taken = λ s back p is shown'.
      let shown = rw is at shown' in
      let one : p ≡ c.in-Some.member = some_same (sym (c.place_in.ensures ∙ shown.tail ∙ last_of_push s p) ∙ c.in-Some.is) in
      absurd (never c.if-not-take_last.true (c.take_last.ensures.removed s (rw one at shown)).0);
  handed = search rules;
  null = search rules;
  stands = search rules;
  links_back = search rules;
  touched = search rules;
  own = search rules;
  words = search rules;
  refused = search rules;
  why = search rules;
  is_status = search rules;
}

pub returns : goal.returns
returns c = record {
  taken = λ s back p is shown'.
      let shown = rw is at shown' in
      let one : p ≡ c.in-Some.member = some_same (sym (c.place_in.ensures ∙ shown.tail ∙ last_of_push s p) ∙ c.in-Some.is) in
      let same = rw one at shown in
      let removed = ((c.take_last.ensures.removed s same).1 same).done in
      rw is (rw one (record { accepted = refl; done = (removed.0, removed.1, c.number_of.ensures) }));
  handed = λ p is made.
      subst (λ q. HasNumber q c.number_of.result) (some_same (sym c.in-Some.is ∙ c.place_in.ensures ∙ is)) c.number_of.ensures;
  null = search rules;
  stands = search rules;
  links_back = search rules;
  touched = search rules;
  own = search rules;
  words = search rules;
  refused = search rules;
  why = search rules;
  is_status = search rules;
}
