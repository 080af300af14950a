use Rattle.std.proofs.Common.{◌≡◌, [], refl, sym, subst, ◌∙◌, rules}
use Rattle.ic_link_ops.proofs.SequenceLemmas.{some_same}
use Rattle.ic_raw.specs.Words.{HasNumber}
use Rattle.ic_raw.proofs.Gaps.{never}
use Rattle.ic_raw.proofs.xor_calls.pop_front_slow.Goals as goal

pub returns-then-not-take : goal.returns-then-not-take
returns-then-not-take c = record {
  taken = λ front s p is shown'.
      let shown = rw is at shown' in
      let one : c.in-Some.member ≡ p = some_same (sym c.in-Some.is ∙ c.place_in.ensures ∙ shown.head) in
      absurd (never c.if-not-take.true (c.take.ensures.removed [] s refl (rw one shown)).0);
  handed = search rules;
  null = search rules;
  stands = search rules;
  links_back = search rules;
  touched = search rules;
  own = search rules;
  words = search rules;
  refused = search rules;
  why = search rules;
  is_status = search rules;
}

pub returns : goal.returns
returns c = record {
  taken = λ front s p is shown'.
      let shown = rw is at shown' in
      let one : p ≡ c.in-Some.member = some_same (sym (c.place_in.ensures ∙ shown.head) ∙ c.in-Some.is) in
      let same = rw one at shown in
      let removed = ((c.take.ensures.removed [] s refl same).1 same).done in
      rw is (rw one (record { accepted = refl; done = (removed.0, removed.1, c.number_of.ensures) }));
  handed = λ p is made.
      subst (λ q. HasNumber q c.number_of.result) (some_same (sym c.in-Some.is ∙ c.place_in.ensures ∙ is)) c.number_of.ensures;
  null = search rules;
  stands = search rules;
  links_back = search rules;
  touched = search rules;
  own = search rules;
  words = search rules;
  refused = search rules;
  why = search rules;
  is_status = search rules;
}
