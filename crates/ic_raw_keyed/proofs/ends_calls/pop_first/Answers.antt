use Rattle.std.proofs.Common.{◌≡◌, Some, None, [], refl, sym, ◌∙◌, rules}
use Rattle.ic_link_ops.specs.declared.side.Side.TheVariants.{Left}
use Rattle.ic_link_ops.proofs.Prelude.{none_not, some_same, is_end_no, is_end_yes}
use Rattle.ic_raw.specs.Words.{place_of}
use Rattle.ic_raw_keyed.specs.Ends.{end_in}
use Rattle.ic_raw_keyed.proofs.ends_calls.pop_first.Goals as goal

-- if the word of the first member names none, no member is removed
pub returns-in_default : goal.returns-in_default
returns-in_default c =
    let none : end_in Left c.args.ends.now ≡ None = sym c.end.ensures ∙ c.in_default.is in record {
      taken = λ s p few shown says. absurd (none_not p (sym none ∙ says Left));
      removed = search rules;
      handed = search rules;
      null = (λ _. none, λ _. refl);
      refused = search rules;
      why = search rules;
      is_status = search rules;
    }

-- the number of the first member names another place, which does not occur if the index of the member is below 4,294,967,295
pub returns-then-not-is_at : goal.returns-then-not-is_at
returns-then-not-is_at c =
    let one : end_in Left c.args.ends.now ≡ Some c.in-Some.member = sym c.end.ensures ∙ c.in-Some.is in record {
      taken = λ s p few shown says.
          let same : c.in-Some.member ≡ p = some_same (sym one ∙ says Left) in
          absurd (is_end_no _ c.in-Some.member (sym c.is_at.ensures ∙ c.if-not-is_at.true) (c.place_of.ensures ∙ c.number_of-number.ensures (rw same few)));
      removed = search rules;
      handed = search rules;
      null = (λ no. search rules, λ none. absurd (none_not c.in-Some.member (sym none ∙ one)));
      refused = search rules;
      why = search rules;
      is_status = search rules;
    }

pub returns-then-remove-ne-OK : goal.returns-then-remove-ne-OK
returns-then-remove-ne-OK c =
    let one : end_in Left c.args.ends.now ≡ Some c.in-Some.member = sym c.end.ensures ∙ c.in-Some.is in record {
      taken = λ s p few shown says.
          let same : c.in-Some.member ≡ p = some_same (sym one ∙ says Left) in
          let named : place_of c.number_of-number.result ≡ Some p = sym c.place_of.ensures ∙ is_end_yes _ c.in-Some.member (sym c.is_at.ensures ∙ c.if-not-is_at.false) ∙ sym one ∙ says Left in
          absurd (c.if-remove-ne-OK.true (c.remove.ensures.call.removed [] s p named shown).accepted);
      removed = search rules;
      handed = search rules;
      null = (λ no. search rules, λ none. absurd (none_not c.in-Some.member (sym none ∙ one)));
      refused = λ off. let same = c.remove.ensures.call.refused c.if-remove-ne-OK.true in (same.0, same.1, c.remove.ensures.refused c.if-remove-ne-OK.true, refl);
      why = search rules;
      is_status = search rules;
    }

pub returns : goal.returns
returns c =
    let one : end_in Left c.args.ends.now ≡ Some c.in-Some.member = sym c.end.ensures ∙ c.in-Some.is in
    let named : place_of c.number_of-number.result ≡ Some c.in-Some.member =
    sym c.place_of.ensures ∙ is_end_yes _ c.in-Some.member (sym c.is_at.ensures ∙ c.if-not-is_at.false) in record {
      taken = λ s p few shown says. record { accepted = refl; done = c.remove.ensures.ends_kept [] s p (named ∙ sym one ∙ says Left) shown says };
      removed = λ made. rw (one, ← named, ← c.if-remove-ne-OK.false) c.remove.ensures;
      handed = λ p at made. rw (some_same (sym at ∙ one)) c.number_of-number.ensures;
      null = (λ no. search rules, λ none. absurd (none_not c.in-Some.member (sym none ∙ one)));
      refused = search rules;
      why = search rules;
      is_status = search rules;
    }
