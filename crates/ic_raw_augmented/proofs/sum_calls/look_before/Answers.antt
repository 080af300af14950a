use Rattle.std.proofs.Common.{◌≡◌, true, refl, sym, ◌∙◌, subst}
use Rattle.ic_unsafe_ref.specs.declared.place.Place.{Place}
use Rattle.ic_link_ops.proofs.Prelude.{none_not, some_same, split_member, holds_linked}
use Rattle.ic_raw.specs.Tree.{lent_table}
use Rattle.ic_raw.specs.Words.{is_linked_three}
use Rattle.ic_raw.proofs.Gaps.{never}
use Rattle.ic_raw.proofs.Trees.{in_range, seen_represents}
use Rattle.ic_raw_augmented.specs.Ends.{EndsAbove}
use Rattle.ic_raw_augmented.proofs.sum_calls.look_before.Goals as goal

pub returns-then-not-is_searchable-clause-links_back : goal.returns-then-not-is_searchable-clause-links_back
returns-then-not-is_searchable-clause-links_back c root front back p at enough shown right =
    let one : p ≡ c.in-Some.member = some_same (sym at ∙ sym c.place_of.ensures ∙ c.in-Some.is) in
    absurd (never c.if-not-is_searchable.true (c.is_searchable.ensures.shown enough
    (λ q e. subst (λ (z : Place). is_linked_three ((lent_table c.args.links.now).entry z) ≡ true) (one ∙ some_same e) (holds_linked shown.held (split_member front p back)))
    (λ q e. absurd (none_not q e))))

pub returns-in_default-sum_before-clause-links_back : goal.returns-in_default-sum_before-clause-links_back
returns-in_default-sum_before-clause-links_back c root front back p at enough shown right =
    let one : p ≡ c.in-Some.member = some_same (sym at ∙ sym c.place_of.ensures ∙ c.in-Some.is) in
    let v = lent_table c.args.links.now in
    absurd (c.in_default-sum_before.not-Some _ (c.sum_before.ensures.made root front back (rw one at (seen_represents v (in_range c.args.links.now) shown)) (rw one at right)))

pub returns-clause-links_back : goal.returns-clause-links_back
returns-clause-links_back c root front back p at enough shown right =
    let one : p ≡ c.in-Some.member = some_same (sym at ∙ sym c.place_of.ensures ∙ c.in-Some.is) in
    let v = lent_table c.args.links.now in
    record {
      accepted = refl;
      done = some_same (sym c.in-Some-sum_before.is ∙ c.sum_before.ensures.made root front back (rw one at (seen_represents v (in_range c.args.links.now) shown)) (rw one at right));
    }

pub returns-clause-ended : goal.returns-clause-ended
returns-clause-ended c ok =
    subst (EndsAbove (lent_table c.args.links.now)) (sym c.in-Some.is ∙ c.place_of.ensures) (rw c.in-Some-sum_before.is at c.sum_before.ensures.ended)
