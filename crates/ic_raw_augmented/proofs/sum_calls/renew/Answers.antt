use Rattle.std.proofs.Common.{◌≡◌, ◌≤◌, false, length, Option, Some, List, refl, sym, ◌∙◌, subst, rules}
use Rattle.ic_unsafe_ref.specs.declared.place.Place.{Place}
use Rattle.ic_link_ops.proofs.SequenceLemmas.{none_not, some_same}
use Rattle.ic_raw.specs.Prelude.{IsNoneOrLinked, is_linked_three, no_tree_words, place_of}
use Rattle.ic_raw.specs.Tree.{lent_table}
use Rattle.ic_raw.specs.declared.words.RawThree.{RawThree}
use Rattle.ic_raw.proofs.Gaps.{never}
use Rattle.ic_raw.proofs.Trees.{in_range, kept, seen_represents}
use Rattle.ic_raw.proofs.Views.{viewed}
use Rattle.ic_raw_augmented.proofs.Recomputing.{also_off}
use Rattle.ic_raw_augmented.specs.Sums.{is_there}
use Rattle.ic_raw_augmented.proofs.Viewed.{beside_back, but_viewed, stands_viewed, summed_back}
use Rattle.ic_raw_augmented.proofs.sum_calls.renew.Goals as goal

pub returns-in_default : goal.returns-in_default
returns-in_default c = record {
  recomputed = λ root s enough stands shown right.
      let links = c.new-links.result in
      let view = c.new-links.ensures.1 in
      record {
        accepted = refl;
        done = summed_back c.args.kind links c.recompute_all.new.sums s view (c.recompute_all.ensures.right root s (seen_represents (lent_table links) (in_range links) (viewed no_tree_words kept links view shown)));
      };
  opened = λ enough stands. refl;
  values = c.recompute_all.ensures.kept;
  beside = λ p at. absurd (none_not p (sym c.in_default.is ∙ (c.place_of-from.ensures ∙ at)));
  refused = search rules;
  same = search rules;
  looked = search rules;
  why = search rules;
  is_status = search rules;
}

pub returns : goal.returns
returns c = record {
  recomputed = λ root s enough stands shown right.
      let links = c.new-links.result in
      let view = c.new-links.ensures.1 in
      let t = lent_table links in
      let there = but_viewed c.args.kind links c.args.sums.now s (is_there (place_of c.args.at)) view right in
      let named : place_of c.args.at ≡ Some c.in-Some.member = sym c.place_of-from.ensures ∙ c.in-Some.is in
      record {
        accepted = refl;
        done = summed_back c.args.kind links c.recompute_up.new.sums s view (λ q m.
            c.recompute_up.ensures.right root s (λ z. false) (seen_represents t (in_range links) (viewed no_tree_words kept links view shown))
            (λ z n off. there z n (rw named (also_off (Some c.in-Some.member) (λ y. false) z off).0)) q m refl);
      };
  opened = λ enough stands. refl;
  values = c.recompute_up.ensures.kept;
  beside = λ p at.
      let one : p ≡ c.in-Some.member = some_same (sym at ∙ (sym c.place_of-from.ensures ∙ c.in-Some.is)) in
      rw one (beside_back c.new-links.result c.args.sums.now c.recompute_up.new.sums c.in-Some.member c.new-links.ensures.1 c.recompute_up.ensures.beside);
  refused = search rules;
  same = search rules;
  looked = search rules;
  why = search rules;
  is_status = search rules;
}

pub returns-then-not-is_searchable : goal.returns-then-not-is_searchable
returns-then-not-is_searchable c = record {
  recomputed = λ root s enough stands shown right.
      absurd (never c.if-not-is_searchable.true (c.is_searchable.ensures.shown
      (subst (λ (es : List RawThree). length es ≤ length c.args.sums.now) (sym c.new-links.ensures.1) enough)
      (subst (λ (o : Option Place). IsNoneOrLinked is_linked_three (lent_table c.new-links.result) o) (sym c.place_of-from.ensures) (stands_viewed c.new-links.result (place_of c.args.at) c.new-links.ensures.1 stands)) (λ q e. absurd (none_not q e))));
  opened = λ enough stands.
      absurd (never c.if-not-is_searchable.true (c.is_searchable.ensures.shown
      (subst (λ (es : List RawThree). length es ≤ length c.args.sums.now) (sym c.new-links.ensures.1) enough)
      (subst (λ (o : Option Place). IsNoneOrLinked is_linked_three (lent_table c.new-links.result) o) (sym c.place_of-from.ensures) (stands_viewed c.new-links.result (place_of c.args.at) c.new-links.ensures.1 stands)) (λ q e. absurd (none_not q e))));
  values = record { count = refl; values = λ q. refl };
  beside = λ p at S closed here q off. refl;
  refused = search rules;
  same = search rules;
  looked = search rules;
  why = search rules;
  is_status = search rules;
}
