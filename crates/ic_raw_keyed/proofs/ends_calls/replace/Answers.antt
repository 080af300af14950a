use Rattle.std.proofs.Common.{◌≡◌, refl, sym, ◌∙◌, subst}
use Rattle.ic_unsafe_ref.specs.declared.place.Place.{Place}
use Rattle.ic_link_ops.proofs.SequenceLemmas.{some_same}
use Rattle.ic_rbtree.specs.Kept.{end_for}
use Rattle.ic_raw_keyed.specs.Ends.{end_in}
use Rattle.ic_raw_keyed.proofs.TreeEnds.{end_replaced}
use Rattle.ic_raw_keyed.proofs.ends_calls.replace.Goals as goal

pub returns-then-status-ne-OK : goal.returns-then-status-ne-OK
returns-then-status-ne-OK c = record {
  call = c.replace-status.ensures;
  ends_kept = λ front back out p at is shown free says. absurd (c.if-status-ne-OK.true (c.replace-status.ensures.replaced front back out p at is shown free).accepted);
  own = λ out p at is made. absurd (c.if-status-ne-OK.true made);
  words = λ made. absurd (c.if-status-ne-OK.true made);
  refused = λ off. refl;
}

pub returns : goal.returns
returns c = record {
  call = c.replace-status.ensures;
  ends_kept = λ front back out p at is shown free says d.
      let one : c.in-Some.member ≡ out = some_same (sym c.in-Some.is ∙ c.place_of.ensures ∙ at) in
      subst (λ (q : Place). end_in d c.replaced.result ≡ end_for q p (end_in d c.args.ends.now)) one (c.replaced.ensures.own p (c.place_of-2.ensures ∙ is) d)
      ∙ end_replaced d front back out p shown.held.distinct (says d);
  own = λ out p at is made d.
      let one : c.in-Some.member ≡ out = some_same (sym c.in-Some.is ∙ c.place_of.ensures ∙ at) in
      subst (λ (q : Place). end_in d c.replaced.result ≡ end_for q p (end_in d c.args.ends.now)) one (c.replaced.ensures.own p (c.place_of-2.ensures ∙ is) d);
  words = λ made. c.replaced.ensures.words;
  refused = λ off. absurd (off c.if-status-ne-OK.false);
}
