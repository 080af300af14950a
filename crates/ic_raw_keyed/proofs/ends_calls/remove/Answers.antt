use Rattle.std.proofs.Common.{◌≡◌, List, Option, refl, sym, ◌∙◌, subst, rules}
use Rattle.ic_unsafe_ref.specs.declared.place.Place.{Place}
use Rattle.ic_link_ops.proofs.SequenceLemmas.{some_same}
use Rattle.ic_rbtree.specs.Closed.{IsIn}
use Rattle.ic_raw.specs.declared.words.RawThree.{RawThree}
use Rattle.ic_raw.specs.Prelude.{has_place, place_of}
use Rattle.ic_raw.specs.Tree.{IsNoneOrLinkedIn, root_in, table_of}
use Rattle.ic_raw.specs.TreeCalls as trees
use Rattle.ic_raw_keyed.proofs.TreeEnds.{stands_in}
use Rattle.ic_raw_keyed.proofs.ends_calls.remove.Goals as goal

pub returns-in_default-ends_without : goal.returns-in_default-ends_without
returns-in_default-ends_without c = record {
  call = record {
    removed = λ front back p at shown.
        let one : p ≡ c.in-Some.member = some_same (sym at ∙ sym c.place_of.ensures ∙ c.in-Some.is) in
        absurd (c.ends_without.ensures.accepted front back (rw one at shown) c.in_default-ends_without.is);
    null = search rules;
    stands = search rules;
    root = search rules;
    own = search rules;
    unlinked = search rules;
    in_closed_set = search rules;
    words = search rules;
    refused = search rules;
    why = search rules;
    is_status = search rules;
  };
  ends_kept = λ front back p at shown says.
      let one : p ≡ c.in-Some.member = some_same (sym at ∙ sym c.place_of.ensures ∙ c.in-Some.is) in
      absurd (c.ends_without.ensures.accepted front back (rw one at shown) c.in_default-ends_without.is);
  own = λ p at made. absurd (c.refusal_of.ensures.refused.0 made);
  words = λ made. absurd (c.refusal_of.ensures.refused.0 made);
  refused = λ off. refl;
}

pub returns-then-status-ne-OK : goal.returns-then-status-ne-OK
returns-then-status-ne-OK c = record {
  call = subst (λ (es : List RawThree). trees.RemoveCall es c.remove-status.new.table c.args.tree.now c.remove-status.new.tree c.remove-status.result (place_of c.args.at))
      c.ends_without.ensures.same c.remove-status.ensures;
  ends_kept = λ front back p at shown says.
      absurd (c.if-status-ne-OK.true (c.remove-status.ensures.removed front back p at (rw c.ends_without.ensures.same shown)).accepted);
  own = λ p at made. absurd (c.if-status-ne-OK.true made);
  words = λ made. absurd (c.if-status-ne-OK.true made);
  refused = λ off. refl;
}

pub returns : goal.returns
returns c = record {
  call = subst (λ (es : List RawThree). trees.RemoveCall es c.remove-status.new.table c.args.tree.now c.remove-status.new.tree c.remove-status.result (place_of c.args.at))
      c.ends_without.ensures.same c.remove-status.ensures;
  ends_kept = λ front back p at shown says.
      let one : p ≡ c.in-Some.member = some_same (sym at ∙ sym c.place_of.ensures ∙ c.in-Some.is) in
      c.ends_without.ensures.shown front back c.in-Some-ends_without.after (rw one at shown) (rw one at says) c.in-Some-ends_without.is;
  own = λ p at made d.
      let one : p ≡ c.in-Some.member = some_same (sym at ∙ sym c.place_of.ensures ∙ c.in-Some.is) in
      let same = c.ends_without.ensures.same in
      let stands = subst (λ (es : List RawThree). IsNoneOrLinkedIn es (place_of c.args.at)) same (c.remove-status.ensures.stands c.if-status-ne-OK.false) in
      let root = subst (λ (es : List RawThree). IsNoneOrLinkedIn es (root_in c.args.tree.now)) same (c.remove-status.ensures.root c.if-status-ne-OK.false) in
      let there = subst (λ (o : Option Place). IsIn (has_place (table_of c.args.table.now)) o) (sym c.place_of.ensures ∙ c.in-Some.is)
      (stands_in c.args.table.now (place_of c.args.at) stands) in
      rw one (c.ends_without.ensures.own c.in-Some-ends_without.after c.in-Some-ends_without.is (there, (stands_in c.args.table.now (root_in c.args.tree.now) root, tt)) d);
  words = λ made. c.ends_without.ensures.words c.in-Some-ends_without.after c.in-Some-ends_without.is;
  refused = λ off. absurd (off c.if-status-ne-OK.false);
}
