use Rattle.std.proofs.Common.{◌≡◌, Option, refl, ◌∙◌, subst}
use Rattle.ic_unsafe_ref.specs.declared.place.Place.{Place}
use Rattle.ic_rbtree.specs.Kept.{end_with}
use Rattle.ic_raw.specs.Tree.{table_of}
use Rattle.ic_raw.specs.Words.{place_of}
use Rattle.ic_raw_keyed.specs.Ends.{end_in}
use Rattle.ic_raw_keyed.proofs.TreeEnds.{end_comes, insert_pos_below}
use Rattle.ic_raw_keyed.proofs.ends_calls.insert_at.Goals as goal

pub returns-then-status-ne-OK : goal.returns-then-status-ne-OK
returns-then-status-ne-OK c = record {
  call = c.insert_at-status.ensures;
  ends_kept = λ cut p at is shown free says. absurd (c.if-status-ne-OK.true (c.insert_at-status.ensures.inserted cut p at is shown free).accepted);
  own = λ p is made. absurd (c.if-status-ne-OK.true made);
  words = λ made. absurd (c.if-status-ne-OK.true made);
  refused = λ off. refl;
}

pub returns : goal.returns
returns c = record {
  call = c.insert_at-status.ensures;
  ends_kept = λ cut p at is shown free says d.
      subst (λ (o : Option Place). end_in d c.with.result ≡ end_with d o c.args.side p (end_in d c.args.ends.now)) c.place_of.ensures
      (c.with.ensures.own p (c.place_of-2.ensures ∙ is) d)
      ∙ end_comes d (place_of c.args.at) c.args.side cut p (insert_pos_below (table_of c.args.table.now) c.args.side (place_of c.args.at) cut at) shown.held.distinct (says d);
  own = λ p is made d.
      subst (λ (o : Option Place). end_in d c.with.result ≡ end_with d o c.args.side p (end_in d c.args.ends.now)) c.place_of.ensures
      (c.with.ensures.own p (c.place_of-2.ensures ∙ is) d);
  words = λ made. c.with.ensures.words;
  refused = λ off. absurd (off c.if-status-ne-OK.false);
}
