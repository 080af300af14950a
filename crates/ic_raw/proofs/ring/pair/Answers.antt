use Rattle.std.proofs.Common.{◌≡◌, Some, sym, subst, ◌∙◌, eq-eqb}
use Rattle.ic_unsafe_ref.specs.declared.place.Place.{Place}
use Rattle.ic_link_ops.proofs.SequenceLemmas.{some_same}
use Rattle.ic_raw.specs.LinkWords.{lent_table}
use Rattle.ic_raw.specs.Ring.{AreLinked}
use Rattle.ic_raw.proofs.Entries.{same_word}
use Rattle.ic_raw.proofs.LinkViews.{link_words}
use Rattle.ic_raw.proofs.ring.pair.Goals as goal

pub returns-clause-links_back : goal.returns-clause-links_back
returns-clause-links_back g c x is =
    let words = link_words g.W.Words g.W.NextWord g.W.PrevPlace in
    let links_back : AreLinked words (lent_table words c.args.links.now) c.in_ok-before.before c.in_ok-after.after = record {
      linked = sym c.is_linked.ensures ∙ c.if-not-is_linked.false;
      next = sym c.next.ensures ∙ same_word _ _ c.to_word.ensures.value c.to_word-2.ensures.value (eq-eqb _ _ c.if-to_word.false);
      stands = sym c.is_linked-2.ensures ∙ c.if-not-is_linked-2.false;
      prev = sym c.prev.ensures ∙ same_word _ _ c.to_word-3.ensures.value c.to_word-4.ensures.value (eq-eqb _ _ c.if-to_word-2.false);
    } in
    subst (λ (z : Place × Place). AreLinked words (lent_table words c.args.links.now) z.0 z.1 × (c.args.before ≡ Some z.0) × (c.args.after ≡ Some z.1)) (some_same is)
    (links_back, c.in_ok-before.was, c.in_ok-after.was)
