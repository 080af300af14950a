use Rattle.std.proofs.Common.{◌≡◌, Some, [], ◌∷◌, ◌++◌, refl, sym, subst, ◌∙◌, rules}
use Rattle.ic_link_ops.specs.Sequences.{IsDisjoint}
use Rattle.ic_link_ops.proofs.SequenceLemmas.{some_same}
use Rattle.ic_raw.specs.LinkWords.{lent_table, table_of}
use Rattle.ic_raw.specs.Ring.{IsCircle, MakesTwo, around, all_put_in}
use Rattle.ic_raw.proofs.Rings.{circle_viewed, makes_two_back, linked_back, amid_back, touched_words, beside_back}
use Rattle.ic_raw.proofs.LinkViews.{link_words}
use Rattle.ic_raw.proofs.ring_calls.splice.Goals as goal

pub returns : goal.returns
returns g c =
    let words = link_words g.W.Words g.W.NextWord g.W.PrevPlace in
    let view = c.new-links.ensures.1 in
    let links = c.new-links.result in
    let beside = c.in-Some.beside in
    let given = c.in-Some-place_of.given in
    record {
      spliced = λ h g r s is_at is_given ring circle away.
          let to : beside ≡ h = some_same (sym c.in-Some.is ∙ c.place_of.ensures ∙ is_at) in
          let from : given ≡ g = some_same (sym c.in-Some-place_of.is ∙ c.place_of-2.ensures ∙ is_given) in
          let there : IsCircle words (lent_table words links) (beside ∷ r) = rw to (circle_viewed words links view ring) in
          let here : IsCircle words (lent_table words links) (given ∷ s) = rw from (circle_viewed words links view circle) in
          let far = subst (λ z. IsDisjoint (z ∷ r) (given ∷ s)) (sym to) (subst (λ z. IsDisjoint (h ∷ r) (z ∷ s)) (sym from) away) in
          let got = (c.splice.ensures.spliced r s there here far).1 in
          let named : MakesTwo words (lent_table words links) (lent_table words c.splice.new.links) (h ∷ r ++ g ∷ s) (all_put_in c.args.side h r s) (g ∷ []) = rw (to, from) at got in
          record { accepted = refl; done = makes_two_back words links c.splice.new.links view (search rules) named };
      links_back = λ g is ok.
          let from : given ≡ g = some_same (sym c.in-Some-place_of.is ∙ c.place_of-2.ensures ∙ is) in
          rw from at (amid_back words links view (c.splice.ensures.before c.if-not-splice.false) (c.splice.ensures.after c.if-not-splice.false));
      linked = λ h is ok.
          let to : beside ≡ h = some_same (sym c.in-Some.is ∙ c.place_of.ensures ∙ is) in
          rw to at (linked_back words links beside view (c.splice.ensures.linked c.if-not-splice.false));
      other = λ h g is_at is_given ok e.
          let to : beside ≡ h = some_same (sym c.in-Some.is ∙ c.place_of.ensures ∙ is_at) in
          let from : given ≡ g = some_same (sym c.in-Some-place_of.is ∙ c.place_of-2.ensures ∙ is_given) in
          c.splice.ensures.other c.if-not-splice.false (to ∙ e ∙ sym from);
      touched = λ h g is_at is_given ok.
          let to : beside ≡ h = some_same (sym c.in-Some.is ∙ c.place_of.ensures ∙ is_at) in
          let from : given ≡ g = some_same (sym c.in-Some-place_of.is ∙ c.place_of-2.ensures ∙ is_given) in
          let named = rw (from, to) at (c.splice.ensures.touched c.if-not-splice.false) in
          touched_words words links c.splice.new.links view (search rules)
          (λ k. Some g ∷ around words (table_of words (sym view k)) g ++ Some h ∷ beside_back words c.args.side links h view k ∷ []) named;
      null = search rules;
      refused = search rules;
      why = search rules;
      is_status = search rules;
    }
