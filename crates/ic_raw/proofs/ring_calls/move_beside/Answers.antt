use Rattle.std.proofs.Common.{◌≡◌, Some, [], ◌∷◌, ◌++◌, refl, sym, subst, ◌∙◌, rules}
use Rattle.ic_link_ops.specs.Sequences.{IsDisjoint}
use Rattle.ic_link_ops.proofs.SequenceLemmas.{some_same}
use Rattle.ic_raw.specs.LinkWords.{lent_table, table_of}
use Rattle.ic_raw.specs.Ring.{IsCircle, Makes, MakesTwo, around, put_in}
use Rattle.ic_raw.proofs.Rings.{circle_viewed, makes_back, makes_two_back, linked_back, amid_back, same_back, touched_words, beside_back}
use Rattle.ic_raw.proofs.LinkViews.{link_words}
use Rattle.ic_raw.proofs.ring_calls.move_beside.Goals as goal

pub returns : goal.returns
returns g c =
    let words = link_words g.W.Words g.W.NextWord g.W.PrevPlace in
    let view = c.new-links.ensures.1 in
    let links = c.new-links.result in
    let beside = c.in-Some.beside in
    let member = c.in-Some-place_of.member in
    record {
      apart = λ h p r s is_at is_place circle ring away.
          let to : beside ≡ h = some_same (sym c.in-Some.is ∙ c.place_of.ensures ∙ is_at) in
          let place : member ≡ p = some_same (sym c.in-Some-place_of.is ∙ c.place_of-2.ensures ∙ is_place) in
          let here : IsCircle words (lent_table words links) (member ∷ r) = rw place (circle_viewed words links view circle) in
          let there : IsCircle words (lent_table words links) (beside ∷ s) = rw to (circle_viewed words links view ring) in
          let far = subst (λ z. IsDisjoint (z ∷ r) (beside ∷ s)) (sym place) (subst (λ z. IsDisjoint (p ∷ r) (z ∷ s)) (sym to) away) in
          let got = (c.move_beside.ensures.apart r s here there far).1 in
          let named : MakesTwo words (lent_table words links) (lent_table words c.move_beside.new.links) (p ∷ r ++ h ∷ s) r (put_in c.args.side h p s) = rw (place, to) at got in
          record { accepted = refl; done = makes_two_back words links c.move_beside.new.links view (search rules) named };
      in_circle = λ h p r s is_at is_place circle.
          let to : beside ≡ h = some_same (sym c.in-Some.is ∙ c.place_of.ensures ∙ is_at) in
          let place : member ≡ p = some_same (sym c.in-Some-place_of.is ∙ c.place_of-2.ensures ∙ is_place) in
          let here : IsCircle words (lent_table words links) (member ∷ r ++ beside ∷ s) = rw (place, to) (circle_viewed words links view circle) in
          let got = (c.move_beside.ensures.in_circle r s here).1 in
          let named : Makes words (lent_table words links) (lent_table words c.move_beside.new.links) (p ∷ r ++ h ∷ s) (put_in c.args.side h p (s ++ r)) = rw (place, to) at got in
          record { accepted = refl; done = makes_back words links c.move_beside.new.links view (search rules) named };
      itself = λ p r is_at is_place circle.
          let to : beside ≡ p = some_same (sym c.in-Some.is ∙ c.place_of.ensures ∙ is_at) in
          let place : member ≡ p = some_same (sym c.in-Some-place_of.is ∙ c.place_of-2.ensures ∙ is_place) in
          let here : IsCircle words (lent_table words links) (member ∷ r) = rw place (circle_viewed words links view circle) in
          let got = (c.move_beside.ensures.itself r (to ∙ sym place) here).1 in
          record { accepted = refl; done = same_back words links c.move_beside.new.links view (search rules) got };
      links_back = λ p is ok.
          let place : member ≡ p = some_same (sym c.in-Some-place_of.is ∙ c.place_of-2.ensures ∙ is) in
          rw place at (amid_back words links view (c.move_beside.ensures.before c.if-not-move_beside.false) (c.move_beside.ensures.after c.if-not-move_beside.false));
      linked = λ h is ok.
          let to : beside ≡ h = some_same (sym c.in-Some.is ∙ c.place_of.ensures ∙ is) in
          rw to at (linked_back words links beside view (c.move_beside.ensures.linked c.if-not-move_beside.false));
      touched = λ h p is_at is_place ok.
          let to : beside ≡ h = some_same (sym c.in-Some.is ∙ c.place_of.ensures ∙ is_at) in
          let place : member ≡ p = some_same (sym c.in-Some-place_of.is ∙ c.place_of-2.ensures ∙ is_place) in
          let named = rw (place, to) at (c.move_beside.ensures.touched c.if-not-move_beside.false) in
          touched_words words links c.move_beside.new.links view (search rules)
          (λ k. Some p ∷ around words (table_of words (sym view k)) p ++ Some h ∷ beside_back words c.args.side links h view k ∷ []) named;
      null = search rules;
      refused = search rules;
      why = search rules;
      is_status = search rules;
    }
