use Rattle.std.proofs.Common.{◌≡◌, Some, [], ◌∷◌, refl, sym, ap, ◌∙◌, rules}
use Rattle.ic_link_ops.proofs.SequenceLemmas.{none_not, some_same}
use Rattle.ic_raw.specs.LinkWords.{lent_table, table_of}
use Rattle.ic_raw.specs.Ring.{IsCircle, Makes, around, put_in}
use Rattle.ic_raw.proofs.Rings.{circle_viewed, makes_back, linked_back, touched_words, beside_back}
use Rattle.ic_raw.proofs.LinkViews.{link_words, unlinked_back}
use Rattle.ic_raw.proofs.ring_calls.pop.Goals as goal

pub returns : goal.returns
returns g c =
    let words = link_words g.W.Words g.W.NextWord g.W.PrevPlace in
    let view = c.new-links.ensures.1 in
    let links = c.new-links.result in
    let member = c.in-Some-pop.member in
    record {
      taken = λ h p r is circle.
          let same : c.in-Some.place ≡ h = some_same (sym c.in-Some.is ∙ c.place_of.ensures ∙ is) in
          let here : IsCircle words (lent_table words links) (put_in c.args.side c.in-Some.place p r) = rw same (circle_viewed words links view circle) in
          let got = c.pop.ensures.popped p r here in
          let out : member ≡ p = some_same (sym c.in-Some-pop.is ∙ got.0) in
          let named : Makes words (lent_table words links) (lent_table words c.pop.new.links) (put_in c.args.side h p r) (h ∷ r) = rw same at got.1 in
          let off = c.pop.ensures.unlinked p (c.in-Some-pop.is ∙ ap Some out) in
          record {
            accepted = refl;
            done = (makes_back words links c.pop.new.links view (search rules) named, unlinked_back words c.pop.new.links p (search rules) off, rw out at c.number_of.ensures);
          };
      empty = λ h is circle.
          let same : c.in-Some.place ≡ h = some_same (sym c.in-Some.is ∙ c.place_of.ensures ∙ is) in
          let here : IsCircle words (lent_table words links) (c.in-Some.place ∷ []) = rw same (circle_viewed words links view circle) in
          absurd (none_not member (sym (c.pop.ensures.empty here) ∙ c.in-Some-pop.is));
      linked = λ ok. (member, c.number_of.ensures, linked_back words links member view (c.pop.ensures.linked member c.in-Some-pop.is));
      none = search rules;
      null = search rules;
      touched = λ h is made.
          let same : c.in-Some.place ≡ h = some_same (sym c.in-Some.is ∙ c.place_of.ensures ∙ is) in (
            member,
            beside_back words c.args.side links h view ∙ rw same at (c.pop.ensures.beside member c.in-Some-pop.is),
            c.number_of.ensures,
            touched_words words links c.pop.new.links view (search rules) (ap (λ es. Some member ∷ around words (table_of words es) member) (sym view)) (c.pop.ensures.touched member c.in-Some-pop.is),
          );
      refused = search rules;
      why = search rules;
      is_status = search rules;
    }
