use Rattle.std.proofs.Common.{◌≡◌, refl, sym, ◌∙◌, rules}
use Rattle.ic_link_ops.proofs.SequenceLemmas.{none_not, some_same}
use Rattle.ic_raw.proofs.Rings.{changes_back, closed_back}
use Rattle.ic_raw.proofs.LinkViews.{link_words, free_back, free_viewed}
use Rattle.ic_raw.proofs.ring_calls.init.Goals as goal

pub returns-in_default : goal.returns-in_default
returns-in_default g c =
    let words = link_words g.W.Words g.W.NextWord g.W.PrevPlace in record {
      opened = λ h is_head free.
          let got = c.close.ensures.accepted h (c.place_of.ensures ∙ is_head) (free_viewed words c.new-links.result c.new-links.ensures.1 free) in
          absurd (none_not h (sym c.in_default.is ∙ got));
      free = search rules;
      no_place = search rules;
      refused = search rules;
      why = search rules;
      is_status = search rules;
    }

pub returns : goal.returns
returns g c =
    let words = link_words g.W.Words g.W.NextWord g.W.PrevPlace in
    let view = c.new-links.ensures.1 in
    let place = c.in-Some.field-0 in
    let was = c.close.ensures.free place c.in-Some.is in
    record {
      opened = λ h is_head free.
          let got = c.close.ensures.accepted h (c.place_of.ensures ∙ is_head) (free_viewed words c.new-links.result view free) in
          record {
            accepted = refl;
            done = (
              closed_back words c.new-links.result c.close.new.links view (search rules) (c.close.ensures.circle h got),
              changes_back words c.new-links.result c.close.new.links view (search rules) (c.close.ensures.frame h got),
            );
          };
      free = λ h is_head made.
          let same : place ≡ h = some_same (sym was.0 ∙ c.place_of.ensures ∙ is_head) in rw same at (free_back words c.new-links.result view was.1);
      no_place = λ none made. none_not place (sym (c.place_of.ensures ∙ none) ∙ was.0);
      refused = search rules;
      why = search rules;
      is_status = search rules;
    }
