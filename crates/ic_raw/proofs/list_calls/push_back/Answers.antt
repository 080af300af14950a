use Rattle.std.proofs.Common.{◌≡◌, ◌∷◌, None, Some, refl, sym, ap, ◌∙◌, rules}
use Rattle.ic_link_ops.specs.Prelude.{Ends, at_back, join}
use Rattle.ic_raw.specs.declared.gap.GapSide.TheVariants.{Before}
use Rattle.ic_raw.specs.Prelude.{place_of, sides}
use Rattle.ic_raw.specs.Doubly.{Represents, RepresentsList}
use Rattle.ic_raw.specs.ListCalls.{InsertCall}
use Rattle.ic_raw.proofs.Doubly.{at_end, gap_viewed}
use Rattle.ic_raw.proofs.Views.{renamed}
use Rattle.ic_raw.proofs.Lists.{kept}
use Rattle.ic_raw.specs.LinkWords.{lent_table}
use Rattle.ic_raw.proofs.LinkViews.{link_words, viewed, inserted_back, touched_back}
use Rattle.ic_raw.proofs.list_calls.push_back.Goals as goal

pub returns-then-push_after_last : goal.returns-then-push_after_last
returns-then-push_after_last g c =
    let words = link_words g.W.Words g.W.NextWord g.W.PrevPlace in record {
      inserted = λ cut p beside is shown' free.
          let view = c.new-links.ensures.1 in
          let end : cut ≡ at_back cut.front = at_end cut beside in
          let shown : RepresentsList words c.args.table.now c.args.list.now (join (at_back cut.front)) = rw end at shown' in
          let seen : Represents words (lent_table words c.new-links.result) c.list_of-edited.result (join (at_back cut.front)) = rw c.list_of-edited.ensures (viewed words kept c.new-links.result view shown) in
          let done = c.push_after_last.ensures.inserted cut.front p c.if-push_after_last.true seen (c.place_of.ensures ∙ is) in
          let head = sym (c.push_after_last.ensures.head c.if-push_after_last.true ∙ ap (λ (e : Ends). e.head) c.list_of-edited.ensures) in
          let tail = c.last.ensures in
          record {
            accepted = refl;
            done = rw end (inserted_back words kept c.new-links.result c.push_after_last.new.links view (search rules)
                (c.set_last.ensures.set ∙ (λ k. record { head = head k; tail = tail k })) done);
          };
      free = search rules;
      no_place = search rules;
      stands = search rules;
      links_back = search rules;
      own = search rules;
      touched = λ p is made.
          let gap = gap_viewed words Before c.new-links.result {at = None} c.new-links.ensures.1 c.list_of-edited.ensures refl refl in
          touched_back words c.new-links.result c.push_after_last.new.links c.new-links.ensures.1 (search rules) (λ k. Some p ∷ sides (gap k))
          (c.push_after_last.ensures.touched p c.if-push_after_last.true (c.place_of.ensures ∙ is));
      words = search rules;
      refused = search rules;
      why = search rules;
      is_status = search rules;
    }

pub returns : goal.returns
returns g c =
    let words = link_words g.W.Words g.W.NextWord g.W.PrevPlace in
    let same = c.push_after_last.ensures.refused c.if-push_after_last.false in
    renamed (λ old new. InsertCall words old new c.args.list.now c.push_back_slow.new.list c.push_back_slow.result Before None (place_of c.args.place))
    (ap (λ l. l.entries.now) same.0 ∙ c.new-links.ensures.1) (search rules) c.push_back_slow.ensures
