use Rattle.std.proofs.Common.{List, refl, sym, subst, rules}
use Rattle.std.specs.List.{AllByRecursion}
use Rattle.ic_link_ops.specs.SinglyLinkedList.{list_from}
use Rattle.ic_raw.specs.declared.words.RawOne.{RawOne}
use Rattle.ic_raw.specs.Prelude.{HoldsChains, no_word}
use Rattle.ic_raw.specs.Singly.{Represents, lent_table, table_of}
use Rattle.ic_raw.proofs.Gaps.{never}
use Rattle.ic_raw.proofs.Lists.{kept}
use Rattle.ic_raw.proofs.Views.{frame_back, represented_back, viewed}
use Rattle.ic_raw_keyed.specs.Growth.{LeadsToLinked}
use Rattle.ic_raw_keyed.proofs.MovedChains.{all_stand, apart_reversed, both_frames, frame_words, holds_as, holds_beside, holds_words, own_reversed, spread_reversed}
use Rattle.ic_raw_keyed.proofs.growth_calls.move_chain.Goals as goal

pub returns-then-not-can_move : goal.returns-then-not-can_move
returns-then-not-can_move c = record {
  moved = λ s chains enough any shown holds apart.
      let view = c.new-links.ensures.1 in
      let there = subst (λ (es : List RawOne). HoldsChains es c.args.buckets.now chains) (sym view) holds in
      absurd (never c.if-not-can_move.true (c.can_move.ensures.shown s (rw c.place_in-front.ensures (viewed no_word kept c.new-links.result view shown))
      (all_stand c.args.hashes.now c.new-links.result there any s)));
  looked = search rules;
  ended = search rules;
  emptied = search rules;
  touched = search rules;
  links = search rules;
  own = search rules;
  count = search rules;
  refused = search rules;
  why = search rules;
  is_status = search rules;
}

pub returns : goal.returns
returns c =
    let t = c.new-links.result in
    let u = c.reverse-back.new.links in
    let v = c.spread.new.links in
    let view = c.new-links.ensures.1 in record {
      moved = λ s chains enough any shown holds apart. record {
        accepted = refl;
        done =
            let h = subst (λ (es : List RawOne). HoldsChains es c.args.buckets.now chains) (sym view) holds in
            let seen : Represents (lent_table t) (list_from c.place_in-front.result) s = rw c.place_in-front.ensures (viewed no_word kept t view shown) in
            let still = holds_beside s h (frame_back no_word t u (c.reverse-back.ensures.frame s seen)) apart in
            holds_words v (search rules) (holds_as (spread_reversed c.args.hashes.now _ chains s) ((c.spread.ensures.spread _ (c.reverse-back.ensures.reversed s seen)).holds chains still (λ i fits. apart_reversed (chains i) s (apart i fits))));
      };
      looked = search rules;
      ended = λ made.
          let ended = c.can_move.ensures.ended c.if-not-can_move.false in
          (ended.0, represented_back no_word kept t view (rw c.place_in-front.ensures at ended.1), subst (λ (es : List RawOne). AllByRecursion (LeadsToLinked (table_of es) c.args.hashes.now c.args.buckets.now) ended.0) view ended.2);
      emptied = search rules;
      touched = λ s shown.
          let seen : Represents (lent_table t) (list_from c.place_in-front.result) s = rw c.place_in-front.ensures (viewed no_word kept t view shown) in
          let frame = both_frames s (c.reverse-back.ensures.frame s seen) (c.spread.ensures.spread _ (c.reverse-back.ensures.reversed s seen)).frame in
          frame_words t v view (search rules) frame;
      links = λ q. search rules;
      own = λ s shown i.
          let seen : Represents (lent_table t) (list_from c.place_in-front.result) s = rw c.place_in-front.ensures (viewed no_word kept t view shown) in
          own_reversed _ _ _ s i ((c.spread.ensures.spread _ (c.reverse-back.ensures.reversed s seen)).own i);
      count = search rules;
      refused = search rules;
      why = search rules;
      is_status = search rules;
    }
