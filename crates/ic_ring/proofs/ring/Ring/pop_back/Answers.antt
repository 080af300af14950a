use Rattle.std.proofs.Common.{◌∷◌, [], sym, ◌∙◌, rules}
use Rattle.ic_link_ops.specs.Sequences.{but_last}
use Rattle.ic_link_ops.proofs.SequenceLemmas.{split_last, but_last_of_none, absent_turned}
use Rattle.ic_ring.proofs.Circles.{seen_from, before_apart, ring_frame}
use Rattle.ic_ring.proofs.OtherRings.{others_from}
use Rattle.ic_ring.proofs.ring.Ring.pop_back.Goals as goal

pub returns-in_err-back : goal.returns-in_err-back
returns-in_err-back g c = record {
  answer = search rules;
  removed = λ s shown. rw (but_last_of_none s (sym (c.last.ensures s shown) ∙ c.in_err-back.was)) shown;
  released = search rules;
  empty = search rules;
  others = search rules;
  frame = search rules;
}

pub prev_of-prev-requires : goal.prev_of-prev-requires
prev_of-prev-requires g c =
    let ring = c.requires.shown in
    let is = split_last ring.0 (sym (c.last.ensures ring.0 ring.1) ∙ c.in_ok-back.was) in
    (c.args.self.now ∷ but_last ring.0, seen_from (but_last ring.0) c.in_ok-back.back [] (rw is at ring.1))

pub unlink-requires-clause-ring : goal.unlink-requires-clause-ring
unlink-requires-clause-ring g c =
    let ring = c.requires.shown in
    let is = split_last ring.0 (sym (c.last.ensures ring.0 ring.1) ∙ c.in_ok-back.was) in
    (c.args.self.now ∷ but_last ring.0, seen_from (but_last ring.0) c.in_ok-back.back [] (rw is at ring.1))

pub unlink-requires-clause-after : goal.unlink-requires-clause-after
unlink-requires-clause-after g c =
    let ring = c.requires.shown in
    let is = split_last ring.0 (sym (c.last.ensures ring.0 ring.1) ∙ c.in_ok-back.was) in
    rw c.self.view_is (seen_from (but_last ring.0) c.in_ok-back.back [] (rw is at ring.1)).chain.0.next

pub returns : goal.returns
returns g c = record {
  answer = search rules;
  removed = λ s shown.
      let is = split_last s (sym (c.last.ensures s shown) ∙ c.in_ok-back.was) in
      c.unlink.ensures.taken (c.args.self.now ∷ but_last s) (seen_from (but_last s) c.in_ok-back.back [] (rw is at shown));
  released = search rules;
  empty = search rules;
  others =
      let ring = c.requires.shown in
      let is = split_last ring.0 (sym (c.last.ensures ring.0 ring.1) ∙ c.in_ok-back.was) in
      let circle = seen_from (but_last ring.0) c.in_ok-back.back [] (rw is at ring.1) in
      others_from (λ r other out. before_apart r c.args.self.now other out circle.chain.0.next) c.unlink.ensures.others;
  frame = λ s shown.
      record {
        extent = c.unlink.ensures.extent;
        others = λ q out.
            let is = split_last s (sym (c.last.ensures s shown) ∙ c.in_ok-back.was) in
            let circle = seen_from (but_last s) c.in_ok-back.back [] (rw is at shown) in
            ring_frame (c.args.self.now ∷ but_last s) circle c.prev_of-prev.ensures circle.chain.0.next (rw c.self.view_is at c.unlink.ensures.beside) q
            (absent_turned q (c.in_ok-back.back ∷ []) (c.args.self.now ∷ but_last s) (rw is at out));
      };
}
