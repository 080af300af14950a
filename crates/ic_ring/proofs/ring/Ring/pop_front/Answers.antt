use Rattle.std.proofs.Common.{◌∷◌, ◌++◌, [], drop, sym, ◌∙◌, rules}
use Rattle.ic_link_ops.proofs.SequenceLemmas.{first_is}
use Rattle.ic_ring.proofs.Circles.{rotated, seen_from, after_apart}
use Rattle.ic_ring.proofs.OtherRings.{others_from}
use Rattle.ic_ring.proofs.ring.Ring.pop_front.Goals as goal

pub next_of-next-requires : goal.next_of-next-requires
next_of-next-requires g c =
    let ring = c.requires.shown in
    let is = first_is ring.0 (sym c.in_ok-front.was ∙ c.first.ensures ring.0 ring.1) in
    (drop 1 ring.0 ++ c.args.self.now ∷ [], seen_from [] c.in_ok-front.front (drop 1 ring.0) (rw is at ring.1))

pub unlink-requires-clause-ring : goal.unlink-requires-clause-ring
unlink-requires-clause-ring g c =
    let ring = c.requires.shown in
    let is = first_is ring.0 (sym c.in_ok-front.was ∙ c.first.ensures ring.0 ring.1) in
    (drop 1 ring.0 ++ c.args.self.now ∷ [], seen_from [] c.in_ok-front.front (drop 1 ring.0) (rw is at ring.1))

pub returns : goal.returns
returns g c = record {
  answer = search rules;
  removed = λ s shown.
      let is = first_is s (sym c.in_ok-front.was ∙ c.first.ensures s shown) in
      rotated (drop 1 s) (c.args.self.now ∷ []) (c.unlink.ensures.taken (drop 1 s ++ c.args.self.now ∷ []) (seen_from [] c.in_ok-front.front (drop 1 s) (rw is at shown)));
  released = search rules;
  empty = search rules;
  others =
      let ring = c.requires.shown in
      let is = first_is ring.0 (sym c.in_ok-front.was ∙ c.first.ensures ring.0 ring.1) in
      let circle = rw is at ring.1 in
      others_from (λ r other out. after_apart r c.args.self.now other out circle.chain.1.0.prev) c.unlink.ensures.others;
  frame = search rules;
}
