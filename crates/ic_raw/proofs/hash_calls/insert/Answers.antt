use Rattle.std.proofs.Common.{◌<◌, Some, [], ◌∷◌, length, refl, sym, subst, rules, arith}
use Rattle.std.proofs.lemmas.Grind.{common_steps}
use Rattle.ic_link_ops.specs.Sequences.{at_front}
use Rattle.ic_link_ops.proofs.SequenceLemmas.{none_not}
use Rattle.ic_raw.specs.Hash.{slot_of}
use Rattle.ic_raw.specs.Singly.{RepresentsList, IsNoneOrLinkedIn, front_of}
use Rattle.ic_raw.proofs.HashTables.{chain_read, chain_written, changes_chain, holds_inserted}
use Rattle.ic_raw.proofs.Singly.{touches_places}
use Rattle.ic_raw.proofs.hash_calls.insert.Goals as goal

pub returns : goal.returns
returns c = record {
  inserted = λ s p some is shown free.
      let slot = c.slot.ensures.slot c.in-Some.at c.in-Some.is in
      let seen = subst (λ w. RepresentsList c.args.table.now w s) (chain_read c.args.buckets.now c.args.hash c.in-Some.at slot.0 _ slot.1) shown in
      rw (chain_written c.args.buckets.now c.args.hash c.in-Some.at slot.0 c.push_front.new.list slot.1) (c.push_front.ensures.inserted (at_front s) p refl is seen free);
  others = search rules;
  holds = λ chains p some is free holds.
      let slot = c.slot.ensures.slot c.in-Some.at c.in-Some.is in
      let at = slot_of c.args.buckets.now c.args.hash in
      let in_bounds : at < length c.args.buckets.now = subst (λ i. i < length c.args.buckets.now) slot.0 slot.1 in
      let seen = subst (λ w. RepresentsList c.args.table.now w (chains at)) (chain_read c.args.buckets.now c.args.hash c.in-Some.at slot.0 _ slot.1) (holds.shown at in_bounds) in
      let put = (c.push_front.ensures.inserted (at_front (chains at)) p refl is seen free).done in
      holds_inserted holds c.args.hash in_bounds (changes_chain c.args.buckets.now c.args.hash c.in-Some.at slot.0 c.push_front.new.list) p free
      (rw (chain_written c.args.buckets.now c.args.hash c.in-Some.at slot.0 c.push_front.new.list slot.1) put.shows) put.frame;
  accepted =
      let slot = c.slot.ensures.slot c.in-Some.at c.in-Some.is in
      let chain = chain_read c.args.buckets.now c.args.hash c.in-Some.at slot.0 _ slot.1 in (
        (λ ok.
            let links_back = c.push_front.ensures.accepted.0 ok in
            (omega (arith, slot.1), links_back.0, subst (λ w. IsNoneOrLinkedIn c.args.table.now (front_of w)) (sym chain) links_back.1.1)),
        (λ links_back. c.push_front.ensures.accepted.1 (links_back.1, ((λ q e. absurd (none_not q e)), subst (λ w. IsNoneOrLinkedIn c.args.table.now (front_of w)) chain links_back.2))),
      );
  own = search rules;
  touched = λ p is made. touches_places (Some p ∷ []) (c.push_front.ensures.touched p is made);
  words = search rules;
  refused = λ off. let same = c.push_front.ensures.refused off in (same.0, grind (arith, common_steps, same));
  why = search rules;
  is_status = search rules;
}
