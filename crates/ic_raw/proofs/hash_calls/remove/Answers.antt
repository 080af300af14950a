use Rattle.std.proofs.Common.{◌≡◌, ◌<◌, ◌++◌, ◌∷◌, length, subst, sym, ap, ◌∙◌, rules, arith}
use Rattle.std.proofs.lemmas.Grind.{common_steps}
use Rattle.ic_unsafe_ref.specs.declared.place.Place.{Place}
use Rattle.ic_link_ops.proofs.SequenceLemmas.{some_same}
use Rattle.ic_raw.specs.Hash.{slot_of, chain_of}
use Rattle.ic_raw.specs.Singly.{RepresentsList, LeavesChain}
use Rattle.ic_raw.proofs.HashTables.{chain_read, chain_written, changes_chain, holds_removed}
use Rattle.ic_raw.proofs.hash_calls.remove.Goals as goal

pub returns : goal.returns
returns c = record {
  removed = λ front back p some is shown'.
      let one : p ≡ c.in-Some.member = some_same (sym is ∙ sym c.place_of.ensures ∙ c.in-Some.is) in
      let shown : RepresentsList c.args.table.now (chain_of c.args.buckets.now c.args.hash) (front ++ c.in-Some.member ∷ back) = rw one at shown' in
      let slot = c.slot.ensures.slot c.in-Some-slot.at c.in-Some-slot.is in
      let seen = subst (λ w. RepresentsList c.args.table.now w (front ++ c.in-Some.member ∷ back)) (chain_read c.args.buckets.now c.args.hash c.in-Some-slot.at slot.0 _ slot.1) shown in
      rw (one, chain_written c.args.buckets.now c.args.hash c.in-Some-slot.at slot.0 c.remove_from.new.list slot.1) (c.remove_from.ensures.removed front back seen);
  member = search rules;
  others = search rules;
  holds = λ chains front back p some is members holds.
      let one : c.in-Some.member ≡ p = some_same (sym c.in-Some.is ∙ c.place_of.ensures ∙ is) in
      let slot = c.slot.ensures.slot c.in-Some-slot.at c.in-Some-slot.is in
      let at = slot_of c.args.buckets.now c.args.hash in
      let in_bounds : at < length c.args.buckets.now = subst (λ i. i < length c.args.buckets.now) slot.0 slot.1 in
      let shown : RepresentsList c.args.table.now (chain_of c.args.buckets.now c.args.hash) (front ++ c.in-Some.member ∷ back) =
      subst (RepresentsList c.args.table.now (chain_of c.args.buckets.now c.args.hash)) (members ∙ ap (λ (q : Place). front ++ q ∷ back) (sym one)) (holds.shown at in_bounds) in
      let off = c.remove_from.ensures.removed front back
      (subst (λ w. RepresentsList c.args.table.now w (front ++ c.in-Some.member ∷ back)) (chain_read c.args.buckets.now c.args.hash c.in-Some-slot.at slot.0 _ slot.1) shown) in
      let edit = off.done.0 in
      holds_removed holds c.args.hash in_bounds (changes_chain c.args.buckets.now c.args.hash c.in-Some-slot.at slot.0 c.remove_from.new.list) front back p members
      (rw (chain_written c.args.buckets.now c.args.hash c.in-Some-slot.at slot.0 c.remove_from.new.list slot.1) edit.shows)
      (rw one at edit.frame);
  null = search rules;
  any = search rules;
  stands = search rules;
  own = search rules;
  touched = λ p is made.
      let one : p ≡ c.in-Some.member = some_same (sym is ∙ sym c.place_of.ensures ∙ c.in-Some.is) in
      let slot = c.slot.ensures.slot c.in-Some-slot.at c.in-Some-slot.is in
      let read = chain_read c.args.buckets.now c.args.hash c.in-Some-slot.at slot.0 _ slot.1 in
      rw one (subst (λ w. LeavesChain c.args.table.now c.remove_from.new.table w c.in-Some.member) (sym read) (c.remove_from.ensures.touched made));
  words = search rules;
  refused = λ off. let same = c.remove_from.ensures.refused off in (same.0, grind (arith, common_steps, same));
  why = search rules;
  is_status = search rules;
}
