use Rattle.std.proofs.Common.{◌≡◌, ◌+◌, suc, drop, sym, ap, ◌∙◌, subst, arith}
use Rattle.std.specs.Bool.{⊤}
use Rattle.ic_link_ops.specs.Sequences.{first}
use Rattle.ic_link_ops.proofs.SequenceLemmas.{first_of_back}
use Rattle.ic_hash_table.specs.Prelude.{AreChained, number}
use Rattle.ic_hash_table.proofs.FoundMembers.{chain_of}
use Rattle.ic_hash_table.proofs.NextMembers.{all_chained, after_chained, first_is_chains, first_is_others, slot_of_place, place_placed, stands_in}
use Rattle.ic_hash_table.proofs.table.HashTable.next.Goals as goal

pub returns-in_default : goal.returns-in_default
returns-in_default g c gap held after = c.first_from.ensures _ (all_chained held) ∙ first_of_back gap.front gap.back (sym c.in_default.is ∙ after)

pub next-after-requires : goal.next-after-requires
next-after-requires g c =
    let st = c.requires.stands in
    let after = sym c.in-Some.is ∙ st.2 in
    let k = slot_of_place c.args.self.now.slots (number g.A.HashAdapter.key_of g.A.HashAdapter.hash_of c.args.self.now.adapter) (g.O.Values.values c.args.objects.now) (omega (arith, st.1.well_formed.half)) c.in-Some.place (place_placed st.0 st.1 c.in-Some.place after) in
    record { linked = sym (g.met.L.SinglyLinkedListOps.linked_alike _) ∙ (stands_in st.0 st.1 c.in-Some.place after k.0 k.1 k.2).1.linked }

pub returns-then-is_some : goal.returns-then-is_some
returns-then-is_some g c gap held at_gap =
    let after = sym c.in-Some.is ∙ at_gap in
    let k = slot_of_place c.args.self.now.slots (number g.A.HashAdapter.key_of g.A.HashAdapter.hash_of c.args.self.now.adapter) (g.O.Values.values c.args.objects.now) (omega (arith, held.well_formed.half)) c.in-Some.place (place_placed gap held c.in-Some.place after) in
    let b = stands_in gap held c.in-Some.place after k.0 k.1 k.2 in
    first_is_chains c.next-after.result b.0 (chain_of held k.0 k.1).after (c.next-after.ensures ∙ b.1.next) (sym c.is_some.ensures ∙ c.if-is_some.true) ∙ ap first (sym b.2)

pub slot_of_object-chain-requires-clause-placed : goal.slot_of_object-chain-requires-clause-placed
slot_of_object-chain-requires-clause-placed g c =
    let st = c.requires.stands in place_placed st.0 st.1 c.in-Some.place (sym c.in-Some.is ∙ st.2)

pub returns : goal.returns
returns g c gap held at_gap =
    let after = sym c.in-Some.is ∙ at_gap in
    let k = c.slot_of_object-chain.result in
    let used = c.slot_of_object-chain.ensures.in_bounds in
    let b = stands_in gap held c.in-Some.place after k used c.slot_of_object-chain.ensures.belongs in
    let next : suc k ≡ k + 1 = omega arith in
    c.first_from-2.ensures _ (subst (λ n. AreChained g.L.SinglyLinkedListOps.successor (λ i p. ⊤) (g.L.LinkOps.table c.args.links.now) n (drop n (g.B.BucketRow.fronts c.args.self.now.buckets)) (chain_of held k used).after) next (after_chained held k used))
    ∙ first_is_others c.next-after.result b.0 (chain_of held k used).after (c.next-after.ensures ∙ b.1.next) (sym c.is_some.ensures ∙ c.if-is_some.false) ∙ ap first (sym b.2)
