use Rattle.std.proofs.Common.{◌∙◌}
use Rattle.ic_list_algorithms.proofs.RunLemmas.{no_test}
use Rattle.structure_tests.proofs.PlacedChains.{placed_members, still_of_eight, two_placed}
use Rattle.structure_tests.proofs.algorithms.merged_and_sorted.Goals as goal

pub merge_by-requires-clause-two : goal.merge_by-requires-clause-two
merge_by-requires-clause-two g c = two_placed c.new.ensures (placed_members (λ q b a k. g.met.L.LinkOps.linked_is_covered c.args.links.now q (g.met.K.ForwardLinks.between_linked _ b a k)) c.requires.held)

pub turned-rotated-requires : goal.turned-rotated-requires
turned-rotated-requires g c =
    let p = two_placed c.new.ensures (placed_members (λ q b a k. g.met.L.LinkOps.linked_is_covered c.args.links.now q (g.met.K.ForwardLinks.between_linked _ b a k)) c.requires.held) in
    let k = c.merge_by.ensures.merged p.first p.second no_test p.shown p.other p.apart in
    record { shown = (k.merged, k.shown) }

pub sort_by-requires-clause-placed : goal.sort_by-requires-clause-placed
sort_by-requires-clause-placed g c =
    let p = two_placed c.new.ensures (placed_members (λ q b a k. g.met.L.LinkOps.linked_is_covered c.args.links.now q (g.met.K.ForwardLinks.between_linked _ b a k)) c.requires.held) in
    let k = c.merge_by.ensures.merged p.first p.second no_test p.shown p.other p.apart in
    let h = still_of_eight c.requires.held (c.turned-rotated.ensures.extent ∙ k.frame.extent) c.turned-rotated.ensures.shown in
    placed_members (λ q b a k. g.met.L.LinkOps.linked_is_covered c.turned-rotated.new.links q (g.met.K.ForwardLinks.between_linked _ b a k)) h

pub returns : goal.returns
returns g c =
    let p = two_placed c.new.ensures (placed_members (λ q b a k. g.met.L.LinkOps.linked_is_covered c.args.links.now q (g.met.K.ForwardLinks.between_linked _ b a k)) c.requires.held) in
    let k = c.merge_by.ensures.merged p.first p.second no_test p.shown p.other p.apart in
    let h = still_of_eight c.requires.held (c.turned-rotated.ensures.extent ∙ k.frame.extent) c.turned-rotated.ensures.shown in
    let s = c.sort_by.ensures.sorted h.shown.0 no_test h.shown.1 in
    record { held = still_of_eight h s.frame.extent (s.sorted, s.shown) }
