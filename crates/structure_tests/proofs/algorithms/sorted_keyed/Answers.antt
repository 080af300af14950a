use Rattle.ic_link_ops.proofs.SequenceLemmas.{disjoint_sym}
use Rattle.ic_list_algorithms.proofs.RunLemmas.{no_test}
use Rattle.structure_tests.proofs.PlacedChains.{two_lists}
use Rattle.structure_tests.proofs.algorithms.sorted_keyed.Goals as goal

pub sort_keyed-requires-2-clause-shown : goal.sort_keyed-requires-2-clause-shown
sort_keyed-requires-2-clause-shown g c =
    let r = c.requires.shown in
    let k = c.sort_keyed.ensures.sorted r.0 no_test r.1 in
    (k.sorted, k.shown)

pub merge_keyed-requires-clause-two : goal.merge_keyed-requires-clause-two
merge_keyed-requires-clause-two g c =
    let r = c.requires.shown in
    let k = c.sort_keyed.ensures.sorted r.0 no_test r.1 in
    let l = c.sort_keyed-2.ensures.sorted k.sorted no_test k.shown in
    two_lists c.new.ensures (l.sorted, l.shown)

pub returns-clause-shown : goal.returns-clause-shown
returns-clause-shown g c =
    let r = c.requires.shown in
    let k = c.sort_keyed.ensures.sorted r.0 no_test r.1 in
    let l = c.sort_keyed-2.ensures.sorted k.sorted no_test k.shown in
    let t = two_lists c.new.ensures (l.sorted, l.shown) in
    let m = c.merge_keyed.ensures.merged t.first t.second no_test t.shown t.other (disjoint_sym t.second t.first t.apart) in
    (m.merged, m.shown)
