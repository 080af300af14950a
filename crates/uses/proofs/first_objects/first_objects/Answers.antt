use Rattle.std.proofs.Common.{◌∙◌, refl}
use Rattle.std.proofs.lemmas.List.{take_more}
use Rattle.std.proofs.lemmas.Iterator.{items_from_collect}
use Rattle.ic_link_ops.specs.DoublyEntries.{neighbors_of, plain_table}
use Rattle.ic_link_ops.proofs.Calling.{walk_copied}
use Rattle.ic_link_ops.specs.LinkedList.{next_of}
use Rattle.ic_chain.specs.Iter.{objects_left}
use Rattle.ic_linked_list.proofs.ListedValues.{has_covered, has_pushed, has_all, has_first, has_taken}
use Rattle.uses.proofs.first_objects.first_objects.Goals as goal

pub loop-value-preserved : goal.loop-value-preserved
loop-value-preserved g c =
    has_pushed _ _ (has_covered c.in_ok-object.ensures.keeps.entries c.loop-value.invariant) c.in_ok-object.ensures.placed c.push_back.ensures.inserted c.push_back.ensures.acquired c.push_back.ensures.refused
    (take_more _ c.loop-value.value-index 0 c.loop-value-test.true)

pub unwrap-oldest-requires : goal.unwrap-oldest-requires
unwrap-oldest-requires g c = (has_first (has_all c.loop-value.invariant c.loop-value-test.false) c.pop_front.ensures.answer).0

pub returns : goal.returns
returns g c =
    let has = has_all c.loop-value.invariant c.loop-value-test.false in
    let pop = c.pop_front.ensures in
    let after = has_taken (λ e. refl) has pop.answer pop.removed pop.released c.unwrap-oldest.ensures c.remove-taken.ensures.value c.remove-taken.ensures.freed in
    let rest = rw (← c.remove-taken.ensures.links) at after.1 in
    record {
      seen = rw c.in_ok-seen.was at (items_from_collect _ c.collect.ensures.ran (walk_copied (objects_left (next_of neighbors_of) plain_table (λ objects. objects)) c.copied.ensures.source (c.iter.ensures.walks has.members has.shown ∙ has.are)));
      taken = after.0;
      left = c.copied-left.ensures ∙ c.get.ensures ∙ (has_first rest c.front.ensures.position).1;
    }
