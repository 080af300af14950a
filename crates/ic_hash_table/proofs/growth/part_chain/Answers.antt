use Rattle.std.proofs.Common.{IsSome, [], refl, sym, subst, ◌∙◌}
use Rattle.ic_link_ops.specs.Prelude.{object_at, IsAbsent}
use Rattle.ic_link_ops.proofs.Prelude.{releases_fewer, gap_after_linked}
use Rattle.ic_link_ops.proofs.Naming.{end_named}
use Rattle.ic_link_ops.proofs.SinglyLists.{followed_linked, successors_covered, members_represented}
use Rattle.ic_hash_table.proofs.ChainParts.{of_member, part_none, left_linked, left_member, part_either}
use Rattle.ic_hash_table.proofs.growth.part_chain.Goals as goal

pub loop-rest-init : goal.loop-rest-init
loop-rest-init g c = record {
  each = λ chain shown. (part_none shown, record { extent = refl; others = λ q out. refl });
  trace_stays = g.met.L.LinkOps.does_nothing c.args.links.now;
}

pub next-rest-requires : goal.next-rest-requires
next-rest-requires g c =
    let r = c.requires.placed in
    let k = (rw c.in-Some.is at (c.loop-rest.invariant.each r.members r.shown)).0 in
    record { linked = sym (g.met.L.SinglyLinkedListOps.linked_alike _) ∙ left_linked k }

pub belongs-moves-requires-clause-placed : goal.belongs-moves-requires-clause-placed
belongs-moves-requires-clause-placed g c =
    let r = c.requires.placed in
    let k = (rw c.in-Some.is at (c.loop-rest.invariant.each r.members r.shown)).0 in
    of_member (λ q. IsSome (object_at (g.O.Values.values c.args.objects.now) q)) r.members c.in-Some.place r.placed (left_member k)

pub link_either-halves-requires : goal.link_either-halves-requires
link_either-halves-requires g c =
    let r = c.requires.placed in
    let k = (rw c.in-Some.is at (c.loop-rest.invariant.each r.members r.shown)).0 in
    let law = followed_linked g.met.L.SinglyLinkedListOps.linked_alike in
    record {
      linked = sym (g.met.L.SinglyLinkedListOps.linked_alike _) ∙ left_linked k;
      first = end_named _ _ (λ q e. g.met.L.LinkOps.covered_has_name _ q (g.met.L.LinkOps.linked_is_covered _ q (gap_after_linked law [] k.staying k.represents_staying (sym e ∙ k.represents_staying.head))));
      second = end_named _ _ (λ q e. g.met.L.LinkOps.covered_has_name _ q (g.met.L.LinkOps.linked_is_covered _ q (gap_after_linked law [] k.moving k.represents_moving (sym e ∙ k.represents_moving.head))));
    }

pub loop-rest-smaller : goal.loop-rest-smaller
loop-rest-smaller g c =
    let s = g.L.SinglyLinkedListOps.successor in
    let r = c.requires.placed in
    let k = (rw c.in-Some.is at (c.loop-rest.invariant.each r.members r.shown)).0 in
    let e = c.link_either-halves.ensures in
    let more = part_either k {new = g.L.LinkOps.table c.link_either-halves.new.links} e.others c.next-rest.ensures c.belongs-moves.result (sym c.belongs-moves.ensures) e.stays e.moves in
    let was = members_represented (g.L.LinkOps.table c.loop-rest.links) (successors_covered s g.L.LinkOps.table g.met.L.LinkOps.linked_is_covered g.met.L.SinglyLinkedListOps.linked_alike c.loop-rest.links) _ k.left k.represents_left in
    let is = members_represented (g.L.LinkOps.table c.link_either-halves.new.links) (successors_covered s g.L.LinkOps.table g.met.L.LinkOps.linked_is_covered g.met.L.SinglyLinkedListOps.linked_alike c.link_either-halves.new.links) _ more.0.left more.0.represents_left in
    rw c.in-Some.is (releases_fewer was is more.1)

pub loop-rest-preserved : goal.loop-rest-preserved
loop-rest-preserved g c = record {
  each = λ chain shown.
      let k = rw c.in-Some.is at (c.loop-rest.invariant.each chain shown) in
      let e = c.link_either-halves.ensures in (
        (part_either k.0 {new = g.L.LinkOps.table c.link_either-halves.new.links} e.others c.next-rest.ensures c.belongs-moves.result (sym c.belongs-moves.ensures) e.stays e.moves).0,
        record {
          extent = e.extent ∙ k.1.extent;
          others = λ q out. e.others q (λ same. absurd (left_member k.0 (subst (λ x. IsAbsent x chain) same out))) ∙ k.1.others q out;
        },
      );
  trace_stays = g.met.L.LinkOps.does_on c.args.links.now c.loop-rest.links c.link_either-halves.new.links [] [] c.loop-rest.invariant.trace_stays c.link_either-halves.ensures.trace_stays;
}
