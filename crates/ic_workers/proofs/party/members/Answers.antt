use Rattle.std.proofs.Common.{◌≡◌, ◌++◌, [], ◌∷◌, Some, List, refl, sym, ◌∙◌, subst}
use Rattle.ic_link_ops.specs.Prelude.{Place, Cut, join, IsAfter, IsBefore}
use Rattle.ic_link_ops.specs.LinkedList.{Represents}
use Rattle.ic_link_ops.proofs.Prelude.{releases_fewer, gap_after}
use Rattle.ic_link_ops.proofs.DoublyLists.{neighbors_covered, members_after}
use Rattle.ic_cursors.specs.Cursor.{position}
use Rattle.ic_chain.proofs.Standing.{stands_here}
use Rattle.ic_workers.proofs.Walking.{Seen, seen_more, seen_less}
use Rattle.ic_workers.proofs.party.members.Given as given
use Rattle.ic_workers.proofs.party.members.Goals as goal

pub loop-place-init : goal.loop-place-init
loop-place-init g c =
    let e = c.front-cursor.ensures in
    record {
      list = e.list;
      links = e.links;
      seen = λ s shown. subst (λ (l : List Place). Seen l (position (λ at. at) c.front-cursor.result) s) (sym c.new-places.ensures.items) (record { rest = s; is = refl; at = e.position s shown });
    }

pub move_next-requires : goal.move_next-requires
move_next-requires g c =
    let s = c.requires in
    let i = c.loop-place.invariant in
    let k = i.seen s.0 s.1 in
    let gap = gap_after (record { front = c.loop-place.places.items; back = k.rest }) (position (λ at. at) c.loop-place.cursor) k.at in
    record { stands = stands_here gap.0 (rw (i.links, i.list, gap.1) (rw k.is at s.1)) gap.2 tt refl }

-- the walk has visited the member at which the cursor was, and the cursor is at the next member
module _ (g : given.Over) (c : goal.After-move_next g) (s : List Place) (shown : Represents g.L.LinkedListOps.neighbors (g.L.LinkOps.table c.args.links.now) c.args.list.now s) where
  here : Some c.in-Some.place ≡ position (λ at. at) c.loop-place.cursor
  here = sym c.in-Some.is ∙ c.get_ptr.ensures

  more : Seen (c.loop-place.places.items ++ c.in-Some.place ∷ []) (position (λ at. at) c.move_next.new.self) s
  more =
      let i = c.loop-place.invariant in
      let leads : (gap : Cut) → s ≡ join gap → IsAfter gap (position (λ at. at) c.loop-place.cursor) → IsBefore gap (position (λ at. at) c.move_next.new.self) =
      λ gap is after. c.move_next.ensures.moved.leads gap (rw (i.links, i.list) (subst (Represents g.L.LinkedListOps.neighbors (g.L.LinkOps.table c.args.links.now) c.args.list.now) is shown)) after in
      seen_more (i.seen s shown) c.in-Some.place here leads

pub loop-place-smaller : goal.loop-place-smaller
loop-place-smaller g c =
    let n = g.L.LinkedListOps.neighbors in
    let t = g.L.LinkOps.table c.args.links.now in
    let covered = neighbors_covered n g.L.LinkOps.table g.met.L.LinkOps.linked_is_covered g.met.L.LinkedListOps.linked_alike c.args.links.now in
    let s = c.requires in
    let k = c.loop-place.invariant.seen s.0 s.1 in
    let m = more g c s.0 s.1 in
    releases_fewer
    (members_after {n = n} t covered c.loop-place.places.items k.rest (rw k.is at s.1) k.at)
    (members_after {n = n} t covered (c.loop-place.places.items ++ c.in-Some.place ∷ []) m.rest (rw m.is at s.1) m.at)
    (seen_less k m)

pub loop-place-preserved : goal.loop-place-preserved
loop-place-preserved g c = record {
  list = c.move_next.ensures.list ∙ c.loop-place.invariant.list;
  links = c.move_next.ensures.links ∙ c.loop-place.invariant.links;
  seen = λ s shown. subst (λ (l : List Place). Seen l (position (λ at. at) c.move_next.new.self) s) (sym c.in_ok-push.ensures.items) (more g c s shown);
}
