use Rattle.std.proofs.Common.{◌≡◌, true, List, [], ◌∷◌, ◌++◌}
use Rattle.ic_link_ops.specs.Prelude.{Place, Objects, is_placed, ArePlaced}
use Rattle.ic_link_ops.specs.DoublyEntries.{plain_table}
use Rattle.ic_link_ops.proofs.CollectionLaws.{new_represents_nothing}
use Rattle.ic_link_ops.proofs.DoublyLists.{plain_lists}
use Rattle.uses_tests.proofs.lists.linked.Goals as goal

-- if there is an object at each member of the sequence `s` and at the place `p`, then there is an object at each member of `s` followed by `p`
placed_last : {T : Type 0} (objects : Objects T) (p : Place) → is_placed objects p ≡ true → (s : List Place) → ArePlaced objects s → ArePlaced objects (s ++ p ∷ [])
placed_last objects p there [] placed = (there, tt)
placed_last objects p there (x ∷ s) placed = (placed.0, placed_last objects p there s placed.1)

pub loop-index-init : goal.loop-index-init
loop-index-init g c = record { members = []; shown = rw c.new-list.ensures (new_represents_nothing plain_lists (plain_table c.args.links.now)); placed = tt }

pub loop-index-preserved : goal.loop-index-preserved
loop-index-preserved g c =
    let m = c.loop-index.invariant in
    let pushed = rw c.expect.ensures at c.push_back.ensures.inserted in record {
      members = m.members ++ c.object-next.result ∷ [];
      shown = pushed m.members m.shown;
      placed = placed_last c.args.objects.now c.object-next.result c.object-next.ensures.placed m.members m.placed;
    }
