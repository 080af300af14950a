use Rattle.std.proofs.Common.{refl, [], ◌∷◌, ◌++◌, List, drop, ◌≡◌, ap, ◌∙◌, sym, append_assoc}
use Rattle.ic_link_ops.specs.Prelude.{Place, Cut, join, IsBefore, IsSecondAfter, Removes}
use Rattle.ic_rbtree.specs.Kept.{RepresentsKept}
use Rattle.ic_link_ops.proofs.SequenceLemmas.{first_is, last_of_push}
use Rattle.ic_link_ops.proofs.Positions.{gap_there, removed_stands}
use Rattle.ic_rbtree.proofs.edits.RBTreeBidirectional.remove_at.Goals as goal
use Rattle.ic_rbtree.proofs.edits.RBTreeBidirectional.remove_at.Given.{Over}

pub remove-requires : goal.remove-requires
remove-requires g c =
    let k = gap_there c.requires.stands in record { member = (k.0, k.1, sym c.in_ok-place.was ∙ (c.get.ensures ∙ k.2)) }

-- the member at the position is removed from every sequence that the table represented for the tree
removes : (g : Over) (c : goal.After-remove g) (gap : Cut) → RepresentsKept g.E.TreeHead.kept g.L.RBTreeOps.node (g.L.LinkOps.table c.args.links.now) c.args.self.now.head (join gap)
    → IsBefore gap c.args.at.now
    → Removes (RepresentsKept g.E.TreeHead.kept g.L.RBTreeOps.node) (g.L.LinkOps.table c.args.links.now) (g.L.LinkOps.table c.remove.new.links) c.remove.new.head gap
removes g c gap shown before = c.remove.ensures.removed gap shown (sym c.in_ok-place.was ∙ (c.get.ensures ∙ before))

-- the position is on the member after the removed member
moves : (g : Over) (c : goal.After-remove g) (gap : Cut) → RepresentsKept g.E.TreeHead.kept g.L.RBTreeOps.node (g.L.LinkOps.table c.args.links.now) c.args.self.now.head (join gap)
    → IsBefore gap c.args.at.now → IsSecondAfter gap c.next_of.result
moves g c gap shown before =
    let p = c.in_ok-place.place in
    let is = sym c.in_ok-place.was ∙ c.get.ensures in
    let same : join gap ≡ (gap.front ++ p ∷ []) ++ drop 1 gap.back =
    ap (λ (s : List Place). gap.front ++ s) (first_is gap.back (is ∙ before)) ∙ sym (append_assoc gap.front (p ∷ []) (drop 1 gap.back)) in
    c.next_of.ensures.moved.leads (record { front = gap.front ++ p ∷ []; back = drop 1 gap.back }) (rw same at shown) (sym is ∙ sym (last_of_push gap.front p))

pub returns-clause-removed : goal.returns-clause-removed
returns-clause-removed g c = record {
  answer = sym c.in_ok-place.was ∙ c.get.ensures;
  removed = removes g c;
  released = c.remove.ensures.released;
  moved = moves g c;
  null = tt;
  stands = removed_stands c.requires.stands (removes g c) (moves g c);
}

pub returns-clause-kept : goal.returns-clause-kept
returns-clause-kept g c = record { stands = (returns-clause-removed g c).stands; keeps = refl }
