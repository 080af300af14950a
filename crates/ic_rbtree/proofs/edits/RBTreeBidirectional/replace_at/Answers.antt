use Rattle.std.proofs.Common.{refl, sym, ◌∙◌}
use Rattle.ic_link_ops.specs.Prelude.{Cut, join, IsBefore, Replaces}
use Rattle.ic_rbtree.specs.Kept.{RepresentsKept}
use Rattle.ic_link_ops.proofs.Positions.{gap_there, replaced_stands}
use Rattle.ic_cursors.proofs.Placed.{put_there}
use Rattle.ic_rbtree.proofs.edits.RBTreeBidirectional.replace_at.Goals as goal
use Rattle.ic_rbtree.proofs.edits.RBTreeBidirectional.replace_at.Given.{Over}

pub replace-requires-clause-member : goal.replace-requires-clause-member
replace-requires-clause-member g c = let k = gap_there c.requires.stands in (k.0, k.1, sym c.in-Some.is ∙ (c.get.ensures ∙ k.2))

-- the object replaces the member at the position in every sequence that the table represented for the tree
replaces : (g : Over) (c : goal.After-of g) (gap : Cut) → RepresentsKept g.E.TreeHead.kept g.L.RBTreeOps.node (g.L.LinkOps.table c.args.links.now) c.args.self.now.head (join gap)
    → IsBefore gap c.args.at.now
    → Replaces (RepresentsKept g.E.TreeHead.kept g.L.RBTreeOps.node) (g.L.LinkOps.table c.args.links.now) (g.L.LinkOps.table c.replace.new.links) c.replace.new.head gap c.args.object
replaces g c gap shown before = c.if-not-replace.ensures.replaced gap shown (sym c.in-Some.is ∙ (c.get.ensures ∙ before))

pub returns-clause-replaced : goal.returns-clause-replaced
returns-clause-replaced g c = put_there (sym c.get.ensures ∙ c.in-Some.is) (record {
  answer = sym c.get.ensures ∙ c.in-Some.is;
  replaced = replaces g c;
  moved = c.of.ensures;
  exchanged = c.if-not-replace.ensures.exchanged;
  refused = tt;
  unchanged = tt;
  stands = replaced_stands c.requires.stands c.of.ensures (replaces g c);
})

pub returns-clause-kept : goal.returns-clause-kept
returns-clause-kept g c = record { stands = replaced_stands c.requires.stands c.of.ensures (replaces g c); keeps = refl }
