use Rattle.std.proofs.Common.{Some, ◌∙◌, sym, ap, subst}
use Rattle.ic_link_ops.specs.declared.side.Side.TheVariants.{Left}
use Rattle.ic_link_ops.specs.Positions.{HasMember}
use Rattle.ic_link_ops.proofs.Positions.{stands_first, member_there}
use Rattle.ic_rbtree.specs.Kept.{RepresentsKept}
use Rattle.ic_rbtree.proofs.KeptHeads.{has_ends, end_is}
use Rattle.collections_tests.proofs.tree.summaries.member_at.Goals as goal

pub front-cursor-requires : goal.front-cursor-requires
front-cursor-requires g c =
    let q = c.requires.shown in
    record { shown = has_ends g.L.RBTreeOps.node (g.L.LinkOps.table c.args.links.now) (g.E.TreeHead.kept c.args.tree.now.head) q.0 q.1 }

pub loop-step-init : goal.loop-step-init
loop-step-init g c =
    let q = c.requires.shown in
    let e = c.front-cursor.ensures in
    record {
      tree = e.tree;
      links = e.links;
      stands = stands_first q.0 (rw (e.tree, e.links) q.1) (end_is g.L.RBTreeOps.node (g.L.LinkOps.table c.args.links.now) Left (g.E.TreeHead.kept c.args.tree.now.head) q.0 e.position q.1);
    }

pub loop-step-preserved : goal.loop-step-preserved
loop-step-preserved g c =
    let l = c.loop-step.invariant in
    let e = c.move_next.ensures in
    record { tree = e.list ∙ l.tree; links = e.links ∙ l.links; stands = e.kept }

pub returns : goal.returns
returns g c =
    let l = c.loop-step.invariant in
    let m = member_there l.stands (sym c.get_ptr.ensures ∙ c.expect.ensures) in
    record { member = rw (← l.tree, ← l.links, c.new.ensures) m }
