use Rattle.std.proofs.Common.{sym, ◌∙◌}
use Rattle.ic_link_ops.proofs.Walks.{is_end_yes, is_end_no}
use Rattle.ic_rbtree.proofs.Outermost.{opened, framed, up_starts, up_ends, step_up, up_falls, no_more_up}
use Rattle.ic_rbtree.proofs.steps.above_on.Goals as goal

pub parent-parent-requires : goal.parent-parent-requires
parent-parent-requires g c =
    let i = c.requires in
    record { linked = sym (g.met.L.RBTreeOps.linked_alike _) ∙ (opened g.L.RBTreeOps.node c.args.side i.2 i.3 i.5 i.6).linked }

pub child-requires : goal.child-requires
child-requires g c =
    let i = c.loop-parent.invariant.some in
    (framed g.L.RBTreeOps.node i.2 i.3 i.5 i.6 (sym c.loop-parent.invariant.parent ∙ c.in-Some.is)).linked

pub parent-parent-requires-in-Some : goal.parent-parent-requires-in-Some
parent-parent-requires-in-Some g c =
    let i = c.loop-parent.invariant.some in
    record { linked = sym (g.met.L.RBTreeOps.linked_alike _) ∙ (framed g.L.RBTreeOps.node i.2 i.3 i.5 i.6 (sym c.loop-parent.invariant.parent ∙ c.in-Some.is)).linked }

pub returns-then-not-is_at : goal.returns-then-not-is_at
returns-then-not-is_at g c base root fs t ps s e =
    let i = c.loop-parent.invariant.each base root fs t ps s e in
    up_ends g.L.RBTreeOps.node fs i.0 i.1 i.2 (sym c.loop-parent.invariant.parent ∙ c.in-Some.is) (λ k. is_end_no c.child.result c.loop-parent.place (sym c.if-not-is_at.ensures) (c.child.ensures ∙ k))

pub loop-parent-smaller : goal.loop-parent-smaller
loop-parent-smaller g c =
    let i = c.loop-parent.invariant.some in
    up_falls g.L.RBTreeOps.node (λ p e. g.met.L.LinkOps.linked_is_covered _ p (sym (g.met.L.RBTreeOps.linked_alike _) ∙ e)) i.2 i.3 i.5 i.6 (sym c.loop-parent.invariant.parent ∙ c.in-Some.is)

pub loop-parent-preserved : goal.loop-parent-preserved
loop-parent-preserved g c =
    let above = sym c.loop-parent.invariant.parent ∙ c.in-Some.is in
    let there = sym c.child.ensures ∙ is_end_yes c.child.result c.loop-parent.place (sym c.if-not-is_at.ensures) in
    record {
      parent = c.parent-parent-in-Some.ensures;
      some =
          let i = c.loop-parent.invariant.some in
          let u = step_up g.L.RBTreeOps.node {d = c.args.side} i.2 i.2 i.3 (up_starts g.L.RBTreeOps.node i.2 i.3 i.5 i.6) (sym c.loop-parent.invariant.parent ∙ c.in-Some.is) there in
          (i.0, i.1, u.0, u.1, i.4, u.2.stands, u.2.top_is);
      each = λ base root fs t ps s e.
          let i = c.loop-parent.invariant.each base root fs t ps s e in
          let u = step_up g.L.RBTreeOps.node fs i.0 i.1 i.2 (sym c.loop-parent.invariant.parent ∙ c.in-Some.is) there in
          (u.0, u.1, u.2);
    }

pub returns : goal.returns
returns g c base root fs t ps s e =
    let i = c.loop-parent.invariant.each base root fs t ps s e in
    no_more_up g.L.RBTreeOps.node fs i.0 i.1 i.2 (sym c.loop-parent.invariant.parent ∙ c.in_default.is)
