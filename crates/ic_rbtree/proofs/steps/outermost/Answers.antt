use Rattle.std.proofs.Common.{sym, ◌∙◌}
use Rattle.ic_rbtree.proofs.Outermost.{opened, down_starts, step_down, down_falls, down_ends}
use Rattle.ic_rbtree.proofs.steps.outermost.Goals as goal

pub child-requires : goal.child-requires
child-requires g c =
    let i = c.loop-below.invariant.some in
    (opened g.L.RBTreeOps.node c.args.side i.2 i.3 i.5 i.6).linked

pub loop-below-smaller : goal.loop-below-smaller
loop-below-smaller g c =
    let i = c.loop-below.invariant.some in
    down_falls g.L.RBTreeOps.node (λ p e. g.met.L.LinkOps.linked_is_covered _ p (sym (g.met.L.RBTreeOps.linked_alike _) ∙ e)) c.args.side i.2 i.3 i.5 i.6 (sym c.in-Some.ensures)

pub loop-below-preserved : goal.loop-below-preserved
loop-below-preserved g c = record {
  some =
      let i = c.loop-below.invariant.some in
      let d = step_down g.L.RBTreeOps.node i.2 i.3 i.2 i.3 (down_starts g.L.RBTreeOps.node i.2 i.3 i.5 i.6) (sym c.in-Some.ensures) in
      (i.0, i.1, d.0, d.1, i.4, d.2.stands, d.2.top_is);
  each = λ base root fs t ps s e.
      let i = c.loop-below.invariant.each base root fs t ps s e in
      let d = step_down g.L.RBTreeOps.node fs t i.0 i.1 i.2 (sym c.in-Some.ensures) in
      (d.0, d.1, d.2);
}

pub returns : goal.returns
returns g c base root fs t ps s e =
    let i = c.loop-below.invariant.each base root fs t ps s e in
    down_ends g.L.RBTreeOps.node fs t i.0 i.1 i.2 (sym c.child.ensures ∙ c.in_default.is)
