use Rattle.std.proofs.Common.{[], ◌∷◌, refl, sym, ap, ◌∙◌, arith}
use Rattle.ic_rbtree.specs.Height.{height}
use Rattle.ic_rbtree.proofs.Closed.{in_there, in_child}
use Rattle.ic_rbtree.proofs.Outermost.{down_starts, step_down, down_ends}
use Rattle.ic_rbtree.proofs.Heights.{length_frames_height}
use Rattle.ic_rbtree.proofs.bounded.outermost_bounded.Goals as goal

pub loop-init : goal.loop-init
loop-init g c = record {
  each = λ base root fs t ps s e. (fs, t, down_starts g.N.NodeStore.node fs t s e, omega arith);
  below = λ y b. b;
  safe = λ root S h i. i;
}

pub child-requires : goal.child-requires
child-requires g c = let r = c.requires in let k = r.1 in k.1.linked c.loop.place (c.loop.invariant.safe r.0 k.0 k.1 k.2.0)

pub loop-preserved : goal.loop-preserved
loop-preserved g c = record {
  each = λ base root fs t ps s e.
      let i = c.loop.invariant.each base root fs t ps s e in
      let d = step_down g.N.NodeStore.node fs t i.0 i.1 i.2 (sym c.in-Some.ensures) in
      (d.0, d.1, d.2, omega (arith, d.3, i.3));
  below = λ y b. c.loop.invariant.below y (c.in-Some.below ∷ b.0, (sym c.child.ensures ∙ c.in-Some.is, b.1));
  safe = λ root S h i. in_there S (in_child g.N.NodeStore.node h _ c.loop.place (c.loop.invariant.safe root S h i) c.child.ensures) c.in-Some.is;
}

pub returns-in_default-clause-outermost : goal.returns-in_default-clause-outermost
returns-in_default-clause-outermost g c base root fs t ps s e low =
    let i = c.loop.invariant.each base root fs t ps s e in
    down_ends g.N.NodeStore.node fs t i.0 i.1 i.2 (sym c.child.ensures ∙ c.in_default.is)

pub returns-in_default-clause-below : goal.returns-in_default-clause-below
returns-in_default-clause-below g c = c.loop.invariant.below c.loop.place ([], refl)

pub returns-in_default-clause-safe : goal.returns-in_default-clause-safe
returns-in_default-clause-safe g c root S h i = (h, (c.loop.invariant.safe root S h i.0, tt))

pub returns-clause-outermost : goal.returns-clause-outermost
returns-clause-outermost g c base root fs t ps s e low =
    let i = c.loop.invariant.each base root fs t ps s e in
    absurd (omega (arith, i.3, length_frames_height i.0 i.1, ap height i.2.same, low))

pub returns-clause-safe : goal.returns-clause-safe
returns-clause-safe g c root S h i = (h, (c.loop.invariant.safe root S h i.0, tt))

pub returns-clause-below : goal.returns-clause-below
returns-clause-below g c = c.loop.invariant.below c.loop.place ([], refl)
