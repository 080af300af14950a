use Rattle.std.proofs.Common.{[], ◌∷◌, sym, ◌∙◌, arith}
use Rattle.ic_link_ops.proofs.Walks.{is_end_yes, is_end_no}
use Rattle.ic_rbtree.proofs.Closed.{in_there, in_parent}
use Rattle.ic_rbtree.proofs.Outermost.{up_starts, up_ends, step_up, no_more_up}
use Rattle.ic_rbtree.proofs.Heights.{length_frames_height}
use Rattle.ic_rbtree.proofs.bounded.above_bounded.Goals as goal

pub parent-parent-requires : goal.parent-parent-requires
parent-parent-requires g c = let r = c.requires in let k = r.1 in record { linked = k.1.linked c.args.place k.2.0 }

pub loop-parent-init : goal.loop-parent-init
loop-parent-init g c = record {
  parent = c.parent-parent.ensures;
  each = λ base root fs t ps s e. (fs, t, up_starts g.N.NodeStore.node fs t s e, omega arith);
  up = λ end e. e;
  safe = λ root S h i. i;
}

pub is_child-requires : goal.is_child-requires
is_child-requires g c =
    let r = c.requires in
    let k = r.1 in
    let here = c.loop-parent.invariant.safe r.0 k.0 k.1 k.2.0 in
    record {
      above = k.1.linked c.in-Some.above (in_there k.0 (in_parent g.N.NodeStore.node k.1 c.loop-parent.place here c.loop-parent.invariant.parent) c.in-Some.is);
      place = k.1.linked c.loop-parent.place here;
    }

pub parent-parent-requires-in-Some : goal.parent-parent-requires-in-Some
parent-parent-requires-in-Some g c =
    let r = c.requires in
    let k = r.1 in
    let here = c.loop-parent.invariant.safe r.0 k.0 k.1 k.2.0 in
    record { linked = k.1.linked c.in-Some.above (in_there k.0 (in_parent g.N.NodeStore.node k.1 c.loop-parent.place here c.loop-parent.invariant.parent) c.in-Some.is) }

pub returns-then-not-is_child-clause-nearest : goal.returns-then-not-is_child-clause-nearest
returns-then-not-is_child-clause-nearest g c base root fs t ps s e low =
    let i = c.loop-parent.invariant.each base root fs t ps s e in
    up_ends g.N.NodeStore.node fs i.0 i.1 i.2 (sym c.loop-parent.invariant.parent ∙ c.in-Some.is) (is_end_no _ c.loop-parent.place (sym c.if-not-is_child.ensures))

pub returns-then-not-is_child-clause-safe : goal.returns-then-not-is_child-clause-safe
returns-then-not-is_child-clause-safe g c root S h i =
    (h, (in_there S (in_parent g.N.NodeStore.node h c.loop-parent.place (c.loop-parent.invariant.safe root S h i.0) c.loop-parent.invariant.parent) c.in-Some.is, tt))

pub returns-then-turns-eq0-clause-nearest : goal.returns-then-turns-eq0-clause-nearest
returns-then-turns-eq0-clause-nearest g c base root fs t ps s e low =
    let i = c.loop-parent.invariant.each base root fs t ps s e in
    absurd (omega (arith, i.3, length_frames_height fs t, low, c.if-turns-eq0.true))

pub returns-then-turns-eq0-clause-safe : goal.returns-then-turns-eq0-clause-safe
returns-then-turns-eq0-clause-safe g c root S h i =
    (h, (in_there S (in_parent g.N.NodeStore.node h c.loop-parent.place (c.loop-parent.invariant.safe root S h i.0) c.loop-parent.invariant.parent) c.in-Some.is, tt))

pub loop-parent-preserved : goal.loop-parent-preserved
loop-parent-preserved g c = record {
  parent = c.parent-parent-in-Some.ensures;
  each = λ base root fs t ps s e.
      let i = c.loop-parent.invariant.each base root fs t ps s e in
      let u = step_up g.N.NodeStore.node fs i.0 i.1 i.2 (sym c.loop-parent.invariant.parent ∙ c.in-Some.is) (is_end_yes _ c.loop-parent.place (sym c.if-not-is_child.ensures)) in
      (u.0, u.1, u.2, omega (arith, u.3, i.3, c.if-turns-eq0.false));
  up = λ end e. c.loop-parent.invariant.up end (
    c.in-Some.above ∷ e.0,
    (sym c.loop-parent.invariant.parent ∙ c.in-Some.is, is_end_yes _ c.loop-parent.place (sym c.if-not-is_child.ensures), e.1),
  );
  safe = λ root S h i. in_there S (in_parent g.N.NodeStore.node h c.loop-parent.place (c.loop-parent.invariant.safe root S h i) c.loop-parent.invariant.parent) c.in-Some.is;
}

pub returns-clause-nearest : goal.returns-clause-nearest
returns-clause-nearest g c base root fs t ps s e low =
    let i = c.loop-parent.invariant.each base root fs t ps s e in
    no_more_up g.N.NodeStore.node fs i.0 i.1 i.2 (sym c.loop-parent.invariant.parent ∙ c.in_default.is)

pub returns-then-not-is_child-clause-up : goal.returns-then-not-is_child-clause-up
returns-then-not-is_child-clause-up g c = c.loop-parent.invariant.up _ ([], sym c.loop-parent.invariant.parent ∙ c.in-Some.is)

pub returns-then-turns-eq0-clause-up : goal.returns-then-turns-eq0-clause-up
returns-then-turns-eq0-clause-up g c = c.loop-parent.invariant.up _ ([], sym c.loop-parent.invariant.parent ∙ c.in-Some.is)

pub returns-clause-up : goal.returns-clause-up
returns-clause-up g c = c.loop-parent.invariant.up _ ([], sym c.loop-parent.invariant.parent ∙ c.in_default.is)
