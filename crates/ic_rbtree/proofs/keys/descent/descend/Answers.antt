use Rattle.std.proofs.Common.{◌≡◌, Bool, true, false, cond, Option, Some, None, refl, sym, ◌∙◌, arith}
use Rattle.ic_link_ops.specs.Prelude.{Place, Node, node_at}
use Rattle.ic_link_ops.specs.Frames.{child_on}
use Rattle.ic_rbtree.specs.Descents.{side_of}
use Rattle.ic_rbtree.proofs.Sending.{Comes, comes_first, comes_on, sent_linked, sent_room, sent_placed, sent_ends, sent_looks}
use Rattle.ic_rbtree.proofs.keys.descent.descend.Goals as goal
use Rattle.ic_rbtree.proofs.keys.descent.descend.Goals.{After-pick}
use Rattle.ic_rbtree.proofs.keys.descent.descend.Given.{Over}

pub loop-at-init : goal.loop-at-init
loop-at-init g c = comes_first g.L.RBTreeOps.node g.P.Probe.order g.P.Probe.count (g.O.Values.values c.args.objects.now) c.new-descent.ensures

pub left-left-requires : goal.left-left-requires
left-left-requires g c =
    let r = c.requires.placed in
    record { linked = sym (g.met.L.RBTreeOps.linked_alike _) ∙ sent_linked g.L.RBTreeOps.node (c.loop-at.invariant.each r.members r.shown) c.in-Some.is }

pub right-right-requires : goal.right-right-requires
right-right-requires g c =
    let r = c.requires.placed in
    record { linked = sym (g.met.L.RBTreeOps.linked_alike _) ∙ sent_linked g.L.RBTreeOps.node (c.loop-at.invariant.each r.members r.shown) c.in-Some.is }

pub compare-goes_left-requires : goal.compare-goes_left-requires
compare-goes_left-requires g c =
    let r = c.requires.placed in
    let x = c.loop-at.invariant.each r.members r.shown in
    record {
      placed = sent_placed g.L.RBTreeOps.node x c.in-Some.is (g.O.Values.values c.args.objects.now) r.shown refl r.placed;
      room = sent_room g.L.RBTreeOps.node x c.in-Some.is r.shown refl c.requires.room;
    }

-- the child that the descent selects is the child on the side to which it goes
picked_child : (left : Bool) (n : Node) {a b : Option Place} → a ≡ n.left → b ≡ n.right → cond left a b ≡ child_on (side_of left) n
picked_child true n a_is b_is = a_is
picked_child false n a_is b_is = b_is

to_picked : (g : Over) (c : After-pick g) (next : Option Place) → c.pick.result ≡ next
    → Comes g.L.RBTreeOps.node g.P.Probe.order g.P.Probe.count (g.O.Values.values c.args.objects.now) (g.L.LinkOps.table c.args.links.now) c.args.root c.args.equals c.args.probe.now c.compare-goes_left.new.probe next c.compare-goes_left.new.self
to_picked g c next is =
    comes_on g.L.RBTreeOps.node g.P.Probe.order g.P.Probe.count (g.O.Values.values c.args.objects.now)
    c.loop-at.invariant c.in-Some.is c.compare-goes_left.result c.compare-goes_left.ensures.passed c.compare-goes_left.ensures.left
    (sym is ∙ c.pick.ensures ∙ picked_child c.compare-goes_left.result (node_at g.L.RBTreeOps.node (g.L.LinkOps.table c.args.links.now) c.in-Some.place) c.left-left.ensures c.right-right.ensures)
    c.compare-goes_left.ensures.counted c.compare-goes_left.ensures.same

pub loop-at-smaller : goal.loop-at-smaller
loop-at-smaller g c =
    let r = c.requires.placed in
    let room = sent_room g.L.RBTreeOps.node (c.loop-at.invariant.each r.members r.shown) c.in-Some.is r.shown refl c.requires.room in
    omega (arith, room, c.compare-goes_left.ensures.counted)

pub loop-at-preserved : goal.loop-at-preserved
loop-at-preserved g c = to_picked g c.before (Some c.in-Some-pick.next) c.in-Some-pick.is

pub returns-in_default-pick-clause-ends : goal.returns-in_default-pick-clause-ends
returns-in_default-pick-clause-ends g c s h = sent_ends g.L.RBTreeOps.node ((to_picked g c.before.before.before None c.in_default-pick.is).each s h) refl

pub returns-in_default-pick-clause-looks : goal.returns-in_default-pick-clause-looks
returns-in_default-pick-clause-looks g c s h =
    let x = to_picked g c.before.before.before None c.in_default-pick.is in sent_looks g.L.RBTreeOps.node g.P.Probe.order g.P.Probe.count h (x.each s h) refl x.same

pub returns-clause-ends : goal.returns-clause-ends
returns-clause-ends g c s h = sent_ends g.L.RBTreeOps.node (c.loop-at.invariant.each s h) c.in_default.is

pub returns-clause-looks : goal.returns-clause-looks
returns-clause-looks g c s h =
    sent_looks g.L.RBTreeOps.node g.P.Probe.order g.P.Probe.count h (c.loop-at.invariant.each s h) c.in_default.is c.loop-at.invariant.same
