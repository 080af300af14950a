use Rattle.std.proofs.Common.{Bool, [], refl, sym, ◌∙◌, subst, true≢false}
use Rattle.ic_link_ops.specs.Prelude.{Place, join, ArePlaced}
use Rattle.ic_rbtree.specs.Prelude.{compared_within, meets_lower, is_beyond, gap_in, key_order, members}
use Rattle.ic_rbtree.proofs.Gaps.{gap_join}
use Rattle.ic_rbtree.proofs.tree.RBTree.range_by.Given.{Over}
use Rattle.ic_rbtree.specs.Tree.{adapter_of}
use Rattle.ic_rbtree.proofs.KeptHeads.{shown, placed_root}
use Rattle.ic_rbtree.proofs.Ranges.{back_placed, front_placed, walks_up, lower_rises, upper_rises, segment_is}
use Rattle.ic_rbtree.proofs.Sending.{lower_same, upper_same}
use Rattle.ic_rbtree.proofs.Walking.{none_between}
use Rattle.ic_rbtree.proofs.tree.RBTree.range_by.Goals as goal

-- all members of the tree are placed, so the members beside a gap of the tree are placed
beside : (g : Over) (c : goal.After-get-high g) (f : Place → Bool) → ArePlaced (g.O.Values.values c.args.objects.now) (join (gap_in f (placed_root (g.E.TreeHead.kept c.args.self.now.head) c.requires.placed).shown.tree))
beside g c f = let r = placed_root (g.E.TreeHead.kept c.args.self.now.head) c.requires.placed in subst (ArePlaced (g.O.Values.values c.args.objects.now)) (sym (gap_join f r.shown.tree ∙ r.shown.held.order)) r.placed

pub runs_up-requires-clause-low : goal.runs_up-requires-clause-low
runs_up-requires-clause-low g c =
    let r = placed_root (g.E.TreeHead.kept c.args.self.now.head) c.requires.placed in
    let f = meets_lower (compared_within (key_order g.A.Key.Ord.cmp g.A.KeyAdapter.key_of) (g.O.Values.values c.args.objects.now) c.args.min.now) in
    back_placed (g.O.Values.values c.args.objects.now) (gap_in f r.shown.tree) (beside g c f) c.get-low.result (c.get-low.ensures ∙ c.lower.ensures.lower r.members r.shown)

pub runs_up-requires-clause-high : goal.runs_up-requires-clause-high
runs_up-requires-clause-high g c =
    let r = placed_root (g.E.TreeHead.kept c.args.self.now.head) c.requires.placed in
    let f = is_beyond (compared_within (key_order g.A.Key.Ord.cmp g.A.KeyAdapter.key_of) (g.O.Values.values c.args.objects.now) c.args.max.now) in
    front_placed (g.O.Values.values c.args.objects.now) (gap_in f r.shown.tree) (beside g c f) c.get-high.result (c.get-high.ensures ∙ c.upper.ensures.upper r.members r.shown)

pub returns-clause-can_walk : goal.returns-clause-can_walk
returns-clause-can_walk g c =
    let r = placed_root (g.E.TreeHead.kept c.args.self.now.head) c.requires.placed in
    let a = adapter_of c.args.self.now in
    let k = g.A.KeyAdapter.key_of in
    rw c.root-root.ensures (walks_up g.met.A.Key.Ord.total k a (g.O.Values.values c.args.objects.now) g.L.RBTreeOps.node r.shown r.placed
    (lower_rises g.met.A.Key.Ord.total k a (g.O.Values.values c.args.objects.now) c.args.min.now c.requires.min_adapter)
    (upper_rises g.met.A.Key.Ord.total k a (g.O.Values.values c.args.objects.now) c.args.max.now c.requires.max_adapter)
    (c.get-low.ensures ∙ c.lower.ensures.lower r.members r.shown) (c.get-high.ensures ∙ c.upper.ensures.upper r.members r.shown) (sym c.runs_up.ensures ∙ c.if-not-runs_up.false))

pub returns-then-not-runs_up-clause-can_walk : goal.returns-then-not-runs_up-clause-can_walk
returns-then-not-runs_up-clause-can_walk g c =
    let r = placed_root (g.E.TreeHead.kept c.args.self.now.head) c.requires.placed in
    ([], record { front = []; back = r.members; shown = rw c.root-root.ensures r.shown; starts = refl; ends = refl }, tt)

pub returns-then-not-runs_up-clause-range : goal.returns-then-not-runs_up-clause-range
returns-then-not-runs_up-clause-range g c s h =
    let runs = sym c.runs_up.ensures ∙ c.if-not-runs_up.true in
    record {
      low = c.get-low.result;
      high = c.get-high.result;
      lower = lower_same refl c.get-low.ensures (c.lower.ensures.border s h);
      upper = upper_same refl c.get-high.ensures (c.upper.ensures.border s h);
      segment = λ up. absurd (true≢false (sym up ∙ runs));
      nothing = λ none. none_between (members g.L.RBTreeOps.node (g.L.LinkOps.table c.args.links.now) c.root-root.result);
    }

pub returns-clause-range : goal.returns-clause-range
returns-clause-range g c s h =
    let runs = sym c.runs_up.ensures ∙ c.if-not-runs_up.false in
    record {
      low = c.get-low.result;
      high = c.get-high.result;
      lower = lower_same refl c.get-low.ensures (c.lower.ensures.border s h);
      upper = upper_same refl c.get-high.ensures (c.upper.ensures.border s h);
      segment = λ up. segment_is g.L.RBTreeOps.node (λ q e. g.met.L.LinkOps.linked_is_covered c.args.links.now q (sym (g.met.L.RBTreeOps.linked_alike _) ∙ e)) (rw c.root-root.ensures (shown (g.E.TreeHead.kept c.args.self.now.head) h)) (returns-clause-can_walk g c).1;
      nothing = λ none. absurd (true≢false (sym runs ∙ none));
    }
