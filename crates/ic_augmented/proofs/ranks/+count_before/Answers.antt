use Rattle.std.proofs.Common.{rules, ◌^◌, ◌+◌, ◌-◌, ℕ, min, sym, ap, ◌∙◌}
use Rattle.ic_augmented.proofs.SubtreeLemmas.{subtree_parent, subtree_up}
use Rattle.ic_augmented.proofs.RankLemmas.{before_right}
use Rattle.ic_augmented.proofs.ranks.+count_before.Goals as goal

pub count_before-before-requires : goal.count_before-before-requires
count_before-before-requires g t c κs within =
    let n = g.N.NodeStore.node in
    let v = g.N.NodeStore.table c.args.links.now in
    let r = c.requires in
    let up = subtree_up n v r.0 r.1 c.in-Some.above r.2 (sym (subtree_parent n v r.0 r.1 c.args.place r.2 r.3) ∙ (sym c.parent.ensures ∙ c.in-Some.is)) in
    search rules

pub returns : goal.returns
returns g t c fs u h s e low =
    let n = g.N.NodeStore.node in
    let v = g.N.NodeStore.table c.args.links.now in
    let parent = sym (subtree_parent n v fs u c.args.place h e) ∙ (sym c.parent.ensures ∙ c.in-Some.is) in
    before_right n v c.args.summaries.now.cells.items c.in-Some.above c.args.turns _ c.count_before-before.ensures _ c.right.ensures c.args.place _ _ _ fs u parent
    (sym c.is_at.ensures ∙ c.if-not-is_at.false) c.left.ensures c.total-beside.ensures
    (c.saturating_add-2.ensures ∙ ap (λ (y : ℕ). min (y + 1) (2 ^ 64 - 1)) c.saturating_add.ensures) h s e low
