use Rattle.std.proofs.Common.{rules, sym, ◌∙◌, Some}
use Rattle.ic_link_ops.proofs.Prelude.{some_same, is_end_yes}
use Rattle.ic_augmented.proofs.ChangeLemmas.{among_here, among_up}
use Rattle.ic_augmented.proofs.SubtreeLemmas.{subtree_parent, subtree_up, fewer_above}
use Rattle.ic_augmented.proofs.climb.+is_above.Goals as goal

pub returns-then-is_at : goal.returns-then-is_at
returns-then-is_at g t c truth fs u h e =
    among_here g.N.NodeStore.node (g.N.NodeStore.table c.args.links.now) fs u c.args.place c.in-Some.above c.args.edge h e (sym c.parent.ensures ∙ c.in-Some.is)
    (some_same (is_end_yes (Some c.in-Some.above) c.args.edge (sym c.is_at.ensures ∙ c.if-is_at.true)))

pub is_above-requires : goal.is_above-requires
is_above-requires g t c κs within =
    let n = g.N.NodeStore.node in
    let v = g.N.NodeStore.table c.args.links.now in
    let r = c.requires in
    let up = subtree_up n v r.0 r.1 c.in-Some.above r.2 (sym (subtree_parent n v r.0 r.1 c.args.place r.2 r.3) ∙ (sym c.parent.ensures ∙ c.in-Some.is)) in
    let less = fewer_above n v r.0 r.1 c.args.place c.in-Some.above r.2 r.3 (sym (subtree_parent n v r.0 r.1 c.args.place r.2 r.3) ∙ (sym c.parent.ensures ∙ c.in-Some.is)) in
    search rules

pub returns : goal.returns
returns g t c truth fs u h e =
    among_up g.N.NodeStore.node (g.N.NodeStore.table c.args.links.now) fs u c.args.place c.in-Some.above c.args.edge h e (sym c.parent.ensures ∙ c.in-Some.is) (c.is_above.ensures truth)
