use Rattle.std.proofs.Common.{sym, ◌∙◌}
use Rattle.ic_link_ops.proofs.SequenceLemmas.{none_not}
use Rattle.ic_rbtree.proofs.Closed.{in_there, in_parent, in_linked}
use Rattle.ic_rbtree.proofs.RedPairs.{done_top, done_black, pair_at, grand_is, grand_same, grand_frames, fixed_below}
use Rattle.ic_rbtree.proofs.repair.insertion.fix_red_parent.Goals as goal

pub returns-in_err-parent-clause-fixed : goal.returns-in_err-parent-clause-fixed
returns-in_err-parent-clause-fixed g c k h up = rw c.from_residual.ensures (done_top g.N.NodeStore.node h c.args.parent up c.in_err-parent.was)

pub is_red-requires : goal.is_red-requires
is_red-requires g c q e =
    let n = g.N.NodeStore.node in
    let r = c.requires in
    in_linked n r.1 r.2.1.0 q (c.in_ok-parent.was ∙ e)

pub parent-requires : goal.parent-requires
parent-requires g c =
    let n = g.N.NodeStore.node in
    let r = c.requires in
    record { linked = in_linked n r.1 r.2.1.0 c.in_ok-parent.parent c.in_ok-parent.was }

pub returns-then-not-is_red-clause-fixed : goal.returns-then-not-is_red-clause-fixed
returns-then-not-is_red-clause-fixed g c k h up =
    done_black g.N.NodeStore.node h c.args.parent up c.in_ok-parent.parent c.in_ok-parent.was c.is_red.result c.is_red.ensures c.if-not-is_red.true

pub returns-in_err-grand-clause-fixed : goal.returns-in_err-grand-clause-fixed
returns-in_err-grand-clause-fixed g c k h up =
    let n = g.N.NodeStore.node in
    let y = pair_at n h c.args.parent up c.in_ok-parent.parent c.in_ok-parent.was c.is_red.result c.is_red.ensures c.if-not-is_red.false in
    absurd (none_not y.g (sym c.in_err-grand.was ∙ (c.parent.ensures ∙ grand_is n y.at)))

pub fix_red_pair-requires : goal.fix_red_pair-requires
fix_red_pair-requires g c =
    let n = g.N.NodeStore.node in
    let r = c.requires in
    let up = in_there r.0 r.2.1.0 c.in_ok-parent.was in
    (r.0, r.1, (r.2.0, (up, (in_there r.0 (in_parent n r.1 c.in_ok-parent.parent up c.parent.ensures) c.in_ok-grand.was, tt))))

pub returns-clause-fixed : goal.returns-clause-fixed
returns-clause-fixed g c k h up =
    let n = g.N.NodeStore.node in
    let y = pair_at n h c.args.parent up c.in_ok-parent.parent c.in_ok-parent.was c.is_red.result c.is_red.ensures c.if-not-is_red.false in
    fixed_below n _ c.fix_red_pair.new.root k c.in_ok-parent.parent c.in_ok-grand.grand y.side y.around y.fs c.fix_red_pair.result
    (grand_frames n y c.parent.result c.in_ok-grand.grand c.parent.ensures c.in_ok-grand.was)
    (c.fix_red_pair.ensures.fixed y.side y.around (record k { frames = y.fs }) (grand_same n y c.parent.result c.in_ok-grand.grand c.parent.ensures c.in_ok-grand.was))

pub returns-clause-safe : goal.returns-clause-safe
returns-clause-safe g c S h i =
    let n = g.N.NodeStore.node in
    let up = in_there S i.1.0 c.in_ok-parent.was in
    c.fix_red_pair.ensures.safe S h (i.0, (up, (in_there S (in_parent n h c.in_ok-parent.parent up c.parent.ensures) c.in_ok-grand.was, tt)))
