use Rattle.std.proofs.Common.{arith}
use Rattle.ic_rbtree.proofs.Cuts.{lowest, rest_is, count_low, back_pair, are_back_pair, cut_back, front_pair, are_front_pair, cut_front}
use Rattle.ic_rbtree.proofs.join.cut.cut_off.Goals as goal

pub detach-rest-requires-clause-low : goal.detach-rest-requires-clause-low
detach-rest-requires-clause-low g c =
    let x = c.requires.2 in
    let low = lowest c.requires.1.frames c.args.side c.args.place x.parent_is x.side_is in
    omega (arith, count_low g.N.NodeStore.node x.cut c.args.side low.0 c.args.place low.1 low.2 low.3, x.height_is)

pub join_measured-requires : goal.join_measured-requires
join_measured-requires g c =
    let n = g.N.NodeStore.node in
    let x = c.requires.2 in
    let low = lowest c.requires.1.frames c.args.side c.args.place x.parent_is x.side_is in
    let re = rest_is n x.cut c.args.side low.0 c.args.place low.1 low.2 low.3 c.other.ensures c.child-rest.ensures in (
      back_pair n x.cut c.args.side low.0 c.args.place low.1 low.2 low.3 re x.height_is c.detach-rest.ensures.detached,
      are_back_pair n x.cut c.args.side low.0 c.args.place low.1 low.2 low.3 re x.height_is c.detach-rest.ensures.detached,
    )

pub join_measured-requires-in-Right : goal.join_measured-requires-in-Right
join_measured-requires-in-Right g c =
    let n = g.N.NodeStore.node in
    let x = c.requires.2 in
    let low = lowest c.requires.1.frames c.args.side c.args.place x.parent_is x.side_is in
    let re = rest_is n x.cut c.args.side low.0 c.args.place low.1 low.2 low.3 c.other.ensures c.child-rest.ensures in (
      front_pair n x.cut c.args.side low.0 c.args.place low.1 low.2 low.3 re x.height_is c.detach-rest.ensures.detached,
      are_front_pair n x.cut c.args.side low.0 c.args.place low.1 low.2 low.3 re x.height_is c.detach-rest.ensures.detached,
    )

pub returns-in-Left-clause-cut : goal.returns-in-Left-clause-cut
returns-in-Left-clause-cut g c root k tint b fs is level x =
    let n = g.N.NodeStore.node in
    let re = rest_is n x c.args.side tint c.args.place b fs is c.other.ensures c.child-rest.ensures in
    let off = c.detach-rest.ensures.detached in
    cut_back n x c.args.side tint c.args.place b fs is re level off c.in-Left.is
    (c.join_measured.ensures.joined (back_pair n x c.args.side tint c.args.place b fs is re level off) (are_back_pair n x c.args.side tint c.args.place b fs is re level off))

pub returns-in-Right-clause-cut : goal.returns-in-Right-clause-cut
returns-in-Right-clause-cut g c root k tint b fs is level x =
    let n = g.N.NodeStore.node in
    let re = rest_is n x c.args.side tint c.args.place b fs is c.other.ensures c.child-rest.ensures in
    let off = c.detach-rest.ensures.detached in
    cut_front n x c.args.side tint c.args.place b fs is re level off c.in-Right.is
    (c.join_measured-in-Right.ensures.joined (front_pair n x c.args.side tint c.args.place b fs is re level off) (are_front_pair n x c.args.side tint c.args.place b fs is re level off))
