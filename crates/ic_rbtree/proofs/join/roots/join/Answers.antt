use Rattle.ic_rbtree.proofs.Pairs.{pair_root, pair_low, pair_swapped}
use Rattle.ic_rbtree.proofs.join.roots.join.Goals as goal

pub black_height-requires : goal.black_height-requires
black_height-requires g c = let x = c.requires.1 in (c.requires.0.one, pair_root g.N.NodeStore.node x, pair_low g.N.NodeStore.node x)

pub black_height-requires-2 : goal.black_height-requires-2
black_height-requires-2 g c = let x = pair_swapped g.N.NodeStore.node c.requires.1 in (c.requires.0.two, pair_root g.N.NodeStore.node x, pair_low g.N.NodeStore.node x)

pub join_measured-requires : goal.join_measured-requires
join_measured-requires g c = let x = c.requires.1 in let n = g.N.NodeStore.node in (
  c.requires.0,
  record {
    pair = x;
    one_height = c.black_height.ensures _ (pair_root n x) (pair_low n x);
    two_height = c.black_height-2.ensures _ (pair_root n (pair_swapped n x)) (pair_low n (pair_swapped n x));
  },
)

pub returns-clause-joined : goal.returns-clause-joined
returns-clause-joined g c k x = let n = g.N.NodeStore.node in
    (c.join_measured.ensures.joined k (record {
      pair = x;
      one_height = c.black_height.ensures _ (pair_root n x) (pair_low n x);
      two_height = c.black_height-2.ensures _ (pair_root n (pair_swapped n x)) (pair_low n (pair_swapped n x));
    })).0
