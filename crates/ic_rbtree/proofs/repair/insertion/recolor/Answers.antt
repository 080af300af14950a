use Rattle.ic_rbtree.proofs.RedPairs.{recolors}
use Rattle.ic_rbtree.proofs.repair.insertion.recolor.Goals as goal

pub returns-clause-recolored : goal.returns-clause-recolored
returns-clause-recolored g c =
    recolors g.N.NodeStore.node _ _ _ _ c.args.parent c.args.uncle c.args.grand c.color_here-color.result c.color_here-color.ensures
    c.set_color.ensures.set c.set_color.ensures.frame c.set_color-2.ensures.set c.set_color-2.ensures.frame c.set_color-3.ensures.set c.set_color-3.ensures.frame

pub returns-clause-safe : goal.returns-clause-safe
returns-clause-safe g c root but S h i = c.set_color-3.ensures.safe root but S (c.set_color-2.ensures.safe root but S (c.set_color.ensures.safe root but S h i) i) i
