use Rattle.std.proofs.Common.{sym, ◌∙◌}
use Rattle.ic_rbtree.proofs.BlackSiblings.{color_then, reddens_on, reddens_out}
use Rattle.ic_rbtree.proofs.repair.removal.redden_sibling.Goals as goal

pub returns-then-is_red-clause-reddened : goal.returns-then-is_red-clause-reddened
returns-then-is_red-clause-reddened g c root d x sib k h none =
    let n = g.N.NodeStore.node in
    let red = sym c.if-is_red.true ∙ color_then n h none c.set_color.ensures.set c.set_color.ensures.frame c.is_red.result c.is_red.ensures in
    (red, λ e. reddens_out n h none c.set_color.ensures.set c.set_color.ensures.frame (sym red) c.set_color-then-is_red.ensures.set c.set_color-then-is_red.ensures.frame, λ e. cc)

pub returns-clause-reddened : goal.returns-clause-reddened
returns-clause-reddened g c root d x sib k h none =
    let n = g.N.NodeStore.node in
    let black = sym c.if-is_red.false ∙ color_then n h none c.set_color.ensures.set c.set_color.ensures.frame c.is_red.result c.is_red.ensures in
    (black, λ e. cc, λ e. reddens_on n h none c.set_color.ensures.set c.set_color.ensures.frame (sym black))

pub returns-then-is_red-clause-safe : goal.returns-then-is_red-clause-safe
returns-then-is_red-clause-safe g c root but S h i = c.set_color-then-is_red.ensures.safe root but S (c.set_color.ensures.safe root but S h i) i
