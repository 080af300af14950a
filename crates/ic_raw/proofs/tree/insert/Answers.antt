use Rattle.ic_raw.specs.Tree.{lent_table}
use Rattle.ic_raw.proofs.Trees.{in_range, end_in}
use Rattle.ic_raw.proofs.tree.insert.Goals as goal

pub put-requires : goal.put-requires
put-requires g c =
    let old = lent_table c.args.links.now in
    let law = in_range c.args.links.now in
    let ok = c.if-not-is_insert_pos.false in
    (end_in old law _ (c.is_insert_pos.ensures.at ok), (end_in old law _ (c.is_insert_pos.ensures.root ok), tt))
