use Rattle.std.proofs.Common.{◌∙◌, sym}
use Rattle.ic_world.proofs.Entered.{pushed, lists_more}
use Rattle.ic_world.proofs.collections_by_number.cover_field.Goals as goal

pub loop-alloc-preserved : goal.loop-alloc-preserved
loop-alloc-preserved g c =
    let lists = c.loop-alloc.live.items in
    lists_more c.args.live.now.items lists c.new.result c.new.ensures.items c.loop-alloc.invariant c.push.new.self.items
    (pushed c.push.result (sym c.if-is_err.false ∙ c.is_err.ensures.value) lists c.new.result c.push.ensures.items)
