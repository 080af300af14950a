use Rattle.std.proofs.Common.{◌∙◌, sym, refl}
use Rattle.ic_world.proofs.Entered.{pushed, not_pushed, not_refused, lists_kept, entered_by}
use Rattle.ic_world.proofs.collections_by_number.enter.Goals as goal

pub returns-then-is_err-2 : goal.returns-then-is_err-2
returns-then-is_err-2 g c =
    let list = c.index_mut-list.result.now in
    let in_bounds = not_refused c.cover_field.result (sym c.if-is_err.false ∙ c.is_err.ensures.value) c.cover_field.ensures.there in
    let back = not_pushed c.push.result (sym c.if-is_err-2.true ∙ c.is_err-2.ensures.value) list.items c.args.one c.push.ensures.items in
    lists_kept c.args.live.now.items c.cover_field.new.live.items c.cover_field.ensures.same c.args.field in_bounds list c.index_mut-list.ensures.value c.push.new.self back

pub returns : goal.returns
returns g c =
    let list = c.index_mut-list.result.now in
    let in_bounds = not_refused c.cover_field.result (sym c.if-is_err.false ∙ c.is_err.ensures.value) c.cover_field.ensures.there in
    let more = pushed c.push.result (sym c.if-is_err-2.false ∙ c.is_err-2.ensures.value) list.items c.args.one c.push.ensures.items in
    entered_by c.args.live.now.items c.cover_field.new.live.items c.cover_field.ensures.same c.args.field in_bounds list c.index_mut-list.ensures.value c.push.new.self c.args.one more
    (record { field = c.args.field; index = c.len-index.result }) refl (c.len-index.ensures ∙ list.ok.0) c.if-index.false
