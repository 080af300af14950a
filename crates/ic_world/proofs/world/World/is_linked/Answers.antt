use Rattle.std.proofs.Common.{◌∙◌, ◌<◌, sym, arith, length}
use Rattle.ic_world.proofs.FieldCalls.{covers_object, is_linked_step}
use Rattle.ic_world.proofs.world.World.is_linked.Goals as goal

pub is_linked-requires : goal.is_linked-requires
is_linked-requires g c =
    let fields = c.self.inside.fields in
    let in_bounds : c.args.field < length fields.items = omega (arith, fields.ok.0, c.len.ensures, c.if-field-len.false) in
    record { covered = covers_object fields.items c.self.invariant c.args.field c.index.result.now c.args.object in_bounds c.index.ensures (sym c.is_placed.ensures ∙ c.if-not-is_placed.false) }

pub returns : goal.returns
returns g c =
    let fields = c.self.inside.fields in
    let in_bounds : c.args.field < length fields.items = omega (arith, fields.ok.0, c.len.ensures, c.if-field-len.false) in
    rw (← c.self.view_is)
    (is_linked_step fields.items c.self.invariant g.A.Key.Ord.cmp g.A.KeyAdapter.key_of c.args.field c.index.result.now c.args.object in_bounds c.index.ensures (sym c.is_placed.ensures ∙ c.if-not-is_placed.false) c.is_linked.result c.is_linked.ensures)
