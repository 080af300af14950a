use Rattle.std.proofs.Common.{◌∙◌, sym}
use Rattle.ic_world.proofs.Readings.{in_list}
use Rattle.ic_world.proofs.FieldCalls.{covers_object, unlinked_by}
use Rattle.ic_world.proofs.world.World.force_unlink.Goals as goal

pub force_unlink-requires : goal.force_unlink-requires
force_unlink-requires g c =
    let fields = c.self.inside.fields in
    record { covered = covers_object fields.items c.self.invariant c.args.field c.index_mut.result.now c.args.object (in_list fields.items c.if-field-len.false c.len.ensures fields.ok.0) c.index_mut.ensures.value (sym c.is_placed.ensures ∙ c.if-not-is_placed.false) }

pub invariant_of-self : goal.invariant_of-self
invariant_of-self g c =
    let fields = c.self.inside.fields in
    let e = c.force_unlink.ensures in
    (unlinked_by fields.items c.self.inside.collections c.self.invariant c.args.field c.args.object (in_list fields.items c.if-field-len.false c.len.ensures fields.ok.0) c.index_mut.result.now c.index_mut.ensures.value c.force_unlink.new.self e.unlinked e.frame c.self.view_is (sym c.is_member.ensures ∙ c.if-is_member.false) g.A.Key.Ord.cmp g.A.KeyAdapter.key_of (sym c.is_placed.ensures ∙ c.if-not-is_placed.false)).0

pub returns : goal.returns
returns g c =
    let fields = c.self.inside.fields in
    let e = c.force_unlink.ensures in
    (unlinked_by fields.items c.self.inside.collections c.self.invariant c.args.field c.args.object (in_list fields.items c.if-field-len.false c.len.ensures fields.ok.0) c.index_mut.result.now c.index_mut.ensures.value c.force_unlink.new.self e.unlinked e.frame c.self.view_is (sym c.is_member.ensures ∙ c.if-is_member.false) g.A.Key.Ord.cmp g.A.KeyAdapter.key_of (sym c.is_placed.ensures ∙ c.if-not-is_placed.false)).1
