use Rattle.std.proofs.Common.{◌∙◌, sym, None}
use Rattle.ic_world.specs.declared.call.Refusal.TheVariants.{WrongKind}
use Rattle.ic_world.proofs.Readings.{in_list}
use Rattle.ic_world.proofs.Opened.{open_tests}
use Rattle.ic_world.proofs.Steps.{passes, fails}
use Rattle.ic_world.proofs.world.World.open_refused.Goals as goal

pub returns-then-not-carries : goal.returns-then-not-carries
returns-then-not-carries g c =
    sym (open_tests c.self.inside.adapter c.self.inside.objects c.self.inside.fields.items c.self.inside.collections c.self.view_is c.args.field c.args.kind c.index.result.now (in_list c.self.inside.fields.items c.if-field-len.false c.len.ensures c.self.inside.fields.ok.0) c.index.ensures ∙ fails _ WrongKind None (rw (← c.kind.ensures) (sym c.carries.ensures ∙ c.if-not-carries.true)))

pub returns : goal.returns
returns g c =
    sym (open_tests c.self.inside.adapter c.self.inside.objects c.self.inside.fields.items c.self.inside.collections c.self.view_is c.args.field c.args.kind c.index.result.now (in_list c.self.inside.fields.items c.if-field-len.false c.len.ensures c.self.inside.fields.ok.0) c.index.ensures ∙ passes _ WrongKind None (rw (← c.kind.ensures) (sym c.carries.ensures ∙ c.if-not-carries.false)))
