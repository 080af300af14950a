use Rattle.std.proofs.Common.{◌∙◌, None, refl, sym, ap, subst, map, not}
use Rattle.std.specs.FinMap as map_of
use Rattle.ic_unsafe_ref.specs.Places.{index_of}
use Rattle.ic_world.specs.declared.call.Command.TheVariants.{RemoveObject}
use Rattle.ic_world.specs.declared.call.Refusal.TheVariants.{NoSuchObject, StillLinked}
use Rattle.ic_world.specs.Prelude.{done, refused, table_of, family_of, Step}
use Rattle.ic_world.proofs.ObjectChanges.{removed_whole}
use Rattle.ic_world.proofs.Steps.{step_accepted, step_refused, passes, fails}
use Rattle.ic_world.proofs.world.World.remove_object.Goals as goal

pub invariant_of-self : goal.invariant_of-self
invariant_of-self g c = (
  removed_whole c.self.invariant.0 c.args.object (c.into_box.ensures.freed.values ∙ ap (λ p. map_of.remove c.self.inside.objects.values (index_of p)) c.new.ensures)
      (sym (rw c.deref.ensures.value at c.is_linked_in_any.ensures) ∙ c.if-is_linked_in_any.false),
  record { none = c.self.invariant.1.none },
)

pub returns-then-is_linked_in_any-clause-step : goal.returns-then-is_linked_in_any-clause-step
returns-then-is_linked_in_any-clause-step g c =
    let w = family_of c.self.inside.adapter c.self.inside.objects (map table_of c.self.inside.fields.items) c.self.inside.collections in
    let linked = sym (rw c.deref.ensures.value at c.is_linked_in_any.ensures) ∙ c.if-is_linked_in_any.true in
    let first = passes _ NoSuchObject _ (sym c.is_placed.ensures ∙ c.if-not-is_placed.false) ∙ fails _ StillLinked None (ap not linked) in
    subst (λ old. Step g.A.Key.Ord.cmp g.A.KeyAdapter.key_of old (RemoveObject c.args.object) (refused StillLinked) old) c.self.view_is
    (step_refused g.A.Key.Ord.cmp g.A.KeyAdapter.key_of w (RemoveObject c.args.object) StillLinked first)

pub returns-clause-step : goal.returns-clause-step
returns-clause-step g c =
    let w = family_of c.self.inside.adapter c.self.inside.objects (map table_of c.self.inside.fields.items) c.self.inside.collections in
    let linked = sym (rw c.deref.ensures.value at c.is_linked_in_any.ensures) ∙ c.if-is_linked_in_any.false in
    let none = passes _ NoSuchObject _ (sym c.is_placed.ensures ∙ c.if-not-is_placed.false) ∙ passes _ StillLinked _ (ap not linked) in
    let values = c.into_box.ensures.freed.values ∙ ap (λ p. map_of.remove c.self.inside.objects.values (index_of p)) c.new.ensures in
    subst (λ old. Step g.A.Key.Ord.cmp g.A.KeyAdapter.key_of old (RemoveObject c.args.object) done (family_of c.self.inside.adapter c.into_box.new.objects (map table_of c.self.inside.fields.items) c.self.inside.collections)) c.self.view_is
    (step_accepted g.A.Key.Ord.cmp g.A.KeyAdapter.key_of w (RemoveObject c.args.object) done _ none (refl, λ i. record w { objects = values i }))
