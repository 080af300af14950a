use Rattle.std.proofs.Common.{◌∙◌, sym, subst, arith}
use Rattle.std.proofs.lemmas.List.{with_items_is}
use Rattle.ic_world.specs.Prelude.{NoneLeftLinked, left_in}
use Rattle.ic_world.proofs.ObjectChanges.{value_placed, none_grown}
use Rattle.ic_world.proofs.Steps.{from_ok}
use Rattle.ic_world.proofs.world.World.place.Goals as goal

pub invariant_of-self : goal.invariant_of-self
invariant_of-self g c =
    let grows = rw c.deref_mut.ensures.value at c.cover_all.ensures.grows in
    let left = rw c.deref_mut.ensures.value at c.cover_all.ensures.left in
    let none = subst (NoneLeftLinked (left_in c.self.inside.fields.items)) c.self.view_is c.self.invariant.1 in
    rw (with_items_is c.self.inside.fields c.cover_all.new.tables (c.cover_all.auto.tables ∙ c.deref_mut.ensures.len)) (
      (value_placed g.A.Key.Ord.cmp g.A.KeyAdapter.key_of c.self.invariant.0 c.self.view_is grows c.in-Some.ensures.1 c.is_ok-has_room.result
          (λ has. omega (arith, from_ok _ (sym c.is_ok-has_room.ensures.value ∙ has) c.cover_all.ensures.reaches, c.in-Some.ensures.0, c.index-count.ensures.value)) c.args.value c.place_in.result c.place_in.new.objects c.place_in.ensures.placed).0,
      rw left (none_grown g.A.Key.Ord.cmp g.A.KeyAdapter.key_of c.self.invariant.0 c.self.view_is grows none c.place_in.new.objects),
    )

pub returns-clause-step : goal.returns-clause-step
returns-clause-step g c =
    rw (with_items_is c.self.inside.fields c.cover_all.new.tables (c.cover_all.auto.tables ∙ c.deref_mut.ensures.len))
    (value_placed g.A.Key.Ord.cmp g.A.KeyAdapter.key_of c.self.invariant.0 c.self.view_is (rw c.deref_mut.ensures.value at c.cover_all.ensures.grows) c.in-Some.ensures.1 c.is_ok-has_room.result
    (λ has. omega (arith, from_ok _ (sym c.is_ok-has_room.ensures.value ∙ has) c.cover_all.ensures.reaches, c.in-Some.ensures.0, c.index-count.ensures.value)) c.args.value c.place_in.result c.place_in.new.objects c.place_in.ensures.placed).1
