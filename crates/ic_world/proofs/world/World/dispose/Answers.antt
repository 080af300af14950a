use Rattle.std.proofs.Common.{◌∙◌, sym, ap, subst, map, None}
use Rattle.ic_world.specs.Prelude.{with_collection, done, NoneLeftLinked, IsKept, table_of, left_in, family_of, Step}
use Rattle.ic_world.specs.declared.call.Command.TheVariants.{Dispose}
use Rattle.ic_world.proofs.Disposed.{dropped_whole, dropped_family, dispose_refused, disposed, none_disposed}
use Rattle.ic_world.proofs.world.World.dispose.Goals as goal

pub invariant_of-self : goal.invariant_of-self
invariant_of-self g c =
    let fields = c.self.inside.fields.items in
    let cs = c.self.inside.collections in
    let mid = subst (NoneLeftLinked (left_in fields)) c.self.view_is c.self.invariant.1 in
    let none = none_disposed g.A.Key.Ord.cmp g.A.KeyAdapter.key_of c.args.self.now c.call.new.self c.args.collection c.in-Ok.ensures mid in
    subst (IsKept c.self.inside.adapter c.self.inside.objects c.self.inside.room fields) (sym c.dispose.ensures) (
      dropped_whole c.self.invariant.0 c.args.collection,
      rw (dropped_family c.self.inside.adapter c.self.inside.objects (map table_of fields) cs c.args.collection)
          (subst (λ w. NoneLeftLinked (left_in fields) (with_collection w c.args.collection None)) (sym c.self.view_is) none),
    )

pub returns-in-Err : goal.returns-in-Err
returns-in-Err g c = dispose_refused g.A.Key.Ord.cmp g.A.KeyAdapter.key_of c.args.self.now c.call.new.self c.args.collection c.in-Err.refusal c.in-Err.ensures

pub returns-in-Ok : goal.returns-in-Ok
returns-in-Ok g c =
    let old = c.args.self.now in
    let shown = family_of c.self.inside.adapter c.self.inside.objects (map table_of c.self.inside.fields.items) in
    let family = ap shown c.dispose.ensures ∙ dropped_family c.self.inside.adapter c.self.inside.objects (map table_of c.self.inside.fields.items) c.self.inside.collections c.args.collection ∙ ap (λ w. with_collection w c.args.collection None) c.self.view_is in
    subst (Step g.A.Key.Ord.cmp g.A.KeyAdapter.key_of old (Dispose c.args.collection) done) (sym family) (disposed g.A.Key.Ord.cmp g.A.KeyAdapter.key_of old c.call.new.self c.args.collection c.in-Ok.ensures)
