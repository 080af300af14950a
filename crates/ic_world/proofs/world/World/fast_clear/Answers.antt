use Rattle.std.proofs.Common.{◌∙◌, map, set, true, refl, arith, sym, subst}
use Rattle.std.proofs.lemmas.List.{length-map}
use Rattle.ic_world.specs.Prelude.{IsKept, table_of, at, family_of, Step, done}
use Rattle.ic_world.specs.declared.call.Command.TheVariants.{FastClear}
use Rattle.ic_world.proofs.Readings.{found, missing, is_there, none_there, one_read, with_is}
use Rattle.ic_world.proofs.FastCleared.{fast_cleared_kept, fast_cleared_step}
use Rattle.ic_world.proofs.world.World.fast_clear.Goals as goal

pub members_mut-requires : goal.members_mut-requires
members_mut-requires g c = is_there (at c.self.inside.collections c.args.collection) (sym c.in-Some.is ∙ c.field_of.ensures)

pub index_mut-requires : goal.index_mut-requires
index_mut-requires g c =
    let cs = c.self.inside.collections in
    let fields = c.self.inside.fields in
    let is = one_read (at cs c.args.collection) c.in-Some.field c.members_mut.result.now (sym c.in-Some.is ∙ c.field_of.ensures) c.members_mut.ensures.value in
    omega (arith, c.self.invariant.0.in_field c.args.collection _ is, length-map fields.items table_of, fields.ok.0)

pub returns-in_default : goal.returns-in_default
returns-in_default g c =
    let cs = c.self.inside.collections in
    rw (missing c.self.inside.adapter c.self.inside.objects (map table_of c.self.inside.fields.items) cs c.args.collection (none_there (at cs c.args.collection) (sym c.in_default.is ∙ c.field_of.ensures)) c.self.view_is) (refl, refl)

pub invariant_of-self : goal.invariant_of-self
invariant_of-self g c =
    let cs = c.self.inside.collections in
    let is = one_read (at cs c.args.collection) c.in-Some.field c.members_mut.result.now (sym c.in-Some.is ∙ c.field_of.ensures) c.members_mut.ensures.value in
    let at_k = found c.self.inside.fields.items c.self.invariant is c.index_mut.ensures.value in
    let e = c.take.ensures in
    subst (IsKept c.self.inside.adapter c.self.inside.objects c.self.inside.room _) (sym (with_is cs c.args.collection _ is c.take.new.self))
    (fast_cleared_kept c.self.invariant at_k c.take.new.self (record { kept = e.empty; alike = e.empty_alike; null = e.empty_null }))

pub returns : goal.returns
returns g c =
    let cs = c.self.inside.collections in
    let fields = c.self.inside.fields.items in
    let n = c.args.collection in
    let is = one_read (at cs n) c.in-Some.field c.members_mut.result.now (sym c.in-Some.is ∙ c.field_of.ensures) c.members_mut.ensures.value in
    let at_k = found fields c.self.invariant is c.index_mut.ensures.value in
    let e = c.take.ensures in
    let shown = family_of c.self.inside.adapter c.self.inside.objects (map table_of (set fields c.in-Some.field (record c.index_mut.result.now { left_linked = true }))) in
    subst (λ x. Step g.A.Key.Ord.cmp g.A.KeyAdapter.key_of c.args.self.now (FastClear n) done (shown x)) (sym (with_is cs n _ is c.take.new.self))
    (fast_cleared_step c.self.invariant at_k c.take.new.self (record { kept = e.empty; alike = e.empty_alike; null = e.empty_null }) g.A.Key.Ord.cmp g.A.KeyAdapter.key_of c.self.view_is)
