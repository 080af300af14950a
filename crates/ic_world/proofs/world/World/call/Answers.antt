use Rattle.std.proofs.Common.{◌≡◌, ◌∙◌, refl, sym, ap, arith, map, set, subst}
use Rattle.std.proofs.lemmas.List.{length-map}
use Rattle.std.proofs.lemmas.Option.{same_Some}
use Rattle.ic_world.specs.Prelude.{names, its_field, IsKept, StepOn, table_of, at, family_of}
use Rattle.ic_world.specs.Replies.{reply_of}
use Rattle.ic_world.proofs.Readings.{found, missing, is_there, some_read, none_there, one_read, with_is}
use Rattle.ic_world.proofs.CollectionCall.{room_for, placed_by, kept_by, step_by, step_unplaced}
use Rattle.ic_world.proofs.world.World.call.Goals as goal

pub returns-in_default : goal.returns-in_default
returns-in_default g c =
    let cs = c.self.inside.collections in
    rw (missing c.self.inside.adapter c.self.inside.objects (map table_of c.self.inside.fields.items) cs c.args.collection (none_there (at cs c.args.collection) (sym c.in_default.is ∙ c.field_of.ensures)) c.self.view_is) (refl, refl)

pub returns-then-not-is_placed : goal.returns-then-not-is_placed
returns-then-not-is_placed g c =
    let cs = c.self.inside.collections in
    let n = c.args.collection in
    let k = some_read (at cs n) (sym c.in-Some.is ∙ c.field_of.ensures) in
    step_unplaced g.A.Key.Ord.cmp g.A.KeyAdapter.key_of c.self.inside.adapter c.self.inside.objects (map table_of c.self.inside.fields.items) cs n k.0 (g.C.CollectionCall.call c.args.call.now) c.self.view_is k.1 (sym c.is_placed.ensures ∙ c.if-not-is_placed.true)

pub index_mut-requires : goal.index_mut-requires
index_mut-requires g c =
    let cs = c.self.inside.collections in
    let fields = c.self.inside.fields in
    let n = c.args.collection in
    let k = some_read (at cs n) (sym c.in-Some.is ∙ c.field_of.ensures) in
    let field : c.in-Some.field ≡ k.0.field = same_Some _ _ (sym c.in-Some.is ∙ c.field_of.ensures ∙ ap its_field k.1) in
    omega (arith, field, c.self.invariant.0.in_field n _ k.1, length-map fields.items table_of, fields.ok.0)

pub members_mut-members-requires : goal.members_mut-members-requires
members_mut-members-requires g c = is_there (at c.self.inside.collections c.args.collection) (sym c.in-Some.is ∙ c.field_of.ensures)

pub run-requires : goal.run-requires
run-requires g c =
    let cs = c.self.inside.collections in
    let fields = c.self.inside.fields.items in
    let n = c.args.collection in
    let is = one_read (at cs n) c.in-Some.field c.members_mut-members.result.now (sym c.in-Some.is ∙ c.field_of.ensures) c.members_mut-members.ensures.value in
    let at_k = found fields c.self.invariant is c.index_mut.ensures.value in
    let placed = sym c.is_placed.ensures ∙ c.if-not-is_placed.false in
    record { held = at_k.held; covered = room_for c.self.invariant at_k (names (g.C.CollectionCall.call c.args.call.now)) placed; named = placed; placed = placed_by c.self.invariant at_k }

pub invariant_of-self : goal.invariant_of-self
invariant_of-self g c =
    let cs = c.self.inside.collections in
    let fields = c.self.inside.fields.items in
    let n = c.args.collection in
    let is = one_read (at cs n) c.in-Some.field c.members_mut-members.result.now (sym c.in-Some.is ∙ c.field_of.ensures) c.members_mut-members.ensures.value in
    let at_k = found fields c.self.invariant is c.index_mut.ensures.value in
    let placed = sym c.is_placed.ensures ∙ c.if-not-is_placed.false in
    subst (IsKept c.self.inside.adapter c.self.inside.objects c.self.inside.room _) (sym (with_is cs n _ is c.run.new.members))
    (kept_by c.self.invariant at_k g.A.Key.Ord.cmp g.A.KeyAdapter.key_of (g.C.CollectionCall.call c.args.call.now) placed g.C.CollectionCall.reply c.run.result c.run.new.links c.run.new.members c.run.ensures)

pub returns : goal.returns
returns g c =
    let cs = c.self.inside.collections in
    let fields = c.self.inside.fields.items in
    let n = c.args.collection in
    let is = one_read (at cs n) c.in-Some.field c.members_mut-members.result.now (sym c.in-Some.is ∙ c.field_of.ensures) c.members_mut-members.ensures.value in
    let at_k = found fields c.self.invariant is c.index_mut.ensures.value in
    let call = g.C.CollectionCall.call c.args.call.now in
    let placed = sym c.is_placed.ensures ∙ c.if-not-is_placed.false in
    let shown = family_of c.self.inside.adapter c.self.inside.objects (map table_of (set fields c.in-Some.field (record c.index_mut.result.now { links = c.run.new.links }))) in
    subst (λ x. StepOn g.A.Key.Ord.cmp g.A.KeyAdapter.key_of c.args.self.now n call (reply_of g.C.CollectionCall.reply c.run.result) (shown x)) (sym (with_is cs n _ is c.run.new.members))
    (step_by c.self.invariant at_k g.A.Key.Ord.cmp g.A.KeyAdapter.key_of call placed g.C.CollectionCall.reply c.run.result c.run.new.links c.run.new.members c.run.ensures c.self.view_is)
