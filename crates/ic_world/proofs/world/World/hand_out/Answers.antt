use Rattle.std.proofs.Common.{◌≡◌, ◌∙◌, refl, sym, ap, subst, arith, map, set, IsSome}
use Rattle.std.proofs.lemmas.List.{length-map}
use Rattle.std.proofs.lemmas.Option.{same_Some}
use Rattle.ic_any_collection.specs.AnyCollection.{kind_in}
use Rattle.ic_world.specs.declared.collection.Collection.{Collection}
use Rattle.ic_world.specs.Prelude.{opened, refused, IsKept, at, table_of, family_of}
use Rattle.ic_world.specs.Collections.{its_members, with_members}
use Rattle.ic_world.specs.Several.{has_part, StepOut}
use Rattle.ic_world.proofs.Readings.{found, missing, none_there, one_read}
use Rattle.ic_world.proofs.HandedOut.{part_lacking, part_unroomed, handed_kept, handed_step, still_there, last_there, handed_list}
use Rattle.ic_world.proofs.world.World.hand_out.Goals as goal

pub returns-in_default : goal.returns-in_default
returns-in_default g c =
    let cs = c.self.inside.collections in
    rw (missing c.self.inside.adapter c.self.inside.objects (map table_of c.self.inside.fields.items) cs c.args.collection (none_there (at cs c.args.collection) (sym c.in_default.is ∙ c.field_of.ensures)) c.self.view_is) (refl, refl)

pub returns-then-not-is_of : goal.returns-then-not-is_of
returns-then-not-is_of g c =
    let cs = c.self.inside.collections in
    let fields = c.self.inside.fields in
    let n = c.args.collection in
    let f = c.in-Some.field in
    let has = sym c.in-Some.is ∙ c.field_of.ensures in
    let is = one_read (at cs n) f c.members.result.now has c.members.ensures in
    part_lacking fields.items c.self.invariant n c.self.view_is c.args.part is (ap (has_part c.args.part) (sym c.kind-kind.ensures) ∙ sym c.is_of.ensures ∙ c.if-not-is_of.true)

pub index_mut-requires : goal.index_mut-requires
index_mut-requires g c =
    let cs = c.self.inside.collections in
    let fields = c.self.inside.fields in
    let n = c.args.collection in
    let f = c.in-Some.field in
    let has = sym c.in-Some.is ∙ c.field_of.ensures in
    let is = one_read (at cs n) f c.members.result.now has c.members.ensures in
    omega (arith, c.self.invariant.0.in_field n _ is, length-map fields.items table_of, fields.ok.0)

pub returns-in-Err : goal.returns-in-Err
returns-in-Err g c =
    let cs = c.self.inside.collections in
    let fields = c.self.inside.fields in
    let n = c.args.collection in
    let f = c.in-Some.field in
    let has = sym c.in-Some.is ∙ c.field_of.ensures in
    let is = one_read (at cs n) f c.members.result.now has c.members.ensures in
    let old = c.args.self.now in
    let e = c.in-Err.ensures in
    let family = ap (family_of c.self.inside.adapter c.self.inside.objects (map table_of fields.items)) e.1 ∙ c.self.view_is in
    let can = ap (has_part c.args.part) (sym c.kind-kind.ensures) ∙ sym c.is_of.ensures ∙ c.if-not-is_of.false in
    subst (StepOut old n c.args.part (refused c.in-Err.refusal)) (sym family)
    (subst (λ x. StepOut old n c.args.part (refused x) old) (sym e.0) (part_unroomed fields.items c.self.invariant n c.self.view_is c.args.part is can))

pub hand_out-handed-requires-clause-held : goal.hand_out-handed-requires-clause-held
hand_out-handed-requires-clause-held g c =
    let cs = c.self.inside.collections in
    let fields = c.self.inside.fields in
    let n = c.args.collection in
    let f = c.in-Some.field in
    let has = sym c.in-Some.is ∙ c.field_of.ensures in
    let is = one_read (at cs n) f c.members.result.now has c.members.ensures in
    let empty : Collection _ = record { field = f; members = c.new.result } in
    let pushed = c.in-Ok.ensures in
    let m = c.members_mut.result.now in
    let now_is = one_read (at cs n) f m has (c.members_mut.ensures.value ∙ ap (λ x. its_members (at x n)) pushed.1 ∙ ap its_members (still_there cs n is empty ∙ sym is)) in
    let same : c.members.result.now ≡ m = same_Some _ _ (c.members.ensures ∙ ap its_members now_is) in
    let can = ap (λ x. has_part c.args.part (kind_in x)) (sym same) ∙ ap (has_part c.args.part) (sym c.kind-kind.ensures) ∙ sym c.is_of.ensures ∙ c.if-not-is_of.false in
    let at_k = found fields.items c.self.invariant now_is c.index_mut.ensures.value in
    at_k.held

pub hand_out-handed-requires-clause-can : goal.hand_out-handed-requires-clause-can
hand_out-handed-requires-clause-can g c =
    let cs = c.self.inside.collections in
    let fields = c.self.inside.fields in
    let n = c.args.collection in
    let f = c.in-Some.field in
    let has = sym c.in-Some.is ∙ c.field_of.ensures in
    let is = one_read (at cs n) f c.members.result.now has c.members.ensures in
    let empty : Collection _ = record { field = f; members = c.new.result } in
    let pushed = c.in-Ok.ensures in
    let m = c.members_mut.result.now in
    let now_is = one_read (at cs n) f m has (c.members_mut.ensures.value ∙ ap (λ x. its_members (at x n)) pushed.1 ∙ ap its_members (still_there cs n is empty ∙ sym is)) in
    let same : c.members.result.now ≡ m = same_Some _ _ (c.members.ensures ∙ ap its_members now_is) in
    let can = ap (λ x. has_part c.args.part (kind_in x)) (sym same) ∙ ap (has_part c.args.part) (sym c.kind-kind.ensures) ∙ sym c.is_of.ensures ∙ c.if-not-is_of.false in
    let at_k = found fields.items c.self.invariant now_is c.index_mut.ensures.value in
    can

pub members_mut-requires-in-Ok : goal.members_mut-requires-in-Ok
members_mut-requires-in-Ok g c =
    let cs = c.self.inside.collections in
    let fields = c.self.inside.fields in
    let n = c.args.collection in
    let f = c.in-Some.field in
    let has = sym c.in-Some.is ∙ c.field_of.ensures in
    let is = one_read (at cs n) f c.members.result.now has c.members.ensures in
    let empty : Collection _ = record { field = f; members = c.new.result } in
    let pushed = c.in-Ok.ensures in
    let m = c.members_mut.result.now in
    let now_is = one_read (at cs n) f m has (c.members_mut.ensures.value ∙ ap (λ x. its_members (at x n)) pushed.1 ∙ ap its_members (still_there cs n is empty ∙ sym is)) in
    let same : c.members.result.now ≡ m = same_Some _ _ (c.members.ensures ∙ ap its_members now_is) in
    let can = ap (λ x. has_part c.args.part (kind_in x)) (sym same) ∙ ap (has_part c.args.part) (sym c.kind-kind.ensures) ∙ sym c.is_of.ensures ∙ c.if-not-is_of.false in
    let at_k = found fields.items c.self.invariant now_is c.index_mut.ensures.value in
    subst (λ x. IsSome (at (with_members x n c.hand_out-handed.new.members) c.in-Ok.number)) (sym pushed.1)
    (subst IsSome (sym (last_there cs n now_is empty c.hand_out-handed.new.members c.hand_out-handed.result c.in-Ok.number pushed.0)) refl)

pub invariant_of-self-in-Ok : goal.invariant_of-self-in-Ok
invariant_of-self-in-Ok g c =
    let cs = c.self.inside.collections in
    let fields = c.self.inside.fields in
    let n = c.args.collection in
    let f = c.in-Some.field in
    let has = sym c.in-Some.is ∙ c.field_of.ensures in
    let is = one_read (at cs n) f c.members.result.now has c.members.ensures in
    let empty : Collection _ = record { field = f; members = c.new.result } in
    let pushed = c.in-Ok.ensures in
    let m = c.members_mut.result.now in
    let now_is = one_read (at cs n) f m has (c.members_mut.ensures.value ∙ ap (λ x. its_members (at x n)) pushed.1 ∙ ap its_members (still_there cs n is empty ∙ sym is)) in
    let same : c.members.result.now ≡ m = same_Some _ _ (c.members.ensures ∙ ap its_members now_is) in
    let can = ap (λ x. has_part c.args.part (kind_in x)) (sym same) ∙ ap (has_part c.args.part) (sym c.kind-kind.ensures) ∙ sym c.is_of.ensures ∙ c.if-not-is_of.false in
    let at_k = found fields.items c.self.invariant now_is c.index_mut.ensures.value in
    let m' = c.hand_out-handed.new.members in
    let list = ap (λ x. with_members (with_members x n m') c.in-Ok.number c.hand_out-handed.result) pushed.1 ∙ handed_list cs n now_is empty m' c.hand_out-handed.result c.in-Ok.number pushed.0 in
    subst (IsKept c.self.inside.adapter c.self.inside.objects c.self.inside.room _) (sym list)
    (handed_kept fields.items c.self.invariant n c.self.view_is c.args.part at_k c.hand_out-handed.new.links m' c.hand_out-handed.result c.hand_out-handed.ensures can)

pub returns-in-Ok : goal.returns-in-Ok
returns-in-Ok g c =
    let cs = c.self.inside.collections in
    let fields = c.self.inside.fields in
    let n = c.args.collection in
    let f = c.in-Some.field in
    let has = sym c.in-Some.is ∙ c.field_of.ensures in
    let is = one_read (at cs n) f c.members.result.now has c.members.ensures in
    let empty : Collection _ = record { field = f; members = c.new.result } in
    let pushed = c.in-Ok.ensures in
    let m = c.members_mut.result.now in
    let now_is = one_read (at cs n) f m has (c.members_mut.ensures.value ∙ ap (λ x. its_members (at x n)) pushed.1 ∙ ap its_members (still_there cs n is empty ∙ sym is)) in
    let same : c.members.result.now ≡ m = same_Some _ _ (c.members.ensures ∙ ap its_members now_is) in
    let can = ap (λ x. has_part c.args.part (kind_in x)) (sym same) ∙ ap (has_part c.args.part) (sym c.kind-kind.ensures) ∙ sym c.is_of.ensures ∙ c.if-not-is_of.false in
    let at_k = found fields.items c.self.invariant now_is c.index_mut.ensures.value in
    let m' = c.hand_out-handed.new.members in
    let list = ap (λ x. with_members (with_members x n m') c.in-Ok.number c.hand_out-handed.result) pushed.1 ∙ handed_list cs n now_is empty m' c.hand_out-handed.result c.in-Ok.number pushed.0 in
    let shown = family_of c.self.inside.adapter c.self.inside.objects (map table_of (set fields.items f (record c.index_mut.result.now { links = c.hand_out-handed.new.links }))) in
    subst (λ x. StepOut c.args.self.now n c.args.part (opened c.in-Ok.number) (shown x)) (sym list)
    (handed_step fields.items c.self.invariant n c.self.view_is c.args.part at_k c.hand_out-handed.new.links m' c.hand_out-handed.result c.hand_out-handed.ensures can c.in-Ok.number pushed.0)
