use Rattle.std.proofs.Common.{◌≡◌, ◌∙◌, true, sym, ap, subst}
use Rattle.ic_world.specs.Family.{Family, has_field, is_member_in, is_placed}
use Rattle.ic_world.proofs.FieldCalls.{within_by, covers_object, held_read, in_none, in_some, asked}
use Rattle.ic_world.proofs.world.World.is_member.Goals as goal

pub index-found-requires : goal.index-found-requires
index-found-requires g c =
    let fields = c.self.inside.fields in
    rw fields.ok.0 (within_by fields.items c.self.invariant c.args.field (subst (λ (w : Family _ _). has_field w c.args.field ≡ true) (sym c.self.view_is) c.requires.there))

pub is_linked-requires : goal.is_linked-requires
is_linked-requires g c =
    let fields = c.self.inside.fields in
    let in_bounds = within_by fields.items c.self.invariant c.args.field (subst (λ (w : Family _ _). has_field w c.args.field ≡ true) (sym c.self.view_is) c.requires.there) in
    record { covered = covers_object fields.items c.self.invariant c.args.field c.index-found.result.now c.args.object in_bounds c.index-found.ensures (subst (λ (w : Family _ _). is_placed w c.args.object ≡ true) (sym c.self.view_is) c.requires.placed) }

pub returns-then-not-is_linked : goal.returns-then-not-is_linked
returns-then-not-is_linked g c =
    let fields = c.self.inside.fields in
    sym (ap (λ w. is_member_in w c.args.field c.args.object) (sym c.self.view_is)
    ∙ in_none fields.items c.self.inside.collections c.self.invariant c.args.field c.args.object c.index-found.result.now c.index-found.ensures (sym c.is_linked.ensures ∙ c.if-not-is_linked.true))

pub returns-then-not-found : goal.returns-then-not-found
returns-then-not-found g c =
    let fields = c.self.inside.fields in
    let in_bounds = within_by fields.items c.self.invariant c.args.field (subst (λ (w : Family _ _). has_field w c.args.field ≡ true) (sym c.self.view_is) c.requires.there) in
    rw c.if-not-found.true (sym (ap (λ w. is_member_in w c.args.field c.args.object) (sym c.self.view_is)
    ∙ in_some fields.items c.self.inside.collections c.self.invariant c.args.field c.args.object c.index-found.result.now in_bounds c.index-found.ensures (sym c.is_linked.ensures ∙ c.if-not-is_linked.false) c.if-not-found.true))

pub any_contains-requires : goal.any_contains-requires
any_contains-requires g c =
    let fields = c.self.inside.fields in
    let in_bounds = within_by fields.items c.self.invariant c.args.field (subst (λ (w : Family _ _). has_field w c.args.field ≡ true) (sym c.self.view_is) c.requires.there) in
    record {
      held = λ n k is same. held_read fields.items c.self.inside.collections c.self.invariant c.args.field c.args.object n k c.index-found.result.now is same c.index-found.ensures;
      covered = covers_object fields.items c.self.invariant c.args.field c.index-found.result.now c.args.object in_bounds c.index-found.ensures (subst (λ (w : Family _ _). is_placed w c.args.object ≡ true) (sym c.self.view_is) c.requires.placed);
    }

pub returns-else-not-found : goal.returns-else-not-found
returns-else-not-found g c =
    asked c.self.inside.fields.items c.self.inside.collections c.self.invariant c.args.field c.args.object c.index-found.result.now c.index-found.ensures c.any_contains.result c.any_contains.ensures
    ∙ ap (λ w. is_member_in w c.args.field c.args.object) c.self.view_is
