use Rattle.std.proofs.Common.{refl, sym, ap, ◌∙◌}
use Rattle.ic_any_collection.specs.AnyCollection.{has_pointer, is_xor}
use Rattle.ic_any_collection.proofs.AllKinds.{lawful}
use Rattle.ic_world.specs.declared.calls.collection_call.Call.TheVariants.{Seek as seek}
use Rattle.ic_world.specs.declared.calls.seek.Seek.TheVariants.{On, With}
use Rattle.ic_world.proofs.Seeking.{ran_seek, ran_not}
use Rattle.ic_world.proofs.Turned.{nulled, turns_still}
use Rattle.ic_world.proofs.calls.seek.SeekCollectionCall.run.Goals as goal

pub returns-in-Null : goal.returns-in-Null
returns-in-Null g c =
    let e = c.go_null.ensures in
    rw c.in-Null.is (record { tested = refl; turned = turns_still (lawful c.args.links.now) (nulled c.requires.held e.kept e.alike e.null) (λ same. (refl, same)); unchanged = tt })

pub returns-then-not-has_pointer : goal.returns-then-not-has_pointer
returns-then-not-has_pointer g c =
    rw c.in-On.is (ran_not {K = g.row.A-Key.Denot} (seek (On c.in-On.object)) c.requires.held (ap has_pointer (sym c.kind.ensures) ∙ sym c.has_pointer.ensures ∙ c.if-not-has_pointer.true))

pub seek_on-requires-clause-can : goal.seek_on-requires-clause-can
seek_on-requires-clause-can g c = ap has_pointer (sym c.kind.ensures) ∙ sym c.has_pointer.ensures ∙ c.if-not-has_pointer.false

pub returns-else-not-has_pointer : goal.returns-else-not-has_pointer
returns-else-not-has_pointer g c =
    rw c.in-On.is (ran_seek g.row.A-Key.Denot c.args.links.now (On c.in-On.object) c.in-On.object c.seek_on.result c.requires.held c.seek_on.ensures
    (ap has_pointer (sym c.kind.ensures) ∙ sym c.has_pointer.ensures ∙ c.if-not-has_pointer.false))

pub returns-then-not-is_xor : goal.returns-then-not-is_xor
returns-then-not-is_xor g c =
    rw c.in-With.is
    (ran_not {K = g.row.A-Key.Denot} (seek (With c.in-With.way c.in-With.object c.in-With.beside)) c.requires.held (ap is_xor (sym c.kind-in-With.ensures) ∙ sym c.is_xor.ensures ∙ c.if-not-is_xor.true))

pub returns-else-not-is_xor : goal.returns-else-not-is_xor
returns-else-not-is_xor g c =
    rw c.in-With.is
    (ran_seek g.row.A-Key.Denot c.args.links.now (With c.in-With.way c.in-With.object c.in-With.beside) c.in-With.object c.seek_with.result c.requires.held c.seek_with.ensures
    (ap is_xor (sym c.kind-in-With.ensures) ∙ sym c.is_xor.ensures ∙ c.if-not-is_xor.false))
