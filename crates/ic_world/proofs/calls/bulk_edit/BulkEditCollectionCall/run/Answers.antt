use Rattle.std.proofs.Common.{refl, sym, ap, ◌∙◌}
use Rattle.ic_any_collection.specs.AnyCollection.{is_xor}
use Rattle.ic_any_collection.proofs.AllKinds.{lawful}
use Rattle.ic_world.specs.declared.calls.collection_call.Call.TheVariants.{BulkEdit as whole}
use Rattle.ic_world.specs.declared.calls.bulk_edit.BulkEdit.TheVariants.{Reverse}
use Rattle.ic_world.proofs.Turned.{turns_clear}
use Rattle.ic_world.proofs.Seeking.{ran_not, turns_round}
use Rattle.ic_world.proofs.calls.bulk_edit.BulkEditCollectionCall.run.Goals as goal

pub returns-in-Clear : goal.returns-in-Clear
returns-in-Clear g c =
    rw c.in-Clear.is (record { tested = refl; turned = turns_clear (lawful c.args.links.now) (lawful c.unlink_all.new.links) c.unlink_all.ensures (λ same. (refl, same)); unchanged = tt })

pub returns-then-not-is_xor : goal.returns-then-not-is_xor
returns-then-not-is_xor g c =
    rw c.in-Reverse.is (ran_not {K = g.row.A-Key.Denot} (whole Reverse) c.requires.held (ap is_xor (sym c.kind.ensures) ∙ sym c.is_xor.ensures ∙ c.if-not-is_xor.true))

pub reverse-requires-clause-can : goal.reverse-requires-clause-can
reverse-requires-clause-can g c = ap is_xor (sym c.kind.ensures) ∙ sym c.is_xor.ensures ∙ c.if-not-is_xor.false

pub returns-else-not-is_xor : goal.returns-else-not-is_xor
returns-else-not-is_xor g c =
    let e = c.reverse.ensures in
    rw c.in-Reverse.is
    (turns_round g.row.A-Key.Denot c.args.links.now (ap is_xor (sym c.kind.ensures) ∙ sym c.is_xor.ensures ∙ c.if-not-is_xor.false) e.kept e.alike e.null)
