-- Calls that write no table: seeks, and the reversal of an XOR list.
use Rattle.std.proofs.Common.{◌≡◌, true, false, Some, None, List, [], reverse, Result, Ok, Err, refl}
use Rattle.ic_unsafe_ref.specs.declared.place.Place.{Place}
use Rattle.ic_link_ops.proofs.SequenceLemmas.{absent_reverse}
use Rattle.ic_any_collection.specs.declared.kind.Kind.{Kind}
use Rattle.ic_any_collection.specs.declared.kind.Kind.TheVariants as kind
use Rattle.ic_any_collection.specs.declared.any_table.AnyTable.{AnyTable}
use Rattle.ic_any_collection.specs.AnyTables.{table_in}
use Rattle.ic_any_collection.specs.declared.any_collection.AnyCollection.{AnyCollection}
use Rattle.ic_any_collection.specs.AnyCollection.{kind_in, cursor_in, members_in, has_pointer, is_xor, Keeps, Held, Alike}
use Rattle.ic_any_collection.proofs.AllKinds.{lawful}
use Rattle.ic_world.specs.declared.call.Refusal.{Refusal}
use Rattle.ic_world.specs.declared.call.Refusal.TheVariants.{WrongKind}
use Rattle.ic_world.specs.declared.calls.collection_call.Call.TheVariants.{Seek as seek, BulkEdit as whole}
use Rattle.ic_world.specs.declared.calls.bulk_edit.BulkEdit.TheVariants.{Reverse}
use Rattle.ic_world.specs.declared.calls.seek.Seek.{Seek}
use Rattle.ic_world.specs.Calls.{State, Call, done, moved, having, names, has_call, refusal_of}
use Rattle.ic_world.specs.Seeks.{Sought}
use Rattle.ic_world.specs.Turns.{Ran}
use Rattle.ic_world.proofs.Tested.{goes_on, stops}
use Rattle.ic_world.proofs.Turned.{turns_still, turns_kept, unmoved}

-- if the place of a member suffices to put a cursor on it (`has_pointer`), the kind is not the XOR list
pub pointer_not_xor : (k : Kind) → has_pointer k ≡ true → is_xor k ≡ true → ⊥
pointer_not_xor kind.Singly e h = cc
pointer_not_xor kind.Doubly e h = cc
pointer_not_xor kind.Xor e h = cc
pointer_not_xor kind.Tree e h = cc

pub ran_seek : {V M : Type 0} (K : Type 0) (links : AnyTable M) {m m' : AnyCollection V} (call : Seek) (p : Place) (result : Result Unit Refusal) → Held (table_in links) m → Sought call p (table_in links) m result m'
    → has_call {K = K} (seek call) (kind_in m) ≡ true
    → Ran (names {K = K} (seek call)) (refusal_of {K = K} (seek call)) (λ a s t. (done ≡ done) × (t ≡ moved s (Some p))) links links m m' result
ran_seek K links call p (Ok a) held e is = record { tested = goes_on _ _ _ is e.tested; turned = turns_still (lawful links) e.moved (λ same. (refl, same)); unchanged = tt }
ran_seek K links call p (Err r) held e is = record { tested = goes_on _ _ _ is e.tested; turned = tt; unchanged = (refl, rw e.unchanged (unmoved held)) }

-- A CALL THAT THE KIND LACKS changes nothing
pub ran_not : {V M K R : Type 0} {links : AnyTable M} {m : AnyCollection V} {names : List Place} {accepts : R → State → State → Type 0} (call : Call K) → Held (table_in links) m → has_call call (kind_in m) ≡ false
    → Ran names (refusal_of call) accepts links links m m (Err WrongKind)
ran_not call held lacks = record { tested = stops _ _ _ lacks; turned = tt; unchanged = (refl, unmoved held) }

-- AN XOR LIST IS REVERSED: the call is accepted, and no entry changes
pub turns_round : {V M : Type 0} (K : Type 0) (links : AnyTable M) {m m' : AnyCollection V} → is_xor (kind_in m) ≡ true
    → Keeps (table_in links) m' (reverse (members_in (table_in links) m)) → Alike m m' → cursor_in m' ≡ None
    → Ran {R = Unit {0}} [] (refusal_of {K = K} (whole Reverse)) (λ a s t. (done ≡ done) × (t ≡ having s (reverse s.members) None)) links links m m' (Ok tt)
turns_round K links can kept alike null = record {
  tested = goes_on _ _ _ can refl;
  turned = turns_kept (lawful links) _ kept alike null (λ q out. absent_reverse q _ out) (λ same. (refl, same));
  unchanged = tt;
}
