-- What a world guarantees of a call that returns an object or none follows from the contract of the collection's own call. The call removes a member,
-- or moves the cursor.
use Rattle.std.proofs.Common.{◌≡◌, ◌∙◌, true, Option, Some, None, Ok, [], refl, ap}
use Rattle.ic_link_ops.specs.Prelude.{Place, Cut, first, last, IsAfter, IsBefore}
use Rattle.ic_any_collection.specs.declared.gap.Gap.{Gap}
use Rattle.ic_any_collection.specs.Gaps.{can_remove, onward}
use Rattle.ic_any_collection.specs.Gaps as gaps
use Rattle.ic_any_collection.specs.declared.any_table.AnyTable.{AnyTable}
use Rattle.ic_any_collection.specs.AnyTables.{table_in}
use Rattle.ic_any_collection.specs.declared.any_collection.AnyCollection.{AnyCollection}
use Rattle.ic_any_collection.specs.AnyCollection.{kind_in, cursor_in, members_in, has_before}
use Rattle.ic_any_collection.specs.Edits.{AtGap, Moves, TakesIfAny}
use Rattle.ic_any_collection.proofs.AllKinds.{lawful}
use Rattle.ic_world.specs.declared.calls.collection_call.Call.TheVariants as one
use Rattle.ic_world.specs.declared.calls.collection_call.Neighbor.{Neighbor}
use Rattle.ic_world.specs.declared.calls.collection_call.Neighbor.TheVariants.{Next, Prev}
use Rattle.ic_world.specs.Calls.{State, object_or_nothing, taken, moved, without, refusal_of}
use Rattle.ic_world.specs.Calls as calls
use Rattle.ic_world.specs.Turns.{Turns, Ran, state_of}
use Rattle.ic_world.proofs.Tested.{goes_on}
use Rattle.ic_world.proofs.Turned.{turns_out, turns_still}

-- the cursor moves, and the call returns the member that the cursor is then on, or none at null
abbrev pub MovedTo : {V M : Type 0} → Neighbor → (links : AnyTable M) (m m' : AnyCollection V) → Option Place → Type 0
MovedTo way links m m' r = Turns [] (λ s t. calls.MoveReplies way s (object_or_nothing r) t) (table_in links) (table_in links) m m'

module _ {V M : Type 0} (links : AnyTable M) {m m' : AnyCollection V} (r : Option Place) where
  pub moved_next : AtGap (members_in (table_in links) m) (λ gap. IsAfter gap (cursor_in m) × Moves (table_in links) m m' (first gap.back)) → r ≡ cursor_in m' → MovedTo Next links m m' r
  moved_next e answer = turns_still (lawful links) e.2.1 (λ same. (e.0, e.1, (e.2.0, ap object_or_nothing (answer ∙ e.2.1.cursor_is), same)))

  pub moved_prev : (K : Type 0) → has_before (kind_in m) ≡ true → AtGap (members_in (table_in links) m) (λ gap. IsBefore gap (cursor_in m) × Moves (table_in links) m m' (last gap.front)) → r ≡ cursor_in m'
      → Ran [] (refusal_of {K = K} (one.Move Prev)) (λ on s t. calls.MoveReplies Prev s (object_or_nothing on) t) links links m m' (Ok r)
  moved_prev K can e answer = record {
    tested = goes_on _ _ _ can refl;
    turned = turns_still (lawful links) e.2.1 (λ same. (e.0, e.1, (e.2.0, ap object_or_nothing (answer ∙ e.2.1.cursor_is), same)));
    unchanged = tt;
  }

-- what a removal does at a gap that no member follows, and at a gap that the member p follows
none_out : (s : State) (gap : Cut) (cursor : Option Place) → None ≡ first gap.back → moved s cursor ≡ without s gap cursor (first gap.back)
none_out s gap cursor e = ap (without s gap cursor) e

some_out : (s : State) (gap : Cut) (cursor : Option Place) (p : Place) → Some p ≡ first gap.back → taken s gap p cursor ≡ without s gap cursor (first gap.back)
some_out s gap cursor p e = ap (without s gap cursor) e

-- A REMOVAL takes the member that the gap names, if there is one, and the world's call is accepted
pub taken_out : {V M : Type 0} (K : Type 0) (links links' : AnyTable M) (at : Gap) {m m' : AnyCollection V} (out : Option Place) → can_remove at (kind_in m) ≡ true
    → AtGap (members_in (table_in links) m) (λ gap. gaps.IsFrontOf at (members_in (table_in links) m) (cursor_in m) gap × (out ≡ first gap.back) × TakesIfAny links links' m m' gap (onward at (cursor_in m) gap) out)
    → Ran [] (refusal_of {K = K} (one.Take at)) (λ out s t. calls.TakeReplies at s (object_or_nothing out) t) links links' m m' (Ok out)
taken_out K links links' at {m} {m'} out can e = record { tested = goes_on _ _ _ can refl; turned = by out e; unchanged = tt } where
  by : (out : Option Place)
      → AtGap (members_in (table_in links) m) (λ gap. gaps.IsFrontOf at (members_in (table_in links) m) (cursor_in m) gap × (out ≡ first gap.back) × TakesIfAny links links' m m' gap (onward at (cursor_in m) gap) out)
      → Turns [] (λ s t. calls.TakeReplies at s (object_or_nothing out) t) (table_in links) (table_in links') m m'
  by None e = rw e.2.2.0 (turns_still (lawful links) e.2.2.1 (λ same. (e.0, e.1, (e.2.0, ap object_or_nothing e.2.1, same ∙ none_out (state_of (table_in links) m) e.0 (onward at (cursor_in m) e.0) e.2.1))))
  by (Some p) e =
      turns_out (lawful links) (lawful links') e.0 p e.1 e.2.2 (λ same. (e.0, e.1, (e.2.0, ap object_or_nothing e.2.1, same ∙ some_out (state_of (table_in links) m) e.0 (onward at (cursor_in m) e.0) p e.2.1)))
