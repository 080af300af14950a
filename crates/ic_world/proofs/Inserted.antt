-- What a world guarantees of a call that inserts an object into a gap or replaces a member by an object, and when it refuses the call.
use Rattle.std.proofs.Common.{◌≡◌, ◌∙◌, Bool, true, false, not, is_some, Option, Some, None, [], ◌∷◌, Ok, Err, refl, sym, ap}
use Rattle.ic_link_ops.specs.Prelude.{Place, Cut, join, first, IsCovered, IsLinked}
use Rattle.ic_any_collection.specs.declared.gap.Gap.{Gap}
use Rattle.ic_any_collection.specs.declared.gap.Gap.TheVariants.{Front, Back, Before, After}
use Rattle.ic_any_collection.specs.Gaps.{can_insert, can_replace, IsGapAt, rests, onto}
use Rattle.ic_any_collection.specs.Gaps as gaps
use Rattle.ic_any_collection.specs.declared.any_table.AnyTable.{AnyTable}
use Rattle.ic_any_collection.specs.AnyTables.{table_in}
use Rattle.ic_any_collection.specs.Entries.{is_linked}
use Rattle.ic_any_collection.specs.declared.any_collection.AnyCollection.{AnyCollection}
use Rattle.ic_any_collection.specs.AnyCollection.{kind_in, cursor_in, members_in, Held}
use Rattle.ic_any_collection.specs.Edits.{AtGap, Puts, SwapsIfAny, IsUnchanged}
use Rattle.ic_any_collection.proofs.AllKinds.{lawful, distinct}
use Rattle.ic_world.specs.declared.calls.collection_call.Call.TheVariants as one
use Rattle.ic_world.specs.declared.call.Refusal.TheVariants.{NothingThere, AlreadyLinked}
use Rattle.ic_world.specs.Prelude.{done, object, member_at, refusal_of, is_linked_in, Ran, state_of}
use Rattle.ic_world.specs.Calls as calls
use Rattle.ic_world.proofs.Linked.{in_linked}
use Rattle.ic_world.proofs.Neighbors.{next_gap}
use Rattle.ic_world.proofs.Tested.{goes_on, stops}
use Rattle.ic_world.proofs.Turned.{turns_put, turns_swap}

module _ {V M : Type 0} (K : Type 0) (old new : AnyTable M) (at : Gap) (p : Place) (m m' : AnyCollection V) where
  -- the model's test whether p is unlinked in the field has the result of the test whether p's entry in the table is unlinked
  linked_so : {b : Bool} → is_linked ((table_in old).entry p) ≡ b → not (is_linked_in (state_of (table_in old) m) p) ≡ not b
  linked_so e = ap not (in_linked (table_in old) (lawful old) p ∙ e)

  -- AN OBJECT IS INSERTED: if the collection inserted p into the gap, the world's call is accepted
  module _ (can : can_insert at (kind_in m) ≡ true) where
    pub put_in : AtGap (members_in (table_in old) m) (λ gap. IsGapAt at (cursor_in m) gap × Puts (table_in old) (table_in new) m m' gap p (rests at (cursor_in m)))
        → Ran {R = Unit {0}} (p ∷ []) (refusal_of {K = K} (one.Put at p)) (λ a s t. calls.PutReplies at p s done t) old new m m' (Ok tt)
    put_in e = record {
      tested = goes_on _ _ _ can (goes_on _ _ _ (linked_so e.2.1.links.was) refl);
      turned = turns_put (lawful old) (lawful new) e.0 p e.1 e.2.1 (λ same. (refl, (e.0, e.1, (e.2.0, same))));
      unchanged = tt;
    }

    -- if p was linked already and nothing has changed, the world's call is refused with `AlreadyLinked`
    pub put_not : IsLinked is_linked (table_in old) p × IsUnchanged old new m m' → Ran {R = Unit {0}} (p ∷ []) (refusal_of {K = K} (one.Put at p)) (λ a s t. calls.PutReplies at p s done t) old new m m' (Err AlreadyLinked)
    put_not e = record { tested = goes_on _ _ _ can (stops _ _ _ (linked_so e.0)); turned = tt; unchanged = e.1 }

  -- AN OBJECT REPLACES A MEMBER: the replaced member is the one after the gap that the call names
  member_there : (at : Gap) → can_replace at (kind_in m) ≡ true → Held (table_in old) m → (gap : Cut) → join gap ≡ members_in (table_in old) m → gaps.IsFrontOf at (members_in (table_in old) m) (cursor_in m) gap
      → member_at at (state_of (table_in old) m) ≡ first gap.back
  member_there Front can held gap same front = cc
  member_there Back can held gap same front = cc
  member_there Before can held gap same front = front
  member_there After can held gap same front = next_gap gap (cursor_in m) (distinct (table_in old) m (members_in (table_in old) m) held.shown) same front

  module _ (can : can_replace at (kind_in m) ≡ true) (held : Held (table_in old) m) where
    abbrev Swapped : Option Place → Bool → Type 0
    Swapped out acquired = AtGap (members_in (table_in old) m) (λ gap. gaps.IsFrontOf at (members_in (table_in old) m) (cursor_in m) gap × (is_some out ≡ is_some (first gap.back))
        × SwapsIfAny old new m m' gap p (onto at (cursor_in m) p) out acquired)

    is_there : (out : Option Place) (acquired : Bool) → Swapped out acquired → is_some (member_at at (state_of (table_in old) m)) ≡ is_some out
    is_there out acquired e = ap is_some (member_there at can held e.0 e.1 e.2.0) ∙ sym e.2.1

    pub swapped_in : (out : Place) → IsCovered (table_in old) p → Swapped (Some out) true
        → Ran (p ∷ []) (refusal_of {K = K} (one.Swap at p)) (λ out s t. calls.SwapReplies at p s (object out) t) old new m m' (Ok out)
    swapped_in out covered e = record {
      tested = goes_on _ _ _ can (goes_on _ _ _ (is_there (Some out) true e) (goes_on _ _ _ (linked_so e.2.2.links.1.was) refl));
      turned = turns_swap (lawful old) (lawful new) e.0 p out covered e.1 e.2.2 (λ same. (e.0, e.1, (e.2.0, out, e.2.2.there, refl, same)));
      unchanged = tt;
    }

    -- the replacement is refused if there is no member to replace, or if the object is already linked
    pub swap_nothing : (acquired : Bool) → Swapped None acquired
        → Ran (p ∷ []) (refusal_of {K = K} (one.Swap at p)) (λ out s t. calls.SwapReplies at p s (object out) t) old new m m' (Err NothingThere)
    swap_nothing acquired e = record { tested = goes_on _ _ _ can (stops _ _ _ (is_there None acquired e)); turned = tt; unchanged = e.2.2 }

    pub swap_not : (out : Place) → Swapped (Some out) false
        → Ran (p ∷ []) (refusal_of {K = K} (one.Swap at p)) (λ out s t. calls.SwapReplies at p s (object out) t) old new m m' (Err AlreadyLinked)
    swap_not out e = record { tested = goes_on _ _ _ can (goes_on _ _ _ (is_there (Some out) false e) (stops _ _ _ (linked_so e.2.2.0))); turned = tt; unchanged = e.2.2.1 }
