-- What a call of one collection guarantees to the world, whatever the call is.
use Rattle.std.specs.Prelude.{◌≡◌, ◌⊎◌, true, Option, Some, None, List, [], ◌∷◌, ◌++◌, Result, Ok, Err, IfOk, OnErr}
use Rattle.ic_link_ops.specs.Prelude.{Place, IsAbsent, IsDisjoint, Table, ChangesOnlyIn, KeepsLinked, IsUnlinked}
use Rattle.ic_any_collection.specs.declared.entry.Entry.{Entry}
use Rattle.ic_any_collection.specs.declared.any_table.AnyTable.{AnyTable}
use Rattle.ic_any_collection.specs.AnyTables.{table_in}
use Rattle.ic_any_collection.specs.Entries.{is_linked}
use Rattle.ic_any_collection.specs.declared.any_collection.AnyCollection.{AnyCollection}
use Rattle.ic_any_collection.specs.AnyCollection.{kind_in, cursor_in, members_in, Held, Alike}
use Rattle.ic_any_collection.specs.Edits.{IsUnchanged}
use Rattle.ic_world.specs.declared.call.Refusal.{Refusal}
use Rattle.ic_world.specs.LinkedSets.{linked_in}
use Rattle.ic_world.specs.Calls.{State}

-- P holds of each place of a list
abbrev pub Each : (Place → Type 0) → List Place → Type 0
Each P [] = Unit {0}
Each P (p ∷ s) = P p × Each P s

-- the refusal that a result contains, or none if the call was accepted
abbrev pub refusal_in : {A R : Type 0} → Result A R → Option R
refusal_in (Ok a) = None
refusal_in (Err r) = Some r

module _ {V : Type 0} where
  -- the state of the collection m, whose members are those that the table t represents
  abbrev pub state_of : Table Entry → AnyCollection V → State
  state_of t m = record { kind = kind_in m; members = members_in t m; cursor = cursor_in m; linked = linked_in t }

  -- WHAT A CALL OF ONE COLLECTION CHANGES: the collection's state changes as `Accepts` says. The only entries that change are those of its members
  -- and of the places in `names`. Each place that becomes linked is in `names`
  pub record Turns (names : List Place) (Accepts : State → State → Type 0) (old new : Table Entry) (m m' : AnyCollection V) : Type 0 where
    pub fresh : List Place
    pub named : (fresh ≡ []) ⊎ (fresh ≡ names)
    pub free : Each (IsUnlinked is_linked old) fresh
    pub only : (q : Place) → IsAbsent q fresh → is_linked (new.entry q) ≡ true → is_linked (old.entry q) ≡ true
    pub frame : ChangesOnlyIn old new (fresh ++ members_in old m)
    pub adds_none : (q : Place) → IsAbsent q (fresh ++ members_in old m) → IsAbsent q (members_in new m')
    pub held : Held new m'
    pub alike : Alike m m'
    pub accepts : Accepts (state_of old m) (state_of new m')

  -- A CALL HAS RUN: if one of its tests fails, its result is the refusal of this test, and nothing has changed. If all pass, the call was accepted
  -- and has made its change
  pub record Ran {M R : Type 0} (names : List Place) (refusal : State → Option Refusal) (accepts : R → State → State → Type 0)
      (links links' : AnyTable M) (m m' : AnyCollection V) (result : Result R Refusal) : Type 0 where
    pub tested : refusal_in result ≡ refusal (state_of (table_in links) m)
    pub turned : IfOk result (λ answer. Turns names (accepts answer) (table_in links) (table_in links') m m')
    pub unchanged : OnErr result (IsUnchanged links links' m m')

  -- WHAT A CALL THAT GIVES A PART AWAY CHANGES: the part `handed` becomes a collection of its own. The same places are linked as before, and only
  -- entries of members have changed
  pub record HandsOut (Parts : State → State → State → Type 0) (old new : Table Entry) (m m' handed : AnyCollection V) : Type 0 where
    pub held : Held new m'
    pub hands_out : Held new handed
    pub alike : Alike m m'
    pub part_alike : Alike m handed
    pub links : KeepsLinked is_linked old new
    pub frame : ChangesOnlyIn old new (members_in old m)
    pub adds_none : (q : Place) → IsAbsent q (members_in old m) → IsAbsent q (members_in new m') × IsAbsent q (members_in new handed)
    pub apart : IsDisjoint (members_in new m') (members_in new handed)
    pub parts : Parts (state_of old m) (state_of new m') (state_of new handed)
