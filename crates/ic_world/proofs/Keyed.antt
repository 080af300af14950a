-- What a world guarantees of keyed calls follows from the contracts of the tree's own calls.
use Rattle.std.proofs.Common.{◌≡◌, ◌∙◌, ℕ, inl, Bool, true, false, not, Option, Some, None, List, [], ◌∷◌, refl, sym, ap, Ok, Err, IfOk, OnErr, Ordering}
use Rattle.std.specs.Bool.{OnTrue, OnFalse}
use Rattle.ic_link_ops.specs.Prelude.{Place, Objects, Cut, join, IsLinked}
use Rattle.ic_rbtree.specs.Borders.{Finds, IsBorder, less_at}
use Rattle.ic_any_collection.specs.declared.any_table.AnyTable.{AnyTable}
use Rattle.ic_any_collection.specs.AnyTables.{table_in}
use Rattle.ic_any_collection.specs.Entries.{is_linked}
use Rattle.ic_any_collection.specs.declared.any_collection.AnyCollection.{AnyCollection}
use Rattle.ic_any_collection.specs.AnyCollection.{kind_in, members_in, is_tree}
use Rattle.ic_any_collection.specs.Edits.{AtGap, Moves, IsUnchanged}
use Rattle.ic_any_collection.specs.Keyed.{IsVacantFor, PutsInOrder, PutsAtKey}
use Rattle.ic_world.specs.Looks.{WithinComparisonBound}
use Rattle.ic_any_collection.proofs.AllKinds.{lawful}
use Rattle.ic_world.specs.declared.call.Refusal.TheVariants.{WrongKind, AlreadyLinked}
use Rattle.ic_world.specs.Calls.{State, put, moved, asks, asks_unlinked, key_at, EntryReplies}
use Rattle.ic_world.specs.Replies.{entry_or_linked, looked_if}
use Rattle.ic_world.specs.Turns.{Turns, Ran, state_of}
use Rattle.ic_world.proofs.Linked.{in_linked}
use Rattle.ic_world.proofs.Tested.{goes_on, stops}
use Rattle.ic_world.proofs.Turned.{turns_by, turns_put}

-- a call that only moves the cursor meets what the world requires of a call (`Turns`), whatever objects the call names
still : {V M : Type 0} (links : AnyTable M) {m m' : AnyCollection V} {names : List Place} {cursor : Option Place} {Accepts : State → State → Type 0} → (e : Moves (table_in links) m m' cursor)
    → (state_of (table_in links) m' ≡ moved (state_of (table_in links) m) cursor → Accepts (state_of (table_in links) m) (state_of (table_in links) m'))
    → Turns names Accepts (table_in links) (table_in links) m m'
still links {m' = m'} e accepts =
    turns_by {m' = m'} (lawful links) (lawful links) [] (inl refl) tt (λ q out h. h)
    (record { kept = e.kept; alike = e.alike; cursor_is = e.cursor_is; frame = record { extent = refl; others = λ q out. refl } })
    (λ q out. out) refl accepts

module _ {V M : Type 0} {links : AnyTable M} {m : AnyCollection V} where
  -- A SEARCH of a tree, which only moves the cursor, is an accepted call of the world
  pub searched : {R : Type 0} {names : List Place} {m' : AnyCollection V} {cursor : Option Place} {accepts : R → State → State → Type 0} (answer : R) → is_tree (kind_in m) ≡ true
      → Moves (table_in links) m m' cursor → (state_of (table_in links) m' ≡ moved (state_of (table_in links) m) cursor → accepts answer (state_of (table_in links) m) (state_of (table_in links) m'))
      → Ran names (λ s. asks (is_tree s.kind) WrongKind None) accepts links links m m' (Ok answer)
  searched answer is e accepts = record { tested = goes_on _ _ _ is refl; turned = still links e accepts; unchanged = tt }

  -- AN INSERT IN ORDER that compared `looks` keys is an accepted call of the world, or is refused because the object was already linked
  pub inserted : {links' : AnyTable M} {m' : AnyCollection V} {cursor : Option Place} {accepts : ℕ → State → State → Type 0} (Asked : Type 0) (at : Place → Ordering) (p : Place) (acquired : Bool) (looks : ℕ)
      → is_tree (kind_in m) ≡ true → OnTrue acquired (PutsInOrder at (table_in links) (table_in links') m m' p cursor) → OnTrue acquired (WithinComparisonBound looks (members_in (table_in links) m))
      → (WithinComparisonBound looks (members_in (table_in links) m) → (gap : Cut) → join gap ≡ members_in (table_in links) m → IsBorder (less_at at) gap → state_of (table_in links') m' ≡ put (state_of (table_in links) m) gap p cursor
      → accepts looks (state_of (table_in links) m) (state_of (table_in links') m'))
      → OnFalse acquired (IsLinked is_linked (table_in links) p × Asked × IsUnchanged links links' m m')
      → Ran (p ∷ []) (λ s. asks (is_tree s.kind) WrongKind (asks_unlinked s p)) accepts links links' m m' (looked_if looks acquired)
  inserted {links' = links'} Asked at p true looks tree e few finish refused = record {
    tested = goes_on _ _ _ tree (goes_on _ _ _ (ap not (in_linked (table_in links) (lawful links) p ∙ e.2.1.links.was)) refl);
    turned = turns_put (lawful links) (lawful links') e.0 p e.1 e.2.1 (finish few e.0 e.1 e.2.0);
    unchanged = tt;
  }
  inserted Asked at p false looks tree e few finish refused = record {
    tested = goes_on _ _ _ tree (stops _ _ _ (ap not (in_linked (table_in links) (lawful links) p ∙ refused.0)));
    turned = tt;
    unchanged = refused.2;
  }

-- AN ENTRY with the key `key` and the object p: a member with the key is found, or p is inserted, or p is refused
module _ {V K : Type 0} (cmp : K → K → Ordering) (key_of : V → K) (objects : Objects V) (key : K) (p : Place) where
  abbrev at : Place → Ordering
  at = key_at cmp key_of objects key

  abbrev Answers : Option (Bool × Place × ℕ) → State → State → Type 0
  Answers answer s t = EntryReplies cmp key_of objects key p s (entry_or_linked answer) t

  module _ {M : Type 0} (links links' : AnyTable M) (m m' : AnyCollection V) where
    abbrev Occupied : Bool → Place → Type 0
    Occupied b q = b ≡ true → Finds at (members_in (table_in links) m) (Some q) × (links' ≡ links) × Moves (table_in links) m m' (Some q)

    abbrev Vacant : Bool → Place → Type 0
    Vacant b q = b ≡ false → (q ≡ p) × PutsAtKey at (table_in links) (table_in links') m m' p (Some p)

    entered_at : (b : Bool) (q : Place) (n : ℕ) → Occupied b q → Vacant b q → WithinComparisonBound n (members_in (table_in links) m)
        → Turns (p ∷ []) (Answers (Some (b, q, n))) (table_in links) (table_in links') m m'
    entered_at true q n occupied vacant looks =
        let e = occupied refl in
        rw e.1 (still links e.2 (λ same. (e.0, looks, same)))
    entered_at false q n occupied vacant looks =
        let e = vacant refl in
        let put = e.1.2.1 in
        turns_put (lawful links) (lawful links') e.1.0 p e.1.1 put
        (λ same. (e.0, in_linked (table_in links) (lawful links) p ∙ put.links.was, looks, (e.1.0, e.1.1, (e.1.2.0, same))))

    pub entered : (b : Bool) (q : Place) (n : ℕ) → Occupied b q → Vacant b q → WithinComparisonBound n (members_in (table_in links) m) → is_tree (kind_in m) ≡ true
        → Ran (p ∷ []) (λ s. asks (is_tree s.kind) WrongKind None) Answers links links' m m' (Ok (Some (b, q, n)))
    entered b q n occupied vacant looks is = record { tested = goes_on _ _ _ is refl; turned = entered_at b q n occupied vacant looks; unchanged = tt }

    pub not_entered : IsLinked is_linked (table_in links) p × AtGap (members_in (table_in links) m) (IsVacantFor at) × IsUnchanged links links' m m' → is_tree (kind_in m) ≡ true
        → Ran (p ∷ []) (λ s. asks (is_tree s.kind) WrongKind None) Answers links links' m m' (Ok None)
    not_entered none is = record {
      tested = goes_on _ _ _ is refl;
      turned = rw none.2.0 (still links none.2.1 (λ same. (in_linked (table_in links) (lawful links) p ∙ none.0, none.1, same)));
      unchanged = tt;
    }
