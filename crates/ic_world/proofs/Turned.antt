-- What a world guarantees of a call of one collection follows from the contract of the collection's own call, whatever the kind.
use Rattle.std.proofs.Common.{◌≡◌, ◌≢◌, ◌⊎◌, inl, inr, true, false, Option, None, List, [], ◌∷◌, ◌++◌, refl, sym, ap, ◌∙◌, subst, drop, nat_cmp}
use Rattle.std.proofs.lemmas.Bool.{cases_eq}
use Rattle.std.specs.FinSet as set
use Rattle.ic_link_ops.specs.Prelude.{Place, index_of, Cut, join, insert, remove, replace, IsAbsent, Table, IsCovered, IsUnlinked}
use Rattle.ic_link_ops.proofs.Prelude.{same_index, absent_both, absent_left, absent_right}
use Rattle.ic_link_ops.proofs.StepLemmas.{released_stay, each_unlinked}
use Rattle.ic_any_collection.specs.declared.entry.Entry.{Entry}
use Rattle.ic_any_collection.specs.Entries.{is_linked}
use Rattle.ic_any_collection.specs.declared.any_collection.AnyCollection.{AnyCollection}
use Rattle.ic_any_collection.specs.AnyCollection.{kind_in, cursor_in, members_in, Keeps, Held, Alike}
use Rattle.ic_any_collection.specs.Edits.{Leaves, Moves, Puts, Takes, Swaps, Empties}
use Rattle.ic_any_collection.proofs.AllKinds.{IsLawful, one_sequence, held_of}
use Rattle.ic_world.specs.LinkedSets.{linked_in}
use Rattle.ic_world.specs.Calls.{State, put, taken, swapped, moved, having, cleared}
use Rattle.ic_world.specs.Turns.{Each, Turns, state_of}
use Rattle.ic_world.proofs.Linked.{absent_or, linked_gains, linked_loses, linked_swaps, linked_unlinks}

absent_drop : (q : Place) (t : List Place) → IsAbsent q t → IsAbsent q (drop 1 t)
absent_drop q [] h = tt
absent_drop q (x ∷ t) h = h.1

-- the state of a collection after a call: it has the kind of m, the members s, the cursor `cursor`, and the linked places `linked`
abbrev after_call : {V : Type 0} → AnyCollection V → List Place → Option Place → set.FinSet nat_cmp → State
after_call m s cursor linked = record { kind = kind_in m; members = s; cursor = cursor; linked = linked }

module _ {V : Type 0} {old new : Table Entry} {m m' : AnyCollection V} (law : IsLawful old) (law' : IsLawful new) where
  -- WHAT A CALL CHANGES (`Turns`) follows from the newly linked places `fresh`, the new members and cursor of the collection, and the new linked set
  pub turns_by : {names s : List Place} {cursor : Option Place} {linked : set.FinSet nat_cmp} {Accepts : State → State → Type 0} (fresh : List Place)
      → (fresh ≡ []) ⊎ (fresh ≡ names) → Each (IsUnlinked is_linked old) fresh
      → ((q : Place) → IsAbsent q fresh → is_linked (new.entry q) ≡ true → is_linked (old.entry q) ≡ true)
      → (e : Leaves old new m m' s cursor (fresh ++ members_in old m)) → ((q : Place) → IsAbsent q (fresh ++ members_in old m) → IsAbsent q s)
      → linked_in new ≡ linked → (state_of new m' ≡ after_call m s cursor linked → Accepts (state_of old m) (state_of new m')) → Turns names Accepts old new m m'
  turns_by {s = s} fresh named free only e adds_none is accepts =
      let shown = one_sequence new law' m' s e.kept.shown in record {
        fresh = fresh;
        named = named;
        free = free;
        only = only;
        frame = e.frame;
        adds_none = λ q out. subst (IsAbsent q) (sym shown) (adds_none q out);
        held = held_of law' m' s e.kept;
        alike = e.alike;
        accepts = accepts (λ i. record { kind = e.alike i; members = shown i; cursor = e.cursor_is i; linked = is i });
      }

  -- the place p is inserted into the gap
  pub turns_put : {cursor : Option Place} {Accepts : State → State → Type 0} (gap : Cut) (p : Place) → join gap ≡ members_in old m → (e : Puts old new m m' gap p cursor)
      → (state_of new m' ≡ put (state_of old m) gap p cursor → Accepts (state_of old m) (state_of new m')) → Turns (p ∷ []) Accepts old new m m'
  turns_put gap p cut e accepts =
      let absent : (q : Place) → IsAbsent q (p ∷ join gap) → IsAbsent q (insert gap p) =
      λ q out. absent_both q gap.front (p ∷ gap.back) (absent_left q gap.front gap.back out.1) (out.0, absent_right q gap.front gap.back out.1) in
      turns_by (p ∷ []) (inr refl) (e.links.was, tt) (λ q out h. sym (e.links.others q out.0) ∙ h) e.leaves
      (λ q out. absent q (subst (λ s. IsAbsent q (p ∷ s)) (sym cut) out)) (linked_gains old new law law' p e.links.is e.links.others) accepts

  -- the place p, which is the member after the gap, is removed
  pub turns_out : {cursor : Option Place} {Accepts : State → State → Type 0} (gap : Cut) (p : Place) → join gap ≡ members_in old m → (e : Takes old new m m' gap p cursor)
      → (state_of new m' ≡ taken (state_of old m) gap p cursor → Accepts (state_of old m) (state_of new m')) → Turns [] Accepts old new m m'
  turns_out gap p cut e accepts =
      let still : (q : Place) → is_linked (new.entry q) ≡ true → is_linked (old.entry q) ≡ true = λ q h. elim (cases_eq (index_of q) (index_of p)) [
        | inl same ↦ let no : is_linked (new.entry q) ≡ false = rw (same_index q p same) e.links.is in absurd cc
        | inr other ↦ sym (e.links.others q (λ x. other (ap index_of x))) ∙ h
      ] in
      let absent : (q : Place) → IsAbsent q (join gap) → IsAbsent q (remove gap) =
      λ q out. absent_both q gap.front (drop 1 gap.back) (absent_left q gap.front gap.back out) (absent_drop q gap.back (absent_right q gap.front gap.back out)) in
      turns_by [] (inl refl) tt (λ q out h. still q h) e.leaves
      (λ q out. absent q (subst (IsAbsent q) (sym cut) out)) (linked_loses old new law law' p e.links.is e.links.others) accepts

  -- the place p replaces `out`, which is the member after the gap
  pub turns_swap : {cursor : Option Place} {Accepts : State → State → Type 0} (gap : Cut) (p out : Place) → IsCovered old p → join gap ≡ members_in old m → (e : Swaps old new m m' gap p out cursor)
      → (state_of new m' ≡ swapped (state_of old m) gap p out cursor → Accepts (state_of old m) (state_of new m')) → Turns (p ∷ []) Accepts old new m m'
  turns_swap gap p out covered cut e accepts =
      let gains = e.links.1 in
      let loses = e.links.2 in
      let only : (q : Place) → q ≢ p → is_linked (new.entry q) ≡ true → is_linked (old.entry q) ≡ true = λ q n h. elim (cases_eq (index_of q) (index_of out)) [
        | inl same ↦ let no : is_linked (new.entry q) ≡ false = rw (same_index q out same) loses.is in absurd cc
        | inr other ↦ sym (gains.others q n) ∙ sym (loses.others q (λ x. other (ap index_of x))) ∙ h
      ] in
      let absent : (q : Place) → IsAbsent q (p ∷ join gap) → IsAbsent q (replace gap p) =
      λ q far. absent_both q gap.front (p ∷ drop 1 gap.back) (absent_left q gap.front gap.back far.1) (far.0, absent_drop q gap.back (absent_right q gap.front gap.back far.1)) in
      turns_by (p ∷ []) (inr refl) (gains.was, tt) (λ q far h. only q far.0 h) e.leaves
      (λ q far. absent q (subst (λ s. IsAbsent q (p ∷ s)) (sym cut) far)) (linked_swaps old e.links.0 new law law' p out covered gains loses) accepts

  -- all members of the collection are removed
  pub turns_clear : {Accepts : State → State → Type 0} → (e : Empties old new m m')
      → (state_of new m' ≡ cleared (state_of old m) → Accepts (state_of old m) (state_of new m')) → Turns [] Accepts old new m m'
  turns_clear e accepts =
      let gone : (q : Place) → (IsAbsent q (members_in old m) → ⊥) → is_linked (new.entry q) ≡ false = λ q there. each_unlinked is_linked (members_in old m) old new q e.links there in
      let same : (q : Place) → IsAbsent q (members_in old m) → is_linked (new.entry q) ≡ is_linked (old.entry q) = λ q out. released_stay is_linked (members_in old m) old new q e.links out in
      turns_by [] (inl refl) tt (λ q out h. elim (absent_or (members_in old m) q) [
        | inl out ↦ sym (same q out) ∙ h
        | inr there ↦ absurd (let no = gone q there in let both : true ≡ false = sym h ∙ no in cc)
      ]) e.leaves (λ q out. tt) (linked_unlinks old new law law' (members_in old m) gone same) accepts

-- only the cursor of the collection has moved
pub turns_still : {V : Type 0} {t : Table Entry} {m m' : AnyCollection V} {cursor : Option Place} {names : List Place} {Accepts : State → State → Type 0} → IsLawful t → (e : Moves t m m' cursor)
    → (state_of t m' ≡ moved (state_of t m) cursor → Accepts (state_of t m) (state_of t m')) → Turns names Accepts t t m m'
turns_still {t = t'} {m = m'} law e accepts =
    turns_by law law [] (inl refl) tt (λ q out h. h)
    (record { kept = e.kept; alike = e.alike; cursor_is = e.cursor_is; frame = record { extent = refl; others = λ q out. refl } })
    (λ q out. out) refl accepts

-- neither the members nor the cursor have moved, if the collection and the table are as before
pub unmoved : {V : Type 0} {t : Table Entry} {m : AnyCollection V} → Held t m → Moves t m m (cursor_in m)
unmoved held = record { kept = held; alike = refl; cursor_is = refl }

module _ {V : Type 0} where
  -- the collection m' is m with its cursor at null, and the members are as before
  pub nulled : {t : Table Entry} {m m' : AnyCollection V} → Held t m → ((t : Table Entry) (s : List Place) → Keeps t m s → Keeps t m' s) → Alike m m' → cursor_in m' ≡ None
      → Moves t m m' None
  nulled {t} {m} held kept alike null = record { kept = kept t (members_in t m) held; alike = alike; cursor_is = null }

  -- the table stays as it is, and represents other members s for the collection
  pub turns_kept : {t : Table Entry} {m m' : AnyCollection V} {cursor : Option Place} {Accepts : State → State → Type 0} (law : IsLawful t) (s : List Place) → Keeps t m' s → Alike m m'
      → cursor_in m' ≡ cursor → ((q : Place) → IsAbsent q (members_in t m) → IsAbsent q s) → (state_of t m' ≡ having (state_of t m) s cursor → Accepts (state_of t m) (state_of t m'))
      → Turns [] Accepts t t m m'
  turns_kept law s kept alike cursor_is adds_none accepts =
      turns_by law law [] (inl refl) tt (λ q out h. h)
      (record { kept = kept; alike = alike; cursor_is = cursor_is; frame = record { extent = refl; others = λ q out. refl } }) adds_none refl accepts
