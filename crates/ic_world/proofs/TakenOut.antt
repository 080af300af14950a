-- A collection is removed from the list of its field, and its number then names no collection.
use Rattle.std.proofs.Common.{◌≡◌, ◌≢◌, ℕ, ◌<◌, inl, inr, List, [], ◌∷◌, length, map, set, get_or, Option, Some, None, refl, sym, ap, ◌∙◌, subst, arith, slice_get, Vec}
use Rattle.std.proofs.lemmas.Bool.{cases_eq}
use Rattle.std.proofs.lemmas.List.{length-set, length-append, map-set, set-get_or, get_or-set_same, get_or-set_other}
use Rattle.std.proofs.lemmas.Option.{slice_get_within, slice_get_past, same_Some}
use Rattle.ic_any_collection.specs.declared.any_collection.AnyCollection.{AnyCollection}
use Rattle.ic_world.specs.declared.collection.Collection.{Collection}
use Rattle.ic_world.specs.declared.collections_by_number.Slot.{Slot}
use Rattle.ic_world.specs.declared.collections_by_number.Numbered.{Numbered}
use Rattle.ic_world.specs.Tables.{at}
use Rattle.ic_world.specs.ByNumber.{items_of, live_in, disposed, lying, in_field, by_number, AreNumbered, IsTakenOut}
use Rattle.ic_world.proofs.ByNumber.{Lists, shown, shows, get_written, get_other, get_front, get_last, some_not_none, number_apart, field_within, represented_is, Reads, list_is}

module _ {V : Type 0} where
  -- ONE COLLECTION IS REMOVED from the list of its field, and the last collection of the list moves to its index
  module _ {ls : Lists V} {ns : List Slot} (are : AreNumbered ls ns) (c : ℕ) (s : Slot) (is : slice_get ns c ≡ Some s) (n : Numbered V) (lies : lying ls s.field s.index ≡ Some n)
      (moved : ℕ) (short : List (Numbered V)) (out : IsTakenOut (live_in ls s.field) s.index moved short) (gone : Slot) (disposed_of : gone.index ≡ disposed) where
    abbrev f : ℕ
    f = s.field

    abbrev i : ℕ
    i = s.index

    abbrev end : ℕ
    end = length out.rest

    abbrev fewer : Lists V
    fewer = set ls f short

    abbrev after : List Slot
    after = set (set ns moved s) c gone

    f_there : f < length ls
    f_there = field_within ls f i n lies

    c_there : c < length ns
    c_there = slice_get_within ns c s is

    short_is : (j : ℕ) → lying fewer f j ≡ slice_get (set out.rest i out.last) j
    short_is j = ap (λ xs. slice_get xs j) (get_or-set_same ls f short [] f_there ∙ out.is)

    -- where the last collection of the list was, and which slot it had
    last_was : lying ls f end ≡ Some out.last
    last_was = ap (λ xs. slice_get xs end) out.was ∙ get_last out.rest out.last

    last_slot : slice_get ns moved ≡ Some (record { field = f; index = end })
    last_slot = ap (slice_get ns) out.moved ∙ are.found f end out.last last_was

    pub moved_there : moved < length ns
    moved_there = slice_get_within ns moved _ last_slot

    i_within : i ≢ end → i < end
    i_within other =
        let low = slice_get_within (live_in ls f) i n lies in
        omega (arith, low, other, ap length out.was, length-append out.rest (out.last ∷ []))

    -- each collection is at the same index as before, except the removed one and the last one
    stays : (g j : ℕ) → (g ≡ f → j ≡ i → ⊥) → (g ≡ f → j ≡ end → ⊥) → lying fewer g j ≡ lying ls g j
    stays g j not_i not_end = elim (cases_eq g f) [
      | inl same ↦
          ap (λ h. lying fewer h j) same ∙ short_is j ∙ get_other out.rest i j out.last (not_i same) ∙ sym (get_front out.rest out.last j (not_end same))
          ∙ sym (ap (λ xs. slice_get xs j) out.was) ∙ sym (ap (λ h. lying ls h j) same)
      | inr other ↦ ap (λ xs. slice_get xs j) (get_or-set_other ls f g short [] other)
    ]

    nothing_at_end : i ≢ end → lying fewer f end ≡ None
    nothing_at_end other = short_is end ∙ get_other out.rest i end out.last (λ e. other (sym e)) ∙ slice_get_past out.rest end (omega arith)

    moved_here : i ≢ end → lying fewer f i ≡ Some out.last
    moved_here other = short_is i ∙ get_written out.rest i out.last (i_within other)

    nothing_left : i ≡ end → lying fewer f i ≡ None
    nothing_left at_end = short_is i ∙ slice_get_past (set out.rest i out.last) i (let e = length-set out.rest i out.last in omega (arith, e, at_end))

    -- which slot each number has after the removal: the slots of two numbers were written, and all others stay
    slot_gone : slice_get after c ≡ Some gone
    slot_gone = get_written (set ns moved s) c gone (rw length-set c_there)

    slot_moved : moved ≢ c → slice_get after moved ≡ Some s
    slot_moved other = get_other (set ns moved s) c moved gone other ∙ get_written ns moved s moved_there

    slot_stays : (d : ℕ) → d ≢ c → d ≢ moved → slice_get after d ≡ slice_get ns d
    slot_stays d not_c not_moved = get_other (set ns moved s) c d gone not_c ∙ get_other ns moved d s not_moved

    -- the collection that moves is not the removed one, unless the removed one was the last of the list
    moved_is : moved ≢ c → i ≢ end
    moved_is other at_end = other (number_apart are c moved s _ n is last_slot lies refl (sym at_end))

    last_is : i ≢ end → moved ≢ c
    last_is other same =
        let slots : s ≡ record { field = f; index = end } = same_Some _ _ (sym is ∙ ap (slice_get ns) (sym same) ∙ last_slot) in
        other (ap (λ (t : Slot). t.index) slots)

    not_c : (g j : ℕ) (x : Numbered V) → lying ls g j ≡ Some x → (g ≡ f → j ≡ i → ⊥) → x.number ≢ c
    not_c g j x e differ same =
        let slots : s ≡ record { field = g; index = j } = same_Some _ _ (sym is ∙ ap (slice_get ns) (sym same) ∙ are.found g j x e) in
        differ (sym (ap (λ (t : Slot). t.field) slots)) (sym (ap (λ (t : Slot). t.index) slots))

    not_moved : (g j : ℕ) (x : Numbered V) → lying ls g j ≡ Some x → (g ≡ f → j ≡ end → ⊥) → x.number ≢ moved
    not_moved g j x e differ same =
        let slots : (let t : Slot = record { field = f; index = end } in t) ≡ record { field = g; index = j } = same_Some _ _ (sym last_slot ∙ ap (slice_get ns) (sym same) ∙ are.found g j x e) in
        differ (sym (ap (λ (t : Slot). t.field) slots)) (sym (ap (λ (t : Slot). t.index) slots))

    -- for each collection that is left, the slot of its number leads to it, and its index is below the mark of disposed collections
    found : (g j : ℕ) (x : Numbered V) → lying fewer g j ≡ Some x → (slice_get after x.number ≡ Some (record { field = g; index = j })) × (j < disposed)
    found g j x e = elim (cases_eq g f) [
      | inr other ↦ same (λ at_f _. other at_f) (λ at_f _. other at_f)
      | inl at_f ↦ elim (cases_eq j end) [
        | inl at_end ↦ absurd (gone_from at_f at_end)
        | inr not_end ↦ elim (cases_eq j i) [
          | inr not_i ↦ same (λ _ at_i. not_i at_i) (λ _ at_end. not_end at_end)
          | inl at_i ↦
              let other : i ≢ end = λ h. not_end (at_i ∙ h) in
              let this : out.last ≡ x = same_Some _ _ (sym (moved_here other) ∙ sym (ap (λ h. lying fewer h j) at_f ∙ ap (lying fewer f) at_i) ∙ e) in (
                ap (λ (y : Numbered V). slice_get after y.number) (sym this) ∙ ap (slice_get after) (sym out.moved) ∙ slot_moved (last_is other) ∙ (λ k. Some (record { field = sym at_f k; index = sym at_i k })),
                (let low = are.before f i n lies in omega (arith, low, at_i)),
              )
        ]
      ]
    ]
      where
        same : (g ≡ f → j ≡ i → ⊥) → (g ≡ f → j ≡ end → ⊥) → (slice_get after x.number ≡ Some (record { field = g; index = j })) × (j < disposed)
        same not_i not_end =
            let was = sym (stays g j not_i not_end) ∙ e in
            (slot_stays x.number (not_c g j x was not_i) (not_moved g j x was not_end) ∙ are.found g j x was, are.before g j x was)

        gone_from : g ≡ f → j ≡ end → ⊥
        gone_from at_f at_end = elim (cases_eq i end) [
          | inl last ↦ some_not_none e (ap (λ h. lying fewer h j) at_f ∙ ap (lying fewer f) (at_end ∙ sym last) ∙ nothing_left last)
          | inr other ↦ some_not_none e (ap (λ h. lying fewer h j) at_f ∙ ap (lying fewer f) at_end ∙ nothing_at_end other)
        ]

    -- what the slot of another number leads to after the removal
    at_moved : moved ≢ c → (m : AnyCollection V) × (lying fewer f i ≡ Some (record { number = moved; members = m }))
    at_moved other = (out.last.members, moved_here (moved_is other) ∙ (λ k. Some (record { number = sym out.moved k; members = out.last.members })))

    not_its_slot : (d : ℕ) (t : Slot) → slice_get ns d ≡ Some t → d ≢ c → t.field ≡ f → t.index ≡ i → ⊥
    not_its_slot d t e other same at_i = other (number_apart are c d s t n is e lies same at_i)

    not_last_slot : (d : ℕ) (t : Slot) → slice_get ns d ≡ Some t → d ≢ moved → t.field ≡ f → t.index ≡ end → ⊥
    not_last_slot d t e other same at_end =
        other (number_apart are moved d (record { field = f; index = end }) t out.last last_slot e last_was same at_end)

    pub numbered_less : AreNumbered fewer after
    numbered_less = record { found = λ g j x e. (found g j x e).0; before = λ g j x e. (found g j x e).1; kept = kept }
      where
        kept : (d : ℕ) (t : Slot) → slice_get after d ≡ Some t → t.index ≢ disposed → (m : AnyCollection V) × (lying fewer t.field t.index ≡ Some (record { number = d; members = m }))
        kept d t e live = elim (cases_eq d c) [
          | inl same ↦ absurd (live (ap (λ (u : Slot). u.index) (same_Some _ _ (sym e ∙ ap (slice_get after) same ∙ slot_gone)) ∙ disposed_of))
          | inr not_c ↦ elim (cases_eq d moved) [
            | inl same ↦
                let other : moved ≢ c = λ h. not_c (same ∙ h) in
                let slot : s ≡ t = same_Some _ _ (sym (slot_moved other) ∙ ap (slice_get after) (sym same) ∙ e) in
                let m = at_moved other in
                (m.0, subst (λ (u : Slot). lying fewer u.field u.index ≡ Some (record { number = d; members = m.0 })) slot (m.1 ∙ (λ k. Some (record { number = sym same k; members = m.0 }))))
            | inr not_m ↦
                let was = sym (slot_stays d not_c not_m) ∙ e in
                let y = are.kept d t was live in (y.0, stays t.field t.index (not_its_slot d t was not_c) (not_last_slot d t was not_m) ∙ y.1)
          ]
        ]

    pub represented_less : by_number fewer after ≡ set (by_number ls ns) c None
    represented_less = shows ls fewer ns after c None (length-set (set ns moved s) c gone ∙ length-set ns moved s) others (ap (shown fewer) slot_gone ∙ ap (in_field gone.field) nothing_disposed)
      where
        nothing_disposed : lying fewer gone.field gone.index ≡ None
        nothing_disposed = by (lying fewer gone.field gone.index) refl
          where
            by : (o : Option (Numbered V)) → lying fewer gone.field gone.index ≡ o → lying fewer gone.field gone.index ≡ None
            by None e = e
            by (Some x) e = absurd (let low = (found gone.field gone.index x e).1 in omega (arith, low, disposed_of))

        others : (d : ℕ) → d ≢ c → shown fewer (slice_get after d) ≡ shown ls (slice_get ns d)
        others d not_c = elim (cases_eq d moved) [
          | inl same ↦
              let other : moved ≢ c = λ h. not_c (same ∙ h) in
              ap (λ h. shown fewer (slice_get after h)) same ∙ ap (shown fewer) (slot_moved other) ∙ ap (in_field f) (moved_here (moved_is other) ∙ sym last_was) ∙ ap (shown ls) (sym last_slot)
              ∙ sym (ap (λ h. shown ls (slice_get ns h)) same)
          | inr not_m ↦ ap (shown fewer) (slot_stays d not_c not_m) ∙ stay not_m (slice_get ns d) refl
        ]
          where
            stay : d ≢ moved → (o : Option Slot) → slice_get ns d ≡ o → shown fewer o ≡ shown ls o
            stay not_m None e = refl
            stay not_m (Some t) e = ap (in_field t.field) (stays t.field t.index (not_its_slot d t e not_c) (not_last_slot d t e not_m))

  -- if the collection with the number c was disposed of before, disposing of it again changes nothing
  pub gone_already : {ls : Lists V} {ns : List Slot} → AreNumbered ls ns → (c : ℕ) (s : Slot) → slice_get ns c ≡ Some s → s.index ≡ disposed → {cs : List (Option (Collection V))} → by_number ls ns ≡ cs → cs ≡ set cs c None
  gone_already {ls} {ns} are c s is at_end {cs} view = sym (ap (set cs c) (sym none) ∙ set-get_or cs c None)
    where
      by : (o : Option (Numbered V)) → lying ls s.field s.index ≡ o → o ≡ None
      by None e = refl
      by (Some x) e = absurd (let low = are.before s.field s.index x e in omega (arith, low, at_end))

      none : at cs c ≡ None
      none = represented_is ls ns c s view ∙ ap (shown ls) is ∙ ap (in_field s.field) (by (lying ls s.field s.index) refl)

-- if a call reads the list of the field, removes the collection and writes the list back, slots and lists are as after the removal of this collection
module _ {V M : Type 0} (lists : List (Vec (Numbered V) M)) (ns : List Slot) (c : ℕ) (s : Slot) (are : AreNumbered (map items_of lists) ns) (r : Reads (map items_of lists) ns c s)
    (list : Vec (Numbered V) M) (read : list ≡ get_or lists s.field list) (moved : ℕ) (v : Vec (Numbered V) M) (out : IsTakenOut list.items s.index moved v.items) where
  out_of : IsTakenOut (live_in (map items_of lists) s.field) s.index moved v.items
  out_of = subst (λ xs. IsTakenOut xs s.index moved v.items) (sym (list_is lists ns c s r list read)) out

  pub number_there : moved < length ns
  number_there = moved_there are c s r.slot r.one r.lies moved v.items out_of (record { field = 0; index = disposed }) refl

  module _ (gone : Slot) (disposed_of : gone.index ≡ disposed) where
    pub taken_numbered : AreNumbered (map items_of (set lists s.field v)) (set (set ns moved s) c gone)
    taken_numbered = subst (λ ls. AreNumbered ls (set (set ns moved s) c gone)) (sym (map-set items_of lists s.field v)) (numbered_less are c s r.slot r.one r.lies moved v.items out_of gone disposed_of)

    pub taken_represented : {cs : List (Option (Collection V))} → by_number (map items_of lists) ns ≡ cs → by_number (map items_of (set lists s.field v)) (set (set ns moved s) c gone) ≡ set cs c None
    taken_represented view =
        ap (λ ls. by_number ls (set (set ns moved s) c gone)) (map-set items_of lists s.field v) ∙ represented_less are c s r.slot r.one r.lies moved v.items out_of gone disposed_of
        ∙ ap (λ x. set x c None) view
