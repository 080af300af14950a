-- A CALL THAT GIVES A PART OF A COLLECTION AWAY: the collection is edited, and the world gets a new collection for the part.
use Rattle.std.proofs.Common.{◌≡◌, ℕ, ◌<◌, inl, inr, Bool, true, false, List, [], ◌∷◌, ◌++◌, length, map, set, Option, Some, None, refl, sym, ap, ◌∙◌, subst}
use Rattle.std.proofs.lemmas.List.{length-map, length-set, map-set, get_or_append_left, get_or_at, set_at, set-append_left}
use Rattle.ic_link_ops.specs.Prelude.{Objects, IsDisjoint, Table}
use Rattle.ic_link_ops.proofs.SequenceLemmas.{absent_swap}
use Rattle.ic_any_collection.specs.declared.entry.Entry.{Entry}
use Rattle.ic_any_collection.specs.declared.any_table.AnyTable.{AnyTable}
use Rattle.ic_world.specs.declared.field.WorldField.{WorldField}
use Rattle.ic_any_collection.specs.declared.any_collection.AnyCollection.{AnyCollection}
use Rattle.ic_any_collection.specs.AnyCollection.{Held, members_in, kind_in}
use Rattle.ic_world.specs.declared.collection.Collection.{Collection}
use Rattle.ic_world.specs.declared.taken_part.TakenPart.{TakenPart}
use Rattle.ic_world.specs.declared.call.Refusal.TheVariants.{WrongKind, OutOfMemory}
use Rattle.ic_world.specs.Prelude.{Family, with_opened, opened, refused, asks, NoneLeftLinked, IsKept, table, table_of, left_in, sequence, seen_as, at, family_of, IsWhole}
use Rattle.ic_world.specs.Several.{has_part, PartsOf, OpensWith, StepOut, refusal_of_part, asks_collection}
use Rattle.ic_world.specs.Turns.{HandsOut, state_of}
use Rattle.ic_world.proofs.Readings.{Found, left_back, collection_is, some_within, with_is}
use Rattle.ic_world.specs.Collections.{with_members}
use Rattle.ic_world.proofs.Edits.{Edit, after, at_after, here, new_sequence, same_sequence, edited_family, edited_whole}
use Rattle.ic_world.proofs.Opened.{appended_whole, appended_family}
use Rattle.ic_world.proofs.CollectionCall.{same_state}
use Rattle.ic_world.proofs.LeftLinked.{none_out}

module _ {V : Type 0} {objects : Objects V} {room : ℕ} {ts : List (Table Entry)} {cs : List (Option (Collection V))} (whole : IsWhole objects room ts cs)
    (c : ℕ) (k : Collection V) (is : at cs c ≡ Some k) (part : TakenPart) {new : Table Entry} {m handed : AnyCollection V} (parts : HandsOut (PartsOf part) (table ts k.field) new k.members m handed) where
  part_edit : Edit objects ts cs c k new m (members_in new m) (sequence ts k)
  part_edit = record {
    was = is;
    kept = parts.held;
    alike = parts.alike;
    frame = parts.frame;
    placed = λ q h. whole.placed k.field q (sym (parts.links q) ∙ h);
    adds_none = λ q out. (parts.adds_none q out).0;
    beside = λ d l n is_l same. whole.apart d c l k n is_l is same;
  }

  abbrev more : Collection V
  more = record { field = k.field; members = handed }

  abbrev tables : List (Table Entry)
  tables = set ts k.field new

  abbrev between : List (Option (Collection V))
  between = set cs c (Some (after k m))

  shows : sequence tables more ≡ members_in new handed
  shows = ap (λ t. members_in t handed) (here whole part_edit)

  held : Held (table tables k.field) handed
  held = rw (here whole part_edit) parts.hands_out

  others : (d : ℕ) (l : Collection V) → at between d ≡ Some l → l.field ≡ k.field → IsDisjoint (sequence tables l) (sequence tables more)
  others d l is_l same =
      subst (IsDisjoint (sequence tables l)) (sym shows) (elim (at_after whole part_edit d l is_l) [
        | inl this ↦ subst (λ x. IsDisjoint (sequence tables x) (members_in new handed)) (sym this.1) (subst (λ s. IsDisjoint s (members_in new handed)) (sym (new_sequence whole part_edit)) parts.apart)
        | inr old ↦ subst (λ s. IsDisjoint s (members_in new handed)) (sym (same_sequence whole part_edit d l old.0 old.1))
            (absent_swap (sequence ts l) (sequence ts k) (whole.apart d c l k old.0 old.1 is same) (members_in new handed) (λ q out. (parts.adds_none q out).1))
      ])

  field_there : k.field < length tables
  field_there = rw length-set (whole.in_field c k is)

  pub part_whole : IsWhole objects room tables (between ++ Some more ∷ [])
  part_whole = appended_whole (edited_whole whole part_edit) more field_there held others

  pub part_hands : {A : Type 0} {adapter : A} → (n : ℕ) → n ≡ length cs → OpensWith (family_of adapter objects ts cs) c part (opened n) (family_of adapter objects tables (between ++ Some more ∷ []))
  part_hands {adapter = adapter} n number = (
    rw length-map number,
    seen_as k (sequence ts k),
    state_of new m,
    state_of new handed,
    collection_is adapter objects ts cs c k is,
    subst (λ s. PartsOf part s (state_of new m) (state_of new handed)) (sym (same_state whole c k is adapter)) parts.parts,
    appended_family (edited_whole whole part_edit) more field_there held others
        ∙ ap (λ s. with_opened (family_of adapter objects tables between) (seen_as more s)) shows
        ∙ ap (λ w. with_opened w (seen_as more (members_in new handed))) (edited_family whole part_edit _ refl),
  )

module _ {A V M : Type 0} {adapter : A} {objects : Objects V} {room : ℕ} (tables : List (WorldField M)) {cs : List (Option (Collection V))} (kept : IsKept adapter objects room tables cs)
    (c : ℕ) {k : Collection V} {old : Family A V} (view : family_of adapter objects (map table_of tables) cs ≡ old) (part : TakenPart) where
  -- the call is refused if the kind has no such part, or if there is not enough memory
  module _ (is : at cs c ≡ Some k) where
    tested_by : (b : Bool) → has_part part (kind_in k.members) ≡ b → refusal_of_part (family_of adapter objects (map table_of tables) cs) c part ≡ asks b WrongKind None
    tested_by b has = ap (λ o. asks_collection o (λ s. asks (has_part part s.kind) WrongKind None)) (collection_is adapter objects (map table_of tables) cs c k is) ∙ ap (λ x. asks x WrongKind None) has

    pub part_lacking : has_part part (kind_in k.members) ≡ false → StepOut old c part (refused WrongKind) old
    part_lacking lacks = rw (← view, tested_by false lacks) (refl, refl)

    pub part_unroomed : has_part part (kind_in k.members) ≡ true → StepOut old c part (refused OutOfMemory) old
    part_unroomed has = rw (← view, tested_by true has) refl

  -- if the call is not refused, it is a step of the model, and the invariant of the world holds after it
  module _ {now : WorldField M} (at_k : Found tables cs c k now) (links : AnyTable M) (m handed : AnyCollection V) (parts : HandsOut (PartsOf part) (table_of now) (table_of (record now { links = links })) k.members m handed)
      (has : has_part part (kind_in k.members) ≡ true) where
    abbrev nf : WorldField M
    nf = record now { links = links }

    abbrev handed_one : Collection V
    handed_one = record { field = k.field; members = handed }

    there : HandsOut (PartsOf part) (table (map table_of tables) k.field) (table_of nf) k.members m handed
    there = rw at_k.read parts

    pub handed_step : (n : ℕ) → n ≡ length cs → StepOut old c part (opened n) (family_of adapter objects (map table_of (set tables k.field nf)) (set cs c (Some (after k m)) ++ Some handed_one ∷ []))
    handed_step n number =
        subst (λ w. StepOut w c part (opened n) (family_of adapter objects (map table_of (set tables k.field nf)) (set cs c (Some (after k m)) ++ Some handed_one ∷ []))) view
        (rw (tested_by at_k.is true has, map-set) (part_hands kept.0 c k at_k.is part there n number))

    pub handed_kept : IsKept adapter objects room (set tables k.field nf) (set cs c (Some (after k m)) ++ Some handed_one ∷ [])
    handed_kept =
        (rw map-set (part_whole kept.0 c k at_k.is part there), rw (left_back tables k.field now links at_k.table_back) (none_out (subst (NoneLeftLinked (left_in tables)) view kept.1) c part (opened (length cs)) (handed_step (length cs) refl)))

-- the call appends an empty collection for the part to the list `cs` of collections, before it takes the part from the collection with number c
module _ {V : Type 0} (cs : List (Option (Collection V))) (c : ℕ) {k : Collection V} (is : at cs c ≡ Some k) (empty : Collection V) where
  pub still_there : at (cs ++ Some empty ∷ []) c ≡ Some k
  still_there = get_or_append_left cs (Some empty ∷ []) None c (some_within cs c is) ∙ is

  module _ (m handed : AnyCollection V) (n : ℕ) (number : n ≡ length cs) where
    abbrev first : List (Option (Collection V))
    first = with_members (cs ++ Some empty ∷ []) c m

    first_is : first ≡ set cs c (Some (after k m)) ++ Some empty ∷ []
    first_is = with_is (cs ++ Some empty ∷ []) c k still_there m ∙ set-append_left cs (Some empty ∷ []) c (Some (after k m)) (some_within cs c is)

    count : length (set cs c (Some (after k m))) ≡ n
    count = length-set cs c (Some (after k m)) ∙ sym number

    pub last_there : at first n ≡ Some empty
    last_there = ap (λ x. at x n) first_is ∙ get_or_at (set cs c (Some (after k m))) (Some empty) [] None n count

    pub handed_list : with_members first n handed ≡ set cs c (Some (after k m)) ++ Some (record { field = empty.field; members = handed }) ∷ []
    handed_list = with_is first n empty last_there handed ∙ ap (λ x. set x n (Some (record { field = empty.field; members = handed }))) first_is ∙ set_at (set cs c (Some (after k m))) (Some empty) [] _ n count
