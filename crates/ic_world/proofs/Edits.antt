-- An edit changes one table and one collection. All other collections keep their sequences, and the family changes as the edit says.
use Rattle.std.proofs.Common.{◌≡◌, ◌≢◌, ℕ, zero, suc, ◌<◌, ◌⊎◌, inl, inr, true, false, List, [], ◌∷◌, length, map, get_or, set, Option, Some, None, refl, sym, ap, ◌∙◌, subst, arith}
use Rattle.std.proofs.lemmas.Bool.{cases_eq}
use Rattle.std.proofs.lemmas.List.{get_or-set_same, get_or-set_other, get_or_past, length-set, map-set, get_or-map, set-get_or}
use Rattle.ic_link_ops.specs.Prelude.{Place, index_of, Objects, IsAbsent, IsDisjoint, Table, ChangesOnlyIn}
use Rattle.ic_link_ops.proofs.SequenceLemmas.{absent_swap, disjoint_sym}
use Rattle.ic_any_collection.specs.declared.entry.Entry.{Entry}
use Rattle.ic_any_collection.specs.Entries.{is_linked, kind_of}
use Rattle.ic_any_collection.specs.Kinds.{kind_with}
use Rattle.ic_world.specs.declared.collection.Collection.{Collection}
use Rattle.ic_any_collection.specs.declared.any_collection.AnyCollection.{AnyCollection}
use Rattle.ic_any_collection.specs.AnyCollection.{Keeps, Alike, members_in}
use Rattle.ic_world.specs.Prelude.{Sequence, LinkField, with_linked, with_collection, field_of, table, no_table, field_in, sequence, seen_as, represented_as, at, family_of, IsWhole, HasObject}
use Rattle.ic_any_collection.proofs.AllKinds.{IsLawful}
use Rattle.ic_world.specs.LinkedSets.{linked_in}
use Rattle.ic_any_collection.proofs.AllKinds.{one_sequence, keeps_frame}
use Rattle.ic_world.proofs.Linked.{side}

-- let the functions f and g agree on each item of xs except the item at c. Then `map f xs` and `map g xs` are equal, if the item at c is set to y in
-- both
pub set_map_same : {A B : Type 0} (f g : A → B) (xs : List A) (c : ℕ) (y : B) (d : A)
    → ((i : ℕ) → i ≢ c → i < length xs → g (get_or xs i d) ≡ f (get_or xs i d)) → set (map g xs) c y ≡ set (map f xs) c y
set_map_same f g [] c y d same = refl
set_map_same f g (x ∷ xs) zero y d same = ap (λ l. y ∷ l) (map_same f g xs d (λ i h. same (suc i) (λ e. omega (arith, e)) (omega (arith, h))))
  where
    map_same : {A B : Type 0} (f g : A → B) (xs : List A) (d : A) → ((i : ℕ) → i < length xs → g (get_or xs i d) ≡ f (get_or xs i d)) → map g xs ≡ map f xs
    map_same f g [] d same = refl
    map_same f g (x ∷ xs) d same = λ i. same zero (omega arith) i ∷ map_same f g xs d (λ j h. same (suc j) (omega (arith, h))) i
set_map_same f g (x ∷ xs) (suc c) y d same =
    λ i. same zero (λ e. omega (arith, e)) (omega arith) i ∷ set_map_same f g xs c y d (λ j n h. same (suc j) (λ e. n (omega (arith, e))) (omega (arith, h))) i

-- after the table of the field f was set to t, each other field has its old table, and f has t
table_other : (ts : List (Table Entry)) (f g : ℕ) (t : Table Entry) → g ≢ f → table (set ts f t) g ≡ table ts g
table_other ts f g t d = get_or-set_other ts f g t no_table d

table_here : (ts : List (Table Entry)) (f : ℕ) (t : Table Entry) → f < length ts → table (set ts f t) f ≡ t
table_here ts f t h = get_or-set_same ts f t no_table h

module _ {V : Type 0} where
  -- in each table of a world only covered places are linked
  pub lawful : {objects : Objects V} {room : ℕ} {ts : List (Table Entry)} {cs : List (Option (Collection V))} → IsWhole objects room ts cs → (f : ℕ) → IsLawful (table ts f)
  lawful {objects} {room} {ts} {cs} whole f q h =
      elim (side (length ts) f) [
        | inl past ↦ absurd (let no : is_linked ((table ts f).entry q) ≡ false = ap (λ (t : Table Entry). is_linked (t.entry q)) (get_or_past ts f no_table past) in cc)
        | inr in_bounds ↦
            let a = (whole.in_bounds (index_of q) (whole.placed f q h)).0 in
            let b = whole.covered f in_bounds in
            omega (arith, a, b)
      ]

  -- an edit changes the collection c and the table of its field, and no other. Only entries of `touched` change, only places of objects are linked,
  -- and no other collection of the field has a member in `touched`
  pub record Edit (objects : Objects V) (ts : List (Table Entry)) (cs : List (Option (Collection V))) (c : ℕ) (k : Collection V) (t : Table Entry) (m : AnyCollection V) (members touched : List Place) : Type 0 where
    pub was : at cs c ≡ Some k
    pub kept : Keeps t m members
    pub alike : Alike k.members m
    pub frame : ChangesOnlyIn (table ts k.field) t touched
    pub placed : (q : Place) → is_linked (t.entry q) ≡ true → HasObject objects (index_of q)
    pub adds_none : (q : Place) → IsAbsent q touched → IsAbsent q members
    pub beside : (d : ℕ) (l : Collection V) → d ≢ c → at cs d ≡ Some l → l.field ≡ k.field → IsDisjoint (sequence ts l) touched

  -- the collection after an edit that gives it the members m
  abbrev pub after : Collection V → AnyCollection V → Collection V
  after k m = record { field = k.field; members = m }

  module _ {objects : Objects V} {room : ℕ} {ts : List (Table Entry)} {cs : List (Option (Collection V))} (whole : IsWhole objects room ts cs)
      {c : ℕ} {k : Collection V} {t : Table Entry} {m : AnyCollection V} {members touched : List Place} (e : Edit objects ts cs c k t m members touched) where
    pub in_ts : k.field < length ts
    in_ts = whole.in_field c k e.was

    pub here : table (set ts k.field t) k.field ≡ t
    here = table_here ts k.field t in_ts

    pub edited_lawful : IsLawful t
    edited_lawful q h =
        let a = (whole.in_bounds (index_of q) (e.placed q h)).0 in
        let b = whole.covered k.field in_ts in
        let same = ap (λ x. x.places) e.frame.extent in
        omega (arith, a, b, same)

    -- only covered places are linked in the table of each field after the edit
    lawful_after : (f : ℕ) → IsLawful (table (set ts k.field t) f)
    lawful_after f =
        elim (cases_eq f k.field) [
          | inl same ↦ rw (same, here) edited_lawful
          | inr other ↦ rw (table_other ts k.field f t other) (lawful whole f)
        ]

    -- after the edit of c, the table of each other collection still represents its members
    kept_beside : (d : ℕ) (l : Collection V) → d ≢ c → at cs d ≡ Some l → Keeps (table (set ts k.field t) l.field) l.members (sequence ts l)
    kept_beside d l n is =
        elim (cases_eq l.field k.field) [
          | inl same ↦
              let was_here = let P : ℕ → Type 0 = λ f. Keeps (table ts f) l.members (sequence ts l) in subst P same (whole.held d l is) in
              let moved : Keeps t l.members (sequence ts l) = keeps_frame l.members (sequence ts l) touched was_here (e.beside d l n is same) e.frame in
              let P : ℕ → Type 0 = λ f. Keeps (table (set ts k.field t) f) l.members (sequence ts l) in
              let Q : Table Entry → Type 0 = λ u. Keeps u l.members (sequence ts l) in
              subst P (sym same) (subst Q (sym here) moved)
          | inr other ↦
              let Q : Table Entry → Type 0 = λ u. Keeps u l.members (sequence ts l) in
              subst Q (sym (table_other ts k.field l.field t other)) (whole.held d l is)
        ]

    -- each other collection has the same sequence after the edit of c
    pub same_sequence : (d : ℕ) (l : Collection V) → d ≢ c → at cs d ≡ Some l → sequence (set ts k.field t) l ≡ sequence ts l
    same_sequence d l n is = one_sequence (table (set ts k.field t) l.field) (lawful_after l.field) l.members (sequence ts l) (kept_beside d l n is).shown

    -- the sequence of the edited collection is `members`
    pub new_sequence : sequence (set ts k.field t) (after k m) ≡ members
    new_sequence = ap (λ u. members_in u m) here ∙ one_sequence t edited_lawful m members e.kept.shown

    within_cs : c < length cs
    within_cs = let is = e.was in grind (arith, get_or_past)

    alike : (i : ℕ) → i ≢ c → (o : Option (Collection V)) → at cs i ≡ o → represented_as (set ts k.field t) o ≡ represented_as ts o
    alike i n None is = refl
    alike i n (Some l) is = ap (λ (s : List Place). let r : Option Sequence = Some (seen_as l s) in r) (same_sequence i l n is)

    collections_after : map (represented_as (set ts k.field t)) (set cs c (Some (after k m))) ≡ set (map (represented_as ts) cs) c (Some (seen_as (after k m) members))
    collections_after =
        let old_seen = represented_as ts in
        let new_seen = represented_as (set ts k.field t) in
        let new_one : Option Sequence = Some (seen_as (after k m) members) in
        let others = set_map_same old_seen new_seen cs c new_one None (λ i n h. alike i n (at cs i) refl) in
        let this : new_seen (Some (after k m)) ≡ new_one = ap (λ (s : List Place). let r : Option Sequence = Some (seen_as (after k m) s) in r) new_sequence in
        map-set new_seen cs c (Some (after k m)) ∙ ap (set (map new_seen cs) c) this ∙ others

    -- the field of the edited collection keeps its kind, and its linked places are those of the new table
    field_after : {A : Type 0} (adapter : A) (linked : _) → linked_in t ≡ linked → field_in t ≡ record { kind = (field_of (family_of adapter objects ts cs) k.field).kind; linked = linked }
    field_after adapter linked is =
        let at_f : field_of (family_of adapter objects ts cs) k.field ≡ field_in (table ts k.field) = get_or-map field_in ts k.field no_table _ in_ts in
        let kinds : kind_of t ≡ (field_of (family_of adapter objects ts cs) k.field).kind = ap (λ x. kind_with x.identity) e.frame.extent ∙ ap (λ (x : LinkField). x.kind) (sym at_f) in
        λ i. record { kind = kinds i; linked = is i }

    -- THE FAMILY after an edit is the old family with the edited collection, and with the new linked places of its field
    pub edited_family : {A : Type 0} {adapter : A} → (linked : _) → linked_in t ≡ linked
        → family_of adapter objects (set ts k.field t) (set cs c (Some (after k m))) ≡ with_linked (with_collection (family_of adapter objects ts cs) c (Some (seen_as (after k m) members))) k.field linked
    edited_family {adapter = adapter} linked is =
        let fields = map-set field_in ts k.field t ∙ ap (set (map field_in ts) k.field) (field_after adapter linked is) in
        λ i. record { adapter = adapter; objects = (family_of adapter objects ts cs).objects; fields = fields i; collections = collections_after i }

    -- if an edit leaves the same places linked, the new family differs from the old one only in the edited collection
    pub unlinked_family : {A : Type 0} {adapter : A} → linked_in t ≡ linked_in (table ts k.field)
        → family_of adapter objects (set ts k.field t) (set cs c (Some (after k m))) ≡ with_collection (family_of adapter objects ts cs) c (Some (seen_as (after k m) members))
    unlinked_family {adapter = adapter} is =
        let kinds : kind_of t ≡ kind_of (table ts k.field) = ap (λ x. kind_with x.identity) e.frame.extent in
        let one : field_in t ≡ field_in (table ts k.field) = λ i. record { kind = kinds i; linked = is i } in
        let fields = map-set field_in ts k.field t ∙ ap (set (map field_in ts) k.field) one ∙ sym (map-set field_in ts k.field (table ts k.field)) ∙ ap (map field_in) (set-get_or ts k.field no_table) in
        λ i. record { adapter = adapter; objects = (family_of adapter objects ts cs).objects; fields = fields i; collections = collections_after i }

    -- a collection after an edit is the edited collection under the number c, or an old collection under another number
    pub at_after : (d : ℕ) (l : Collection V) → at (set cs c (Some (after k m))) d ≡ Some l → ((d ≡ c) × (l ≡ after k m)) ⊎ ((d ≢ c) × (at cs d ≡ Some l))
    at_after d l is =
        elim (cases_eq d c) [
          | inl same ↦
              let this = get_or-set_same cs c (Some (after k m)) None within_cs in
              let both : Some l ≡ Some (after k m) = sym is ∙ ap (at (set cs c (Some (after k m)))) same ∙ this in
              inl (same, cc)
          | inr other ↦ inr (other, sym (get_or-set_other cs c d (Some (after k m)) None other) ∙ is)
        ]

    -- THE INVARIANT of the world holds after an edit
    pub edited_whole : IsWhole objects room (set ts k.field t) (set cs c (Some (after k m)))
    edited_whole = record {
      in_bounds = whole.in_bounds;
      covered = λ f in_bounds.
          elim (cases_eq f k.field) [
            | inl same ↦ rw (same, here, e.frame.extent) (whole.covered k.field in_ts)
            | inr other ↦ rw (table_other ts k.field f t other) (whole.covered f (rw length-set at in_bounds))
          ];
      placed = λ f q h.
          elim (cases_eq f k.field) [
            | inl same ↦ e.placed q (rw (same, here) at h)
            | inr other ↦ whole.placed f q (rw (table_other ts k.field f t other) at h)
          ];
      in_field = λ d l is. rw length-set (elim (at_after d l is) [
        | inl same ↦ rw same.1 in_ts
        | inr other ↦ whole.in_field d l other.1
      ]);
      held = λ d l is. elim (at_after d l is) [
        | inl same ↦ rw (same.1) (rw new_sequence (rw here e.kept))
        | inr other ↦ rw (same_sequence d l other.0 other.1) (kept_beside d l other.0 other.1)
      ];
      apart = λ a b x y n is_x is_y same_field. elim (at_after a x is_x) [
        | inl a_c ↦ elim (at_after b y is_y) [
          | inl b_c ↦ absurd (n (a_c.0 ∙ sym b_c.0))
          | inr b_d ↦
              let field : y.field ≡ k.field = sym same_field ∙ ap (λ z. z.field) a_c.1 in
              rw (a_c.1, new_sequence, same_sequence b y b_d.0 b_d.1) (disjoint_sym _ _ (absent_swap _ touched (e.beside b y b_d.0 b_d.1 field) members e.adds_none))
        ]
        | inr a_d ↦ elim (at_after b y is_y) [
          | inl b_c ↦
              let field : x.field ≡ k.field = same_field ∙ ap (λ z. z.field) b_c.1 in
              rw (b_c.1, new_sequence, same_sequence a x a_d.0 a_d.1) (absent_swap _ touched (e.beside a x a_d.0 a_d.1 field) members e.adds_none)
          | inr b_d ↦ rw (same_sequence a x a_d.0 a_d.1, same_sequence b y b_d.0 b_d.1) (whole.apart a b x y n a_d.1 b_d.1 same_field)
        ]
      ];
    }
