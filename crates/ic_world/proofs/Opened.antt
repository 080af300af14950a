-- An empty collection is opened in a field.
use Rattle.std.proofs.Common.{◌≡◌, ℕ, zero, suc, ◌<◌, ◌⊎◌, inl, inr, true, List, [], ◌∷◌, ◌++◌, length, map, get_or, Option, Some, None, refl, sym, ap, ◌∙◌, subst, arith, Result, Ok, Err, ltb-true, Ordering, nat_cmp}
use Rattle.std.proofs.lemmas.List.{map-append, length-map}
use Rattle.std.specs.FinMap as map_of
use Rattle.std.specs.FinMap.{get-empty}
use Rattle.ic_link_ops.specs.Prelude.{Place, Objects, IsDisjoint, Table}
use Rattle.ic_any_collection.specs.declared.entry.Entry.{Entry}
use Rattle.ic_world.specs.declared.field.WorldField.{WorldField}
use Rattle.ic_any_collection.specs.declared.kind.Kind.{Kind}
use Rattle.ic_any_collection.specs.Kinds.{carries}
use Rattle.ic_any_collection.specs.Entries.{kind_of}
use Rattle.ic_world.specs.declared.collection.Collection.{Collection}
use Rattle.ic_any_collection.specs.declared.any_collection.AnyCollection.{AnyCollection}
use Rattle.ic_world.specs.declared.call.Refusal.{Refusal}
use Rattle.ic_world.specs.declared.call.Refusal.TheVariants.{NoSuchField, WrongKind, OutOfMemory}
use Rattle.ic_world.specs.Prelude.{Family, has_field, field_of, with_opened, table, table_of, field_in, sequence, seen_as, represented_as, at, family_of, IsWhole, opened, refused, asks, Step}
use Rattle.ic_world.specs.Pieces.{Appends}
use Rattle.ic_world.specs.declared.call.Command.TheVariants.{Open}
use Rattle.ic_any_collection.specs.AnyCollection.{Keeps, Held, kind_in, cursor_in}
use Rattle.ic_world.specs.Replies.{reply_of}
use Rattle.ic_world.specs.Several.{refusal_of_open}
use Rattle.ic_link_ops.proofs.SequenceLemmas.{disjoint_sym, some_same}
use Rattle.ic_any_collection.proofs.AllKinds.{one_sequence}
use Rattle.ic_world.proofs.Edits.{lawful}
use Rattle.ic_world.proofs.Readings.{field_at, table_read}
use Rattle.ic_world.proofs.Steps.{step_accepted, field_there, asks_none}

pub disjoint_none : (s : List Place) → IsDisjoint s []
disjoint_none [] = tt
disjoint_none (x ∷ s) = (tt, disjoint_none s)

pub get_pushed : {X : Type 0} (xs : List (Option X)) (x : Option X) (d : ℕ) (l : X) → get_or (xs ++ x ∷ []) d None ≡ Some l
    → (get_or xs d None ≡ Some l) ⊎ ((d ≡ length xs) × (x ≡ Some l))
get_pushed [] x zero l e = inr (refl, e)
get_pushed [] x (suc d) l e = absurd (cc)
get_pushed (y ∷ xs) x zero l e = inl e
get_pushed (y ∷ xs) x (suc d) l e =
    elim (get_pushed xs x d l e) [
      | inl h ↦ inl h
      | inr h ↦ inr (ap suc h.0, h.1)
    ]

-- A COLLECTION k IS ADDED. It shares no member with another collection of its field
module _ {V : Type 0} {objects : Objects V} {room : ℕ} {ts : List (Table Entry)} {cs : List (Option (Collection V))} (whole : IsWhole objects room ts cs)
    (k : Collection V) (in_bounds : k.field < length ts) (held : Held (table ts k.field) k.members)
    (apart : (d : ℕ) (l : Collection V) → at cs d ≡ Some l → l.field ≡ k.field → IsDisjoint (sequence ts l) (sequence ts k)) where
  pub appended_whole : IsWhole objects room ts (cs ++ Some k ∷ [])
  appended_whole = record {
    in_bounds = whole.in_bounds;
    covered = whole.covered;
    placed = whole.placed;
    in_field = λ c l is. elim (get_pushed cs _ c l is) [
      | inl h ↦ whole.in_field c l h
      | inr h ↦ let e : k ≡ l = some_same h.1 in rw (← e) in_bounds
    ];
    held = λ c l is. elim (get_pushed cs _ c l is) [
      | inl h ↦ whole.held c l h
      | inr h ↦ subst (λ x. Held (table ts x.field) x.members) (some_same h.1) held
    ];
    apart = λ a b x y n is_x is_y same. elim (get_pushed cs _ a x is_x) [
      | inl h ↦ elim (get_pushed cs _ b y is_y) [
        | inl i ↦ whole.apart a b x y n h i same
        | inr i ↦ subst (λ z. IsDisjoint (sequence ts x) (sequence ts z)) (some_same i.1) (apart a x h (same ∙ ap (λ z. z.field) (sym (some_same i.1))))
      ]
      | inr h ↦ elim (get_pushed cs _ b y is_y) [
        | inl i ↦ disjoint_sym _ _ (subst (λ z. IsDisjoint (sequence ts y) (sequence ts z)) (some_same h.1) (apart b y i (sym same ∙ ap (λ z. z.field) (sym (some_same h.1)))))
        | inr i ↦ absurd (n (h.0 ∙ sym i.0))
      ]
    ];
  }

  pub appended_family : {A : Type 0} {adapter : A} → family_of adapter objects ts (cs ++ Some k ∷ []) ≡ with_opened (family_of adapter objects ts cs) (seen_as k (sequence ts k))
  appended_family {adapter = adapter} = λ i. record { adapter = adapter; objects = objects.values; fields = (family_of adapter objects ts cs).fields; collections = map-append (represented_as ts) cs (Some k ∷ []) i }

-- the tests of `open` for an existing field depend only on the kind of the table that the call has read
pub open_tests : {A V M : Type 0} (adapter : A) (objects : Objects V) (tables : List (WorldField M)) (cs : List (Option (Collection V))) {old : Family A V} → family_of adapter objects (map table_of tables) cs ≡ old → (f : ℕ) (kind : Kind) (t : WorldField M)
    → f < length tables → t ≡ get_or tables f t → refusal_of_open old f kind ≡ asks (carries (kind_of (table_of t)) kind) WrongKind None
open_tests adapter objects tables cs view f kind t in_bounds read =
    rw (← view) (field_there (family_of adapter objects (map table_of tables) cs) f _ (rw (length-map, length-map) in_bounds)
    ∙ ap (λ x. asks (carries x.kind kind) WrongKind None) (field_at adapter objects (map table_of tables) cs f (rw length-map in_bounds) ∙ ap field_in (table_read tables f t in_bounds read)))

-- a list or tree m of the given kind is new: it is empty in each table that can serve its kind, and its cursor is at null
abbrev New : {V : Type 0} → Kind → AnyCollection V → Type 0
New of_kind m = record {
  kind : kind_in m ≡ of_kind;
  null : cursor_in m ≡ None;
  kept : (t : Table Entry) → carries (kind_of t) of_kind ≡ true → Keeps t m [];
}

-- AN OPENING that no test refuses. `cmp` is the order of the keys, and `key_of` computes the key of a value
module _ {A V K : Type 0} (cmp : K → K → Ordering) (key_of : A → V → K) {adapter : A} {objects : Objects V} {room : ℕ} {ts : List (Table Entry)} {cs : List (Option (Collection V))}
    (whole : IsWhole objects room ts cs) {old : Family A V} (view : family_of adapter objects ts cs ≡ old) (f : ℕ) (kind : Kind) (none : refusal_of_open old f kind ≡ None)
    (m : AnyCollection V) (new : New kind m) where
  abbrev fresh : Collection V
  fresh = record { field = f; members = m }

  tests : (has_field (family_of adapter objects ts cs) f ≡ true) × (asks (carries (field_of (family_of adapter objects ts cs) f).kind kind) WrongKind None ≡ None)
  tests = asks_none (has_field (family_of adapter objects ts cs) f) NoSuchField _ (rw (← view) at none)

  in_bounds : f < length ts
  in_bounds = rw length-map at (ltb-true f (length (map field_in ts)) tests.0)

  keeps : Keeps (table ts f) m []
  keeps = new.kept (table ts f) (ap (λ x. carries x.kind kind) (sym (field_at adapter objects ts cs f in_bounds)) ∙ (asks_none (carries (field_of (family_of adapter objects ts cs) f).kind kind) WrongKind None tests.1).0)

  no_members : sequence ts fresh ≡ []
  no_members = one_sequence (table ts f) (lawful whole f) m [] keeps.shown

  pub opened_by : (r : Result ℕ Refusal) (news : List (Option (Collection V))) → Appends cs (Some fresh) r news
      → IsWhole objects room ts news × Step cmp key_of old (Open f kind) (reply_of (λ c. opened c) r) (family_of adapter objects ts news)
  opened_by (Ok n) news e =
      let last : represented_as ts (Some fresh) ≡ Some (record { field = f; kind = kind; members = []; cursor = None }) = λ i. Some (record { field = f; kind = new.kind i; members = no_members i; cursor = new.null i }) in
      let all = map-append (represented_as ts) cs (Some fresh ∷ []) ∙ ap (λ x. map (represented_as ts) cs ++ x ∷ []) last in
      rw e.1 (
        appended_whole whole fresh in_bounds (subst (Keeps (table ts f) m) (sym no_members) keeps) (λ d l is same. subst (IsDisjoint (sequence ts l)) (sym no_members) (disjoint_none (sequence ts l))),
        step_accepted cmp key_of old (Open f kind) (opened n) _ none (rw (← view) (rw length-map e.0, λ i. record { adapter = adapter; objects = objects.values; fields = map field_in ts; collections = all i })),
      )
  opened_by (Err r) news e = rw (e.0, e.1) (whole, step_accepted cmp key_of old (Open f kind) (refused OutOfMemory) _ none view)

-- THE INVARIANT HOLDS OF A NEW WORLD, which has no object, field or collection
pub empty_whole : {V : Type 0} (objects : Objects V) → objects.values ≡ map_of.empty → IsWhole objects 0 [] []
empty_whole objects none = record {
  in_bounds = λ i has. let lacks : map_of.get objects.values i ≡ None = ap (λ m. map_of.get m i) none ∙ get-empty nat_cmp i in let h = rw lacks at has in cc;
  covered = λ f h. absurd (omega (arith, h));
  placed = λ f q h. cc;
  in_field = λ c k is. cc;
  held = λ c k is. cc;
  apart = λ a b x y n is_x is_y same. cc;
}
