-- Collections by number and by field: what stays true of their slots and lists if one collection changes.
use Rattle.std.proofs.Common.{◌≡◌, ◌≢◌, ℕ, zero, suc, ◌<◌, ◌≤◌, inl, inr, List, [], ◌∷◌, ◌++◌, length, map, set, get_or, Option, Some, None, refl, sym, ap, ◌∙◌, subst, arith, IsSome, slice_get, Vec}
use Rattle.std.proofs.lemmas.Bool.{cases_eq}
use Rattle.std.proofs.lemmas.List.{length-map, length-set, map-set, get_or-set_same, get_or-set_other, get_or-map, ext_get_or}
use Rattle.std.proofs.lemmas.Option.{slice_get_within, get_or_from_slice_get, same_Some}
use Rattle.ic_any_collection.specs.declared.any_collection.AnyCollection.{AnyCollection}
use Rattle.ic_world.specs.declared.collection.Collection.{Collection}
use Rattle.ic_world.specs.declared.collections_by_number.Slot.{Slot}
use Rattle.ic_world.specs.declared.collections_by_number.Numbered.{Numbered}
use Rattle.ic_world.specs.Prelude.{at, items_of, live_in, disposed, lying, in_field, in_slot, by_number, AreNumbered}
use Rattle.ic_world.specs.Collections.{having, with_members}

-- which item a list has at an index, after an item was written at some index or appended
pub get_written : {X : Type 0} (xs : List X) (i : ℕ) (x : X) → i < length xs → slice_get (set xs i x) i ≡ Some x
get_written [] i x h = absurd (omega (arith, h))
get_written (y ∷ xs) zero x h = refl
get_written (y ∷ xs) (suc i) x h = get_written xs i x (omega (arith, h))

pub get_other : {X : Type 0} (xs : List X) (i j : ℕ) (x : X) → j ≢ i → slice_get (set xs i x) j ≡ slice_get xs j
get_other [] i j x d = refl
get_other (y ∷ xs) zero zero x d = absurd (d refl)
get_other (y ∷ xs) zero (suc j) x d = refl
get_other (y ∷ xs) (suc i) zero x d = refl
get_other (y ∷ xs) (suc i) (suc j) x d = get_other xs i j x (λ e. d (ap suc e))

pub get_front : {X : Type 0} (xs : List X) (y : X) (i : ℕ) → i ≢ length xs → slice_get (xs ++ y ∷ []) i ≡ slice_get xs i
get_front [] y zero d = absurd (d refl)
get_front [] y (suc i) d = refl
get_front (x ∷ xs) y zero d = refl
get_front (x ∷ xs) y (suc i) d = get_front xs y i (λ e. d (ap suc e))

pub get_last : {X : Type 0} (xs : List X) (y : X) → slice_get (xs ++ y ∷ []) (length xs) ≡ Some y
get_last [] y = refl
get_last (x ∷ xs) y = get_last xs y

pub set_past : {X : Type 0} (xs : List X) (i : ℕ) (x : X) → length xs ≤ i → set xs i x ≡ xs
set_past [] i x h = refl
set_past (y ∷ xs) zero x h = absurd (omega (arith, h))
set_past (y ∷ xs) (suc i) x h = ap (λ zs. y ∷ zs) (set_past xs i x (omega (arith, h)))

none_is_some : {X : Type 0} {o : Option X} → o ≡ None → IsSome o → ⊥
none_is_some e there = let no = subst IsSome e there in cc

pub some_not_none : {X : Type 0} {o : Option X} {x : X} → o ≡ Some x → o ≡ None → ⊥
some_not_none e h = cc

-- a list of the live collections for each field, by the number of the field
abbrev pub Lists : Type 0 → Type 0
Lists V = List (List (Numbered V))

module _ {V : Type 0} where
  abbrev pub shown : Lists V → Option Slot → Option (Collection V)
  shown ls None = None
  shown ls (Some s) = in_slot ls s

  at_number : (ls : Lists V) (ns : List Slot) (c : ℕ) → at (by_number ls ns) c ≡ shown ls (slice_get ns c)
  at_number ls [] c = refl
  at_number ls (s ∷ ns) zero = refl
  at_number ls (s ∷ ns) (suc c) = at_number ls ns c

  -- let the new slot of c lead to x, and let the slot of each other number lead to the same collection as before. Then the collections by number have
  -- changed only at c, to x
  pub shows : (ls new : Lists V) (ns after : List Slot) (c : ℕ) (x : Option (Collection V)) → length after ≡ length ns
      → ((d : ℕ) → d ≢ c → shown new (slice_get after d) ≡ shown ls (slice_get ns d)) → shown new (slice_get after c) ≡ x → by_number new after ≡ set (by_number ls ns) c x
  shows ls new ns after c x count others here =
      let long : length (by_number new after) ≡ length (set (by_number ls ns) c x) = length-map after (in_slot new) ∙ count ∙ sym (length-set (by_number ls ns) c x ∙ length-map ns (in_slot ls)) in
      ext_get_or None _ _ long (λ d in_bounds. at_number new after d ∙ elim (cases_eq d c) [
        | inl same ↦
            let low : c < length (by_number ls ns) = omega (arith, in_bounds, same, count, length-map after (in_slot new), length-map ns (in_slot ls)) in
            ap (λ i. shown new (slice_get after i)) same ∙ here ∙ sym (ap (at (set (by_number ls ns) c x)) same ∙ get_or-set_same (by_number ls ns) c x None low)
        | inr other ↦ others d other ∙ sym (get_or-set_other (by_number ls ns) c d x None other ∙ at_number ls ns d)
      ])

  module _ {ls : Lists V} {ns : List Slot} (are : AreNumbered ls ns) where
    -- a collection to which the slot of the number c leads has the number c
    pub number_is : (c : ℕ) (s : Slot) (n : Numbered V) → slice_get ns c ≡ Some s → lying ls s.field s.index ≡ Some n → n.number ≡ c
    number_is c s n is lies =
        let m = are.kept c s is (λ e. let low = are.before s.field s.index n lies in omega (arith, low, e)) in
        ap (λ (x : Numbered V). x.number) (same_Some _ _ (sym lies ∙ m.1))

    -- if a slot leads to a live collection, no two numbers have this slot
    pub number_apart : (c d : ℕ) (s t : Slot) (n : Numbered V) → slice_get ns c ≡ Some s → slice_get ns d ≡ Some t → lying ls s.field s.index ≡ Some n → t.field ≡ s.field → t.index ≡ s.index → d ≡ c
    number_apart c d s t n is_s is_t lies f i =
        sym (number_is d t n is_t (ap (λ x. lying ls x t.index) f ∙ ap (lying ls s.field) i ∙ lies)) ∙ number_is c s n is_s lies

  -- the collection n was written at the index i in the list of the field f. `written_here` says what this index has then, and `written_apart` what
  -- any other index has
  written_here : (ls : Lists V) (f i : ℕ) (n : Numbered V) → f < length ls → i < length (live_in ls f) → lying (set ls f (set (live_in ls f) i n)) f i ≡ Some n
  written_here ls f i n in_ls in_f =
      ap (λ xs. slice_get xs i) (get_or-set_same ls f (set (live_in ls f) i n) [] in_ls) ∙ get_written (live_in ls f) i n in_f

  written_apart : (ls : Lists V) (f i : ℕ) (n : Numbered V) (g j : ℕ) → f < length ls → (g ≡ f → j ≡ i → ⊥) → lying (set ls f (set (live_in ls f) i n)) g j ≡ lying ls g j
  written_apart ls f i n g j in_ls apart = elim (cases_eq g f) [
    | inl same ↦
        ap (λ h. lying (set ls f (set (live_in ls f) i n)) h j) same ∙ ap (λ xs. slice_get xs j) (get_or-set_same ls f (set (live_in ls f) i n) [] in_ls)
        ∙ get_other (live_in ls f) i j n (apart same) ∙ sym (ap (λ h. lying ls h j) same)
    | inr other ↦ ap (λ xs. slice_get xs j) (get_or-set_other ls f g (set (live_in ls f) i n) [] other)
  ]

  pub field_within : (ls : Lists V) (f i : ℕ) (n : Numbered V) → lying ls f i ≡ Some n → f < length ls
  field_within [] f i n e = absurd (some_not_none e refl)
  field_within (l ∷ ls) zero i n e = omega arith
  field_within (l ∷ ls) (suc f) i n e = let low = field_within ls f i n e in omega (arith, low)

  -- THE LIST OR TREE OF ONE COLLECTION IS REPLACED by m, at the same index of the same field
  module _ {ls : Lists V} {ns : List Slot} (are : AreNumbered ls ns) (c : ℕ) (s : Slot) (is : slice_get ns c ≡ Some s) (n : Numbered V) (lies : lying ls s.field s.index ≡ Some n) (m : AnyCollection V) where
    abbrev f : ℕ
    f = s.field

    abbrev i : ℕ
    i = s.index

    abbrev one : Numbered V
    one = record { number = n.number; members = m }

    abbrev new : Lists V
    new = set ls f (set (live_in ls f) i one)

    in_ls : f < length ls
    in_ls = field_within ls f i n lies

    in_f : i < length (live_in ls f)
    in_f = slice_get_within (live_in ls f) i n lies

    here : lying new f i ≡ Some one
    here = written_here ls f i one in_ls in_f

    apart : (g j : ℕ) → (g ≡ f → j ≡ i → ⊥) → lying new g j ≡ lying ls g j
    apart g j differ = written_apart ls f i one g j in_ls differ

    -- each item has the number of the item that was at the same index before. Only its members may differ
    was : (g j : ℕ) (x : Numbered V) → lying new g j ≡ Some x → (y : Numbered V) × (lying ls g j ≡ Some y) × (y.number ≡ x.number)
    was g j x e = elim (cases_eq g f) [
      | inr other ↦ (x, sym (apart g j (λ same _. other same)) ∙ e, refl)
      | inl same ↦ elim (cases_eq j i) [
        | inr other ↦ (x, sym (apart g j (λ _ same. other same)) ∙ e, refl)
        | inl at_i ↦ (
          n,
          ap (λ h. lying ls h j) same ∙ ap (lying ls f) at_i ∙ lies,
          ap (λ (y : Numbered V). y.number) (same_Some _ _ (sym here ∙ sym (ap (λ h. lying new h j) same ∙ ap (lying new f) at_i) ∙ e)),
        )
      ]
    ]

    pub numbered_with : AreNumbered new ns
    numbered_with = record {
      found = λ g j x e. let y = was g j x e in ap (slice_get ns) (sym y.2) ∙ are.found g j y.0 y.1;
      before = λ g j x e. are.before g j (was g j x e).0 (was g j x e).1;
      kept = λ d t e live. let y = are.kept d t e live in elim (cases_eq t.field f) [
        | inr other ↦ (y.0, apart t.field t.index (λ same _. other same) ∙ y.1)
        | inl same ↦ elim (cases_eq t.index i) [
          | inr other ↦ (y.0, apart t.field t.index (λ _ same. other same) ∙ y.1)
          | inl at_i ↦
              let this = number_apart are c d s t n is e lies same at_i in
              let number = number_is are c s n is lies in
              (m, ap (λ h. lying new h t.index) same ∙ ap (lying new f) at_i ∙ here ∙ ap (λ (k : ℕ). Some (record { number = k; members = m })) (number ∙ sym this))
        ]
      ];
    }

    pub represented_with : {cs : List (Option (Collection V))} → by_number ls ns ≡ cs → by_number new ns ≡ with_members cs c m
    represented_with {cs} view = subst (λ x. by_number new ns ≡ with_members x c m) view
        (shows ls new ns ns c _ refl others (ap (shown new) is ∙ ap (in_field f) here ∙ sym (ap (having m) (at_number ls ns c ∙ ap (shown ls) is ∙ ap (in_field f) lies))))
      where
        others : (d : ℕ) → d ≢ c → shown new (slice_get ns d) ≡ shown ls (slice_get ns d)
        others d other = by (slice_get ns d) refl
          where
            by : (o : Option Slot) → slice_get ns d ≡ o → shown new o ≡ shown ls o
            by None e = refl
            by (Some t) e = ap (in_field t.field) (apart t.field t.index (λ same at_i. other (number_apart are c d s t n is e lies same at_i)))

-- WHAT A CALL READS under the number c of a collection: the slot s of the number, and the collection to which the slot leads
pub record Reads {V : Type 0} (ls : Lists V) (ns : List Slot) (c : ℕ) (s : Slot) : Type 0 where
  pub slot : slice_get ns c ≡ Some s
  pub one : Numbered V
  pub lies : lying ls s.field s.index ≡ Some one

module _ {V : Type 0} {cs : List (Option (Collection V))} (ls : Lists V) (ns : List Slot) (c : ℕ) (s : Slot) (view : by_number ls ns ≡ cs) where
  pub represented_is : at cs c ≡ shown ls (slice_get ns c)
  represented_is = ap (λ x. at x c) (sym view) ∙ at_number ls ns c

  pub reads : IsSome (at cs c) → s ≡ get_or ns c s → Reads ls ns c s
  reads there read = by (slice_get ns c) refl
    where
      lies_there : (t : Slot) → slice_get ns c ≡ Some t → (o : Option (Numbered V)) → lying ls t.field t.index ≡ o → Reads ls ns c t
      lies_there t e (Some n) lies = record { slot = e; one = n; lies = lies }
      lies_there t e None lies = absurd (none_is_some (represented_is ∙ ap (shown ls) e ∙ ap (in_field t.field) lies) there)

      by : (o : Option Slot) → slice_get ns c ≡ o → Reads ls ns c s
      by None e = absurd (none_is_some (represented_is ∙ ap (shown ls) e) there)
      by (Some t) e = subst (Reads ls ns c) (sym (read ∙ get_or_from_slice_get ns c t s e)) (lies_there t e (lying ls t.field t.index) refl)

  pub one_represented : (r : Reads ls ns c s) → at cs c ≡ Some (record { field = s.field; members = r.one.members })
  one_represented r = represented_is ∙ ap (shown ls) r.slot ∙ ap (in_field s.field) r.lies

pub reads_live : {V : Type 0} {ls : Lists V} {ns : List Slot} → AreNumbered ls ns → (c : ℕ) (s : Slot) → slice_get ns c ≡ Some s → s.index ≢ disposed → Reads ls ns c s
reads_live are c s is live = let y = are.kept c s is live in record { slot = is; one = record { number = c; members = y.0 }; lies = y.1 }

-- a call that reads the lists finds the list of the slot's field, and in it the collection at the slot's index
module _ {V M : Type 0} (lists : List (Vec (Numbered V) M)) (ns : List Slot) (c : ℕ) (s : Slot) (r : Reads (map items_of lists) ns c s) where
  pub field_there : s.field < length lists
  field_there = rw (length-map lists (items_of {V = V} {M = M})) at (field_within (map items_of lists) s.field s.index r.one r.lies)

  module _ (list : Vec (Numbered V) M) (read : list ≡ get_or lists s.field list) where
    pub list_is : live_in (map items_of lists) s.field ≡ list.items
    list_is = get_or-map items_of lists s.field list [] field_there ∙ ap (λ (v : Vec (Numbered V) M). v.items) (sym read)

    pub index_there : s.index < length list.items
    index_there = slice_get_within list.items s.index r.one (ap (λ xs. slice_get xs s.index) (sym list_is) ∙ r.lies)

    pub one_is : (x : Numbered V) → x ≡ get_or list.items s.index x → x ≡ r.one
    one_is x at_index = at_index ∙ get_or_from_slice_get list.items s.index r.one x (ap (λ xs. slice_get xs s.index) (sym list_is) ∙ r.lies)

    -- THE LIST OR TREE of the found collection is replaced by m, and the list of the field is written back
    module _ (x : Numbered V) (at_index : x ≡ get_or list.items s.index x) (m : AnyCollection V) (v : Vec (Numbered V) M) (set_in : v.items ≡ set list.items s.index (record { number = x.number; members = m })) where
      abbrev other : Numbered V
      other = record { number = r.one.number; members = m }

      stored : map items_of (set lists s.field v) ≡ set (map items_of lists) s.field (set (live_in (map items_of lists) s.field) s.index other)
      stored =
          map-set items_of lists s.field v ∙ ap (set (map items_of lists) s.field) (set_in
          ∙ ap (λ (y : Numbered V). set list.items s.index (record { number = y.number; members = m })) (one_is x at_index) ∙ ap (λ xs. set xs s.index other) (sym list_is))

      pub lent_numbered : AreNumbered (map items_of lists) ns → AreNumbered (map items_of (set lists s.field v)) ns
      lent_numbered are = subst (λ ls. AreNumbered ls ns) (sym stored) (numbered_with are c s r.slot r.one r.lies m)

      pub lent_represented : AreNumbered (map items_of lists) ns → {cs : List (Option (Collection V))} → by_number (map items_of lists) ns ≡ cs → by_number (map items_of (set lists s.field v)) ns ≡ with_members cs c m
      lent_represented are {cs} view = ap (λ ls. by_number ls ns) stored ∙ represented_with are c s r.slot r.one r.lies m view
