-- A field gets one more collection, under the next number.
use Rattle.std.proofs.Common.{◌≡◌, ◌≢◌, ℕ, zero, suc, ◌<◌, inl, inr, List, [], ◌∷◌, ◌++◌, length, map, set, get_or, Some, None, refl, sym, ap, ◌∙◌, subst, arith, slice_get, true, false, Result, Ok, Err, OnOk, is_ok, is_err, if◌then◌else◌, Vec}
use Rattle.std.proofs.lemmas.Bool.{cases_eq}
use Rattle.std.proofs.lemmas.List.{length-map, map-append, map-set, get_or-map, get_or-set_same, get_or-set_other}
use Rattle.std.proofs.lemmas.Option.{slice_get_within, slice_get_past, same_Some}
use Rattle.ic_any_collection.specs.declared.any_collection.AnyCollection.{AnyCollection}
use Rattle.ic_world.specs.declared.collections_by_number.Slot.{Slot}
use Rattle.ic_world.specs.declared.collections_by_number.Numbered.{Numbered}
use Rattle.ic_world.specs.ByNumber.{items_of, live_in, disposed, lying, in_field, in_slot, by_number, AreNumbered, HaveLists, IsEntered}
use Rattle.ic_world.proofs.ByNumber.{Lists, get_front, get_last, some_not_none}

-- if an empty list is appended to the lists, each field has the same collections as before
empty_more : {V : Type 0} (ls : Lists V) (l : List (Numbered V)) → l ≡ [] → HaveLists ls (ls ++ l ∷ [])
empty_more [] l e zero = e
empty_more [] l e (suc g) = refl
empty_more (x ∷ ls) l e zero = refl
empty_more (x ∷ ls) l e (suc g) = empty_more ls l e g

module _ {V : Type 0} where
  -- LISTS WITH THE SAME COLLECTIONS in each field represent the same collections by number
  module _ (ls new : Lists V) (same : HaveLists ls new) where
    lying_same : (g j : ℕ) → lying new g j ≡ lying ls g j
    lying_same g j = ap (λ xs. slice_get xs j) (same g)

    pub numbered_same : {ns : List Slot} → AreNumbered ls ns → AreNumbered new ns
    numbered_same are = record {
      found = λ g j x e. are.found g j x (sym (lying_same g j) ∙ e);
      before = λ g j x e. are.before g j x (sym (lying_same g j) ∙ e);
      kept = λ c s e live. let y = are.kept c s e live in (y.0, lying_same s.field s.index ∙ y.1);
    }

    pub represented_same : (ns : List Slot) → by_number new ns ≡ by_number ls ns
    represented_same [] = refl
    represented_same (s ∷ ns) = λ i. in_field s.field (lying_same s.field s.index i) ∷ represented_same ns i

  -- ONE MORE COLLECTION n IS IN THE FIELD f, in the slot s, under the next number
  module _ {ls new : Lists V} {ns : List Slot} (are : AreNumbered ls ns) (f : ℕ) (n : Numbered V) (s : Slot) (entered : IsEntered ls f n s new) (next : n.number ≡ length ns) where
    before_last : (g j : ℕ) → (g ≡ f → j ≡ s.index → ⊥) → lying new g j ≡ lying ls g j
    before_last g j differ = elim (cases_eq g f) [
      | inl same ↦
          ap (λ h. lying new h j) same ∙ ap (λ xs. slice_get xs j) entered.more ∙ get_front (live_in ls f) n j (λ e. differ same (e ∙ sym entered.index)) ∙ sym (ap (λ h. lying ls h j) same)
      | inr other ↦ ap (λ xs. slice_get xs j) (entered.others g other)
    ]

    last : lying new f s.index ≡ Some n
    last = ap (lying new f) entered.index ∙ ap (λ xs. slice_get xs (length (live_in ls f))) entered.more ∙ get_last (live_in ls f) n

    nothing_there : lying ls f s.index ≡ None
    nothing_there = slice_get_past (live_in ls f) s.index (omega (arith, entered.index))

    slot_before : (c : ℕ) (t : Slot) → slice_get ns c ≡ Some t → slice_get (ns ++ s ∷ []) c ≡ Some t
    slot_before c t e = get_front ns s c (let low = slice_get_within ns c t e in λ is. omega (arith, low, is)) ∙ e

    -- no earlier number has the slot of the new collection
    free : (c : ℕ) (t : Slot) → slice_get ns c ≡ Some t → t.field ≡ f → t.index ≡ s.index → ⊥
    free c t e same at_index =
        let y = are.kept c t e (λ past. omega (arith, past, at_index, entered.before)) in
        some_not_none y.1 (ap (λ h. lying ls h t.index) same ∙ ap (lying ls f) at_index ∙ nothing_there)

    slot_is : s ≡ record { field = f; index = s.index }
    slot_is = λ i. record { field = entered.field i; index = s.index }

    pub numbered_more : AreNumbered new (ns ++ s ∷ [])
    numbered_more = record { found = found; before = before; kept = kept }
      where
        this : (g j : ℕ) (x : Numbered V) → g ≡ f → j ≡ s.index → lying new g j ≡ Some x → x ≡ n
        this g j x same at_index e = same_Some _ _ (sym e ∙ ap (λ h. lying new h j) same ∙ ap (lying new f) at_index ∙ last)

        found : (g j : ℕ) (x : Numbered V) → lying new g j ≡ Some x → slice_get (ns ++ s ∷ []) x.number ≡ Some (record { field = g; index = j })
        found g j x e = elim (cases_eq g f) [
          | inr other ↦ slot_before x.number _ (are.found g j x (sym (before_last g j (λ same _. other same)) ∙ e))
          | inl same ↦ elim (cases_eq j s.index) [
            | inr other ↦ slot_before x.number _ (are.found g j x (sym (before_last g j (λ _ at_index. other at_index)) ∙ e))
            | inl at_index ↦
                ap (λ (y : Numbered V). slice_get (ns ++ s ∷ []) y.number) (this g j x same at_index e) ∙ ap (slice_get (ns ++ s ∷ [])) next ∙ get_last ns s
                ∙ (λ i. Some (record { field = (entered.field ∙ sym same) i; index = sym at_index i }))
          ]
        ]

        before : (g j : ℕ) (x : Numbered V) → lying new g j ≡ Some x → j < disposed
        before g j x e = elim (cases_eq j s.index) [
          | inl at_index ↦ omega (arith, at_index, entered.before)
          | inr other ↦ are.before g j x (sym (before_last g j (λ _ at_index. other at_index)) ∙ e)
        ]

        kept : (c : ℕ) (t : Slot) → slice_get (ns ++ s ∷ []) c ≡ Some t → t.index ≢ disposed → (m : AnyCollection V) × (lying new t.field t.index ≡ Some (record { number = c; members = m }))
        kept c t e live = elim (cases_eq c (length ns)) [
          | inl at_end ↦
              let is : s ≡ t = same_Some _ _ (sym (get_last ns s) ∙ ap (slice_get (ns ++ s ∷ [])) (sym at_end) ∙ e) in
              let number : n ≡ record { number = c; members = n.members } = λ i. record { number = (next ∙ sym at_end) i; members = n.members } in
              (n.members, subst (λ (u : Slot). lying new u.field u.index ≡ Some (record { number = c; members = n.members })) is (ap (λ h. lying new h s.index) entered.field ∙ last ∙ ap Some number))
          | inr other ↦
              let is : slice_get ns c ≡ Some t = sym (get_front ns s c other) ∙ e in
              let y = are.kept c t is live in (y.0, before_last t.field t.index (free c t is) ∙ y.1)
        ]

    pub represented_more : by_number new (ns ++ s ∷ []) ≡ by_number ls ns ++ Some (record { field = f; members = n.members }) ∷ []
    represented_more =
        map-append (in_slot new) ns (s ∷ []) ∙ (λ i. same ns (λ c t e. (c, e)) i ++ in_field (entered.field i) ((ap (λ h. lying new h s.index) entered.field ∙ last) i) ∷ [])
      where
        same : (part : List Slot) → ((c : ℕ) (t : Slot) → slice_get part c ≡ Some t → (d : ℕ) × (slice_get ns d ≡ Some t)) → by_number new part ≡ by_number ls part
        same [] in_bounds = refl
        same (t ∷ part) in_bounds =
            let there = in_bounds zero t refl in
            λ i. in_field t.field (before_last t.field t.index (free there.0 t there.1) i) ∷ same part (λ c u e. in_bounds (suc c) u e) i

-- THE LISTS AS A CALL WRITES THEM: the call reads the list of the field f, and writes it back
module _ {V M : Type 0} (old lists : List (Vec (Numbered V) M)) (same : HaveLists (map items_of old) (map items_of lists)) (f : ℕ) (in_bounds : f < length lists) (list : Vec (Numbered V) M) (read : list ≡ get_or lists f list) (v : Vec (Numbered V) M) where
  here : live_in (map items_of (set lists f v)) f ≡ v.items
  here = ap (λ ls. live_in ls f) (map-set items_of lists f v) ∙ get_or-set_same (map items_of lists) f v.items [] (rw length-map in_bounds)

  elsewhere : (g : ℕ) → g ≢ f → live_in (map items_of (set lists f v)) g ≡ live_in (map items_of old) g
  elsewhere g other = ap (λ ls. live_in ls g) (map-set items_of lists f v) ∙ get_or-set_other (map items_of lists) f g v.items [] other ∙ same g

  was : live_in (map items_of old) f ≡ list.items
  was = sym (same f) ∙ get_or-map items_of lists f list [] in_bounds ∙ ap (λ (x : Vec (Numbered V) M). x.items) (sym read)

  pub lists_kept : v.items ≡ list.items → HaveLists (map items_of old) (map items_of (set lists f v))
  lists_kept back g = elim (cases_eq g f) [
    | inl this ↦ ap (live_in (map items_of (set lists f v))) this ∙ here ∙ back ∙ sym was ∙ ap (live_in (map items_of old)) (sym this)
    | inr other ↦ elsewhere g other
  ]

  pub entered_by : (n : Numbered V) → v.items ≡ list.items ++ n ∷ [] → (s : Slot) → s.field ≡ f → s.index ≡ length list.items → s.index < disposed → IsEntered (map items_of old) f n s (map items_of (set lists f v))
  entered_by n more s field index before = record {
    field = field;
    index = index ∙ ap length (sym was);
    before = before;
    more = here ∙ more ∙ ap (λ xs. xs ++ n ∷ []) (sym was);
    others = elsewhere;
  }

-- a push that succeeded has appended the item x (`pushed`), and a push that failed has left the list as it was (`not_pushed`)
pub pushed : {X U E : Type 0} (result : Result U E) → false ≡ is_err result → (old : List X) (x : X) {new : List X} → new ≡ (if is_ok result then old ++ x ∷ [] else old) → new ≡ old ++ x ∷ []
pushed (Ok u) e old x items = items
pushed (Err u) e old x items = absurd cc

pub not_pushed : {X U E : Type 0} (result : Result U E) → true ≡ is_err result → (old : List X) (x : X) {new : List X} → new ≡ (if is_ok result then old ++ x ∷ [] else old) → new ≡ old
not_pushed (Ok u) e old x items = absurd cc
not_pushed (Err u) e old x items = items

pub not_refused : {A E P : Type 0} (r : Result A E) → false ≡ is_err r → OnOk r P → P
not_refused (Ok a) e h = h
not_refused (Err x) e h = absurd cc

-- if an empty list is appended to the lists of a call, each field has the same collections as before
pub lists_more : {V M : Type 0} (old lists : List (Vec (Numbered V) M)) (v : Vec (Numbered V) M) → v.items ≡ [] → HaveLists (map items_of old) (map items_of lists) → (new : List (Vec (Numbered V) M)) → new ≡ lists ++ v ∷ []
    → HaveLists (map items_of old) (map items_of new)
lists_more old lists v none same new more g =
    ap (λ xs. live_in (map items_of xs) g) more ∙ ap (λ ls. live_in ls g) (map-append items_of lists (v ∷ [])) ∙ empty_more (map items_of lists) v.items none g ∙ same g
