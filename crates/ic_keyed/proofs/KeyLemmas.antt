-- Lemmas about a list of values with unique keys: about the value with a key, and about the other values.
use Rattle.std.proofs.Common.{◌≡◌, ℕ, ◌+◌, ◌-◌, ◌≤◌, Bool, true, false, not, cond, MatchOption, Option, None, Some, IsSome, is_some, List, [], ◌∷◌, ◌++◌, length, filter, refl, sym, ap, ◌∙◌, subst, arith, append-nil, eq-eqb, length-append, ne_eqb, true≢false}
use Rattle.std.proofs.lemmas.Bool.{eqb-false}
use Rattle.std.proofs.lemmas.Bool.Decides.{nat_tests}
use Rattle.std.proofs.lemmas.Option.{same_Some}
use Rattle.std.proofs.lemmas.List.Elements.{filter-append}
use Rattle.std.proofs.lemmas.List.Folds.{find-append}
use Rattle.std.specs.Option.{option_or}
use Rattle.ic_link_ops.specs.Prelude.{Place, Objects, object_there}
use Rattle.ic_link_ops.proofs.Prelude.{all_back, all_both, all_front, all_map, all_without, none_not}
use Rattle.ic_link_ops.proofs.PlacedValues.{from_each}
use Rattle.ic_rbtree.proofs.KeyLaws.{filter_front, filter_pass}
use Rattle.ic_container.specs.Orders.{IsWhole}
use Rattle.ic_container.specs.Trees.{IsFound}
use Rattle.ic_container.specs.Values.{first_value, last_value, Without}
use Rattle.ic_container.proofs.ListedLemmas.{whole_value}
use Rattle.ic_indexed.specs.Indexed.{IndexedOrder, order_in, values_of}
use Rattle.ic_keyed.specs.Keyed.{has_key, value_with, without, touched, with_values, BeginsWith, EndsWith, HaveOwnKeys, KeyedValues, Lack}
use Rattle.ic_keyed.specs.Kept.{keyed_of}

module _ {T : Type 0} where
  -- if a list has a first value, it begins with this value. `last_cut` says that it ends with its last value
  pub first_cut : (values : List T) {first : T} → first_value values ≡ Some first → BeginsWith first values
  first_cut [] {first} e = absurd (none_not first e)
  first_cut (x ∷ values) e = (values, ap (λ (z : T). z ∷ values) (same_Some _ _ e))

  pub last_cut : (values : List T) {last : T} → last_value values ≡ Some last → EndsWith last values
  last_cut [] {last} e = absurd (none_not last e)
  last_cut (x ∷ []) e = ([], ap (λ (z : T). z ∷ []) (same_Some _ _ e))
  last_cut (x ∷ y ∷ values) e = let r = last_cut (y ∷ values) e in (x ∷ r.0, ap (λ (l : List T). x ∷ l) r.1)

  last_after : (front : List T) (last : T) → last_value (front ++ last ∷ []) ≡ Some last
  last_after [] last = refl
  last_after (x ∷ []) last = refl
  last_after (x ∷ y ∷ front) last = last_after (y ∷ front) last

  -- a list ends with only one value, so two last values of a list are equal
  pub one_last : {values : List T} {last other : T} → EndsWith last values → EndsWith other values → last ≡ other
  one_last {values} {last} {other} e f = same_Some _ _ (sym (last_after e.0 last) ∙ ap last_value (sym e.1 ∙ f.1) ∙ last_after f.0 other)

  -- if an option is not none, it has a value
  pub some_there : (o : Option T) → IsSome o → (value : T) × (o ≡ Some value)
  some_there None h = absurd (true≢false (sym h))
  some_there (Some value) h = (value, refl)

  -- if a search finds no place, it finds no value
  pub none_there : (values : Objects T) (position : Option Place) {found : Option T} → object_there values position ≡ found → is_some position ≡ false → found ≡ None
  none_there values None is none = sym is
  none_there values (Some place) is none = absurd (true≢false none)

  -- two containers with equal values and with equally many parts are equal
  pub same_values : {parts more : ℕ} {values others : List T} → parts ≡ more → values ≡ others → ◌≡◌ {A = KeyedValues T} (record { values = values; parts = parts }) (record { values = others; parts = more })
  same_values alike same = λ i. record { values = same i; parts = alike i }

module _ {T : Type 0} (key_of : T → ℕ) where
  -- IF NO VALUE HAS THE KEY, a search finds none, a use moves none, and a removal removes none
  pub without_none : (key : ℕ) (values : List T) → Lack key_of key values → without key_of key values ≡ values
  without_none key values lack = filter_pass (λ value. not (has_key key_of key value)) values (all_map (λ value h. ap not h) values lack)

  with_none : (key : ℕ) (values : List T) → Lack key_of key values → filter (has_key key_of key) values ≡ []
  with_none key values lack = filter_front (has_key key_of key) [] values tt lack

  pub found_none : (key : ℕ) (values : List T) → Lack key_of key values → value_with key_of key values ≡ None
  found_none key [] lack = refl
  found_none key (x ∷ values) lack = rw lack.0 (found_none key values lack.1)

  pub lack_found : (key : ℕ) (values : List T) → value_with key_of key values ≡ None → Lack key_of key values
  lack_found key [] e = tt
  lack_found key (x ∷ values) e = (grind (arith, nat_tests), lack_found key values (grind (arith, nat_tests)))

  pub touched_none : (key : ℕ) (values : List T) → value_with key_of key values ≡ None → touched key_of key values ≡ values
  touched_none key values none =
      let lack = lack_found key values none in
      ap (λ (l : List T). l ++ without key_of key values) (with_none key values lack) ∙ without_none key values lack

  pub without_nothing : (key : ℕ) (values : List T) → value_with key_of key values ≡ None → without key_of key values ≡ values
  without_nothing key values none = without_none key values (lack_found key values none)

  -- if a search for the key finds a value, this value is the first of the values with the key. `touched_first`: after its use, the value is the first of all
  -- values
  touched_some : (key : ℕ) (values : List T) {value : T} → value_with key_of key values ≡ Some value → (more : List T) × (filter (has_key key_of key) values ≡ value ∷ more)
  touched_some key [] {value} e = absurd (none_not value e)
  touched_some key (x ∷ values) {value} e = by (has_key key_of key x) e (touched_some key values {value = value}) where
    by : (b : Bool) → cond b (Some x) (value_with key_of key values) ≡ Some value
        → (value_with key_of key values ≡ Some value → (more : List T) × (filter (has_key key_of key) values ≡ value ∷ more))
        → (more : List T) × (cond b (x ∷ filter (has_key key_of key) values) (filter (has_key key_of key) values) ≡ value ∷ more)
    by true e rest = (filter (has_key key_of key) values, ap (λ (z : T). z ∷ filter (has_key key_of key) values) (same_Some _ _ e))
    by false e rest = rest e

  pub touched_first : (key : ℕ) (values : List T) {value : T} → value_with key_of key values ≡ Some value → first_value (touched key_of key values) ≡ Some value
  touched_first key values e = ap (λ (l : List T). first_value (l ++ without key_of key values)) (touched_some key values e).1

  -- THE VALUE THAT A SEARCH FINDS has the searched key
  pub found_key : (key : ℕ) (values : List T) {value : T} → value_with key_of key values ≡ Some value → key_of value ≡ key
  found_key key [] {value} e = absurd (none_not value e)
  found_key key (x ∷ values) {value} e = grind (arith, nat_tests, found_key key values {value = value})

  -- if the key of b is not the key of a, the key of a is not the key of b
  other_way : (a b : T) → has_key key_of (key_of a) b ≡ false → has_key key_of (key_of b) a ≡ false
  other_way a b h = ne_eqb (key_of a) (key_of b) (λ same. eqb-false (key_of b) (key_of a) h (sym same))

  -- if each value has its own key, no value before or after a value has the key of this value
  own_cut : (front : List T) (value : T) (back : List T) → HaveOwnKeys key_of (front ++ value ∷ back) → Lack key_of (key_of value) front × Lack key_of (key_of value) back × HaveOwnKeys key_of (front ++ back)
  own_cut [] value back own = (tt, own.0, own.1)
  own_cut (x ∷ front) value back own =
      let cut = own_cut front value back own.1 in
      let apart = all_back (λ other. has_key key_of (key_of x) other ≡ false) front (value ∷ back) own.0 in
      ((other_way x value apart.0, cut.0), cut.1, (all_without (λ other. has_key key_of (key_of x) other ≡ false) front value back own.0, cut.2))

  -- Lemmas about the removal of one value from a list in which each value has its own key
  module _ {value : T} {values rest : List T} (w : Without value values rest) where
    -- if no value of `values` has the key, no value of `rest` has the key
    pub still_lack : (key : ℕ) → Lack key_of key values → Lack key_of key rest
    still_lack key lack =
        subst (Lack key_of key) (sym w.is) (all_without (λ other. has_key key_of key other ≡ false) w.front value w.back (subst (Lack key_of key) w.was lack))

    module _ (own : HaveOwnKeys key_of values) where
      cut : Lack key_of (key_of value) w.front × Lack key_of (key_of value) w.back × HaveOwnKeys key_of (w.front ++ w.back)
      cut = own_cut w.front value w.back (subst (HaveOwnKeys key_of) w.was own)

      pub rest_own : HaveOwnKeys key_of rest
      rest_own = subst (HaveOwnKeys key_of) (sym w.is) cut.2

      pub rest_lack : Lack key_of (key_of value) rest
      rest_lack = subst (Lack key_of (key_of value)) (sym w.is) (all_both (λ other. has_key key_of (key_of value) other ≡ false) w.front w.back cut.0 cut.1)

      -- a search for the key of a value of the list finds this value
      pub found_it : value_with key_of (key_of value) values ≡ Some value
      found_it =
          ap (value_with key_of (key_of value)) w.was ∙ find-append (has_key key_of (key_of value)) w.front (value ∷ w.back)
          ∙ ap (λ (o : Option T). option_or o (value_with key_of (key_of value) (value ∷ w.back))) (found_none (key_of value) w.front cut.0) ∙ rw (eq-eqb (key_of value) (key_of value) refl) refl

      -- without the value that has the key, the list has the other values
      pub without_it : without key_of (key_of value) values ≡ rest
      without_it =
          let test : T → Bool = λ other. not (has_key key_of (key_of value) other) in
          ap (without key_of (key_of value)) w.was ∙ filter-append test w.front (value ∷ w.back)
          ∙ rw (without_none (key_of value) w.front cut.0, eq-eqb (key_of value) (key_of value) refl, without_none (key_of value) w.back cut.1) (sym w.is)

      -- after a use of the value that has the key, this value comes first, and then come the other values
      pub touched_it : touched key_of (key_of value) values ≡ value ∷ rest
      touched_it =
          let first : filter (has_key key_of (key_of value)) values ≡ value ∷ [] =
          ap (filter (has_key key_of (key_of value))) w.was ∙ filter-append (has_key key_of (key_of value)) w.front (value ∷ w.back)
          ∙ rw (with_none (key_of value) w.front cut.0, eq-eqb (key_of value) (key_of value) refl, with_none (key_of value) w.back cut.1) refl in
          ap (λ (l : List T). l ++ without key_of (key_of value) values) first ∙ ap (λ (l : List T). value ∷ l) without_it

      -- the next lemmas are about a key with which a search finds the value. It is the value's own key
      module _ (key : ℕ) (found : value_with key_of key values ≡ Some value) where
        pub removed_it : rest ≡ without key_of key values
        removed_it = sym without_it ∙ ap (λ (n : ℕ). without key_of n values) (found_key key values found)

        pub moved_it : value ∷ rest ≡ touched key_of key values
        moved_it = sym touched_it ∙ ap (λ (n : ℕ). touched key_of n values) (found_key key values found)

  -- if the first value is removed, the remaining values are those that came after it in the list
  pub without_first : {values rest : List T} {first : T} → HaveOwnKeys key_of values → Without first values rest → first_value values ≡ Some first → values ≡ first ∷ rest
  without_first {values} {rest} {first} own w e =
      let s = first_cut values e in
      let r : Without first values s.0 = record { front = []; back = s.0; was = s.1; is = refl } in
      s.1 ∙ ap (λ (l : List T). first ∷ l) (sym (without_it r own) ∙ without_it w own)

  -- if the last value is removed, the remaining values are those that came before it in the list
  pub without_last : {values rest : List T} {last : T} → HaveOwnKeys key_of values → Without last values rest → last_value values ≡ Some last → values ≡ rest ++ last ∷ []
  without_last {values} {rest} {last} own w e =
      let s = last_cut values e in
      let r : Without last values s.0 = record { front = s.0; back = []; was = s.1; is = sym (append-nil s.0) } in
      s.1 ∙ ap (λ (l : List T). l ++ last ∷ []) (sym (without_it r own) ∙ without_it w own)

  -- THE VALUE THAT A SEARCH FINDS is the value with the key
  module _ (store : IndexedOrder T) (whole : IsWhole (order_in store)) where
    pub found_value : HaveOwnKeys key_of (values_of store) → (key : ℕ) (position : Option Place) → IsFound key_of store.values key position → object_there store.values position ≡ value_with key_of key (values_of store)
    found_value own key None none =
        sym (found_none key (values_of store) (from_each (λ value. has_key key_of key value ≡ false) store.values (λ p value there. ne_eqb (key_of value) key (none p value there)) store.order))
    found_value own key (Some p) found = found.1 ∙ sym (found_it (whole_value whole p found.1).1 own) ∙ ap (λ (n : ℕ). value_with key_of n (values_of store)) found.2

  -- no two values have equal keys after a value whose key no other value had is inserted at the front
  pub own_added : (values : List T) (value : T) → HaveOwnKeys key_of values → value_with key_of (key_of value) values ≡ None → HaveOwnKeys key_of (value ∷ values)
  own_added values value own none = (lack_found (key_of value) values none, own)

  module _ {values rest : List T} {out : T} (w : Without out values rest) (own : HaveOwnKeys key_of values) (value : T) where
    -- no two values have equal keys after another value has replaced a value, if it has the key of the old value, or a key that no value had
    pub own_renewed : key_of out ≡ key_of value → HaveOwnKeys key_of (value ∷ rest)
    own_renewed same = (subst (λ (n : ℕ). Lack key_of n rest) same (rest_lack w own), rest_own w own)

    pub own_replaced : value_with key_of (key_of value) values ≡ None → HaveOwnKeys key_of (value ∷ rest)
    own_replaced none = (still_lack w (key_of value) (lack_found (key_of value) values none), rest_own w own)

  -- no two values have equal keys after a value has moved to the back
  pub own_after : {values rest : List T} {out : T} → Without out values rest → HaveOwnKeys key_of values → HaveOwnKeys key_of (rest ++ out ∷ [])
  own_after {values} {rest} {out} w own = by rest (rest_own w own) (rest_lack w own) where
    by : (s : List T) → HaveOwnKeys key_of s → Lack key_of (key_of out) s → HaveOwnKeys key_of (s ++ out ∷ [])
    by [] own lack = (tt, tt)
    by (x ∷ s) own lack = (all_both (λ other. has_key key_of (key_of x) other ≡ false) s (out ∷ []) own.0 (other_way out x lack.0, tt), by s own.1 lack.1)

  -- no two values have equal keys after the first or the last value is removed
  own_front : (front back : List T) → HaveOwnKeys key_of (front ++ back) → HaveOwnKeys key_of front
  own_front [] back own = tt
  own_front (x ∷ front) back own = (all_front (λ other. has_key key_of (key_of x) other ≡ false) front back own.0, own_front front back own.1)

  module _ (old new : IndexedOrder T) (own : HaveOwnKeys key_of (values_of old)) where
    pub own_first_out : (o : Option T) → MatchOption o ((values_of old ≡ []) × (new ≡ old)) (λ first. values_of old ≡ first ∷ values_of new) → HaveOwnKeys key_of (values_of new)
    own_first_out None e = subst (λ (store : IndexedOrder T). HaveOwnKeys key_of (values_of store)) (sym e.1) own
    own_first_out (Some first) e = (subst (HaveOwnKeys key_of) e own).1

    pub own_last_out : (o : Option T) → MatchOption o ((values_of old ≡ []) × (new ≡ old)) (λ last. values_of old ≡ values_of new ++ last ∷ []) → HaveOwnKeys key_of (values_of new)
    own_last_out None e = subst (λ (store : IndexedOrder T). HaveOwnKeys key_of (values_of store)) (sym e.1) own
    own_last_out (Some last) e = own_front (values_of new) (last ∷ []) (subst (HaveOwnKeys key_of) e own)

-- Lemmas about a container from which one value is removed, at the front or at the back
module _ {T : Type 0} (old new : IndexedOrder T) (parts : new.parts ≡ old.parts) where
  pub first_popped : (o : Option T) → MatchOption o ((values_of old ≡ []) × (new ≡ old)) (λ first. values_of old ≡ first ∷ values_of new)
      → MatchOption o (((keyed_of old).values ≡ []) × (keyed_of new ≡ keyed_of old)) (λ first. keyed_of old ≡ with_values (keyed_of new) (first ∷ values_of new))
  first_popped None e = (e.0, ap (λ (store : IndexedOrder T). keyed_of store) e.1)
  first_popped (Some first) e = same_values (sym parts) e

  pub last_popped : (o : Option T) → MatchOption o ((values_of old ≡ []) × (new ≡ old)) (λ last. values_of old ≡ values_of new ++ last ∷ [])
      → MatchOption o (((keyed_of old).values ≡ []) × (keyed_of new ≡ keyed_of old)) (λ last. keyed_of old ≡ with_values (keyed_of new) (values_of new ++ last ∷ []))
  last_popped None e = (e.0, ap (λ (store : IndexedOrder T). keyed_of store) e.1)
  last_popped (Some last) e = same_values (sym parts) e
