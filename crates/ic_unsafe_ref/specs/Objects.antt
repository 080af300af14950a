-- A store of objects consists of a finite map from places to values, and of the place that the next value gets.
use Rattle.std.specs.Prelude.{◌≡◌, ℕ, List, length, Option, None, Bool, is_some, refl}
use Rattle.std.specs.List.{enumerate_from}
use Rattle.std.specs.Ordering.{nat_cmp}
use Rattle.std.specs.FinMap as map
use Rattle.std.specs.Coded.{Coded, code_by, coded×, coded_ℕ}
use Rattle.ic_unsafe_ref.specs.declared.place.Place.{Place}
use Rattle.ic_unsafe_ref.specs.Places.{index_of}

-- The values are stored under the indexes of their places. `next` is the index of the place that the next value gets.
pub record Objects (T : Type 0) : Type 0 where
  pub values : map.FinMap nat_cmp T
  pub next : ℕ

-- A store of objects is encoded as the pair of its two fields.
abbrev pub objects_code : {T : Type 0} → Coded T → Coded (Objects T)
objects_code {T} code =
    code_by (map.FinMap nat_cmp T × ℕ) (coded× (map.code coded_ℕ code) coded_ℕ)
    (λ o. (o.values, o.next)) (λ p. record { values = p.0; next = p.1 }) (λ _. refl)

module _ {T : Type 0} where
  -- The value at a place, or none if the place is vacant.
  abbrev pub object_at : Objects T → Place → Option T
  object_at objects p = map.get objects.values (index_of p)

  -- `is_placed` says whether there is a value at a place.
  abbrev pub is_placed : Objects T → Place → Bool
  is_placed objects p = is_some (object_at objects p)

  -- The store `new` contains the values of `old` and also `value` at the place p, which was vacant. The place p was the next
  -- place of `old`.
  pub record Places (old new : Objects T) (p : Place) (value : T) : Type 0 where
    pub next : index_of p ≡ old.next
    pub vacant : object_at old p ≡ None
    pub values : new.values ≡ map.insert old.values (index_of p) value

  -- The store `new` contains the values of `old` without the value at p. The place p is vacant afterwards, and the next value
  -- gets the place p.
  pub record Frees (old new : Objects T) (p : Place) : Type 0 where
    pub next : new.next ≡ index_of p
    pub values : new.values ≡ map.remove old.values (index_of p)

  -- The store with the given value at the place p, and with its other values unchanged.
  abbrev pub with_object : Objects T → Place → T → Objects T
  with_object objects p value = record { values = map.insert objects.values (index_of p) value; next = objects.next }

  -- The store with the values of a list. The value with the index i in the list is at the place with the index i.
  abbrev pub at_indexes : List T → Objects T
  at_indexes values = record { values = map.from_entries (enumerate_from 0 values); next = length values }
