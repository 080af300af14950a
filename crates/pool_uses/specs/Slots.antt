-- A contract sees which value each handle names.
use Rattle.std.specs.Prelude.{◌≡◌, ◌≢◌, ◌+◌, ◌<◌, ℕ, Bool, true, false, cond, eqb, leb, Option, Some, None, is_some, refl}
use Rattle.std.specs.Coded.{Coded, code_by, coded×, coded_ℕ, coded_bool, coded_option}
use Rattle.std.specs.FinMap as map
use Rattle.std.specs.Ordering.{nat_cmp}
use Rattle.ic_link_ops.specs.Prelude.{Place, index_of}
use Rattle.pool_uses.specs.declared.slots.Handle.{Handle}
use Rattle.pool_uses.specs.declared.slots.Slot.{Slot}

-- A naming has the content of each slot by the index of its place. It also says how many handles name a value, and whether all places are in use
pub record Naming (T : Type 0) : Type 0 where
  pub slots : map.FinMap nat_cmp (Slot T)
  pub count : ℕ
  pub is_full : Bool

-- whether the handle is the last one of its slot: its slot has then had 2^64 - 1 handles, and gets no more
abbrev pub is_last : Handle → Bool
is_last h = eqb (h.generation + 1) 18446744073709551615

-- A slot is stored as the pair of its fields. A naming is stored as nested pairs of its fields
abbrev pub slot_code : {T : Type 0} → Coded T → Coded (Slot T)
slot_code {T} code =
    code_by (ℕ × Option T) (coded× coded_ℕ (coded_option code)) (λ s. (s.generation, s.value)) (λ p. record { generation = p.0; value = p.1 }) (λ _. refl)

abbrev pub naming_code : {T : Type 0} → Coded T → Coded (Naming T)
naming_code {T} code =
    code_by (map.FinMap nat_cmp (Slot T) × (ℕ × Bool)) (coded× (map.code coded_ℕ (slot_code code)) (coded× coded_ℕ coded_bool))
    (λ n. (n.slots, (n.count, n.is_full))) (λ p. record { slots = p.0; count = p.1.0; is_full = p.1.1 }) (λ _. refl)

module _ {T : Type 0} where
  -- the value in a slot, if the slot has one and its generation is `g`
  abbrev pub named_in : Option (Slot T) → ℕ → Option T
  named_in None g = None
  named_in (Some slot) g = cond (eqb slot.generation g) slot.value None

  -- whether a handle with the generation `g` of the slot was returned to a caller: `g` is the generation of the slot's value, or an earlier generation
  abbrev pub given_in : Option (Slot T) → ℕ → Bool
  given_in None g = false
  given_in (Some slot) g = cond (eqb slot.generation g) (is_some slot.value) (leb (g + 1) slot.generation)

  -- `named` is the value that the handle names, if there is one. `is_given` says whether the handle was ever returned to a caller
  abbrev pub named : Naming T → Handle → Option T
  named slots h = named_in (map.get slots.slots (index_of h.place)) h.generation

  abbrev pub is_given : Naming T → Handle → Bool
  is_given slots h = given_in (map.get slots.slots (index_of h.place)) h.generation

  -- the slot has no value, and its generation is not the last one, so that it can get a value
  abbrev pub IsUsable : Option (Slot T) → Type 0
  IsUsable None = ⊥
  IsUsable (Some slot) = (slot.value ≡ None) × (slot.generation < 18446744073709551615)

  -- SOME SLOT IS VACANT: there is a place whose slot has no value and can get one
  abbrev pub HasVacant : Naming T → Type 0
  HasVacant slots = (p : Place) × IsUsable (map.get slots.slots (index_of p))

  -- the slot of the handle is vacant: it has no value and can get one
  abbrev pub IsVacantSlot : Handle → Naming T → Type 0
  IsVacantSlot h slots = IsUsable (map.get slots.slots (index_of h.place))

  -- no handle names a value, and none was ever returned to a caller
  pub record NamesNothing (slots : Naming T) : Type 0 where
    pub names : (h : Handle) → named slots h ≡ None
    pub given : (h : Handle) → is_given slots h ≡ false
    pub count : slots.count ≡ 0

  -- each handle names what it named before, and as many handles name a value as before
  pub record IsUnchanged (old new : Naming T) : Type 0 where
    pub names : (h : Handle) → named new h ≡ named old h
    pub given : (h : Handle) → is_given new h ≡ is_given old h
    pub count : new.count ≡ old.count

  -- no call returned the new handle before, and now it names the value. All other handles name what they named before
  pub record Inserts (handle : Handle) (value : T) (old new : Naming T) : Type 0 where
    pub never : is_given old handle ≡ false
    pub nothing : named old handle ≡ None
    pub names : named new handle ≡ Some value
    pub given : is_given new handle ≡ true
    pub others : (h : Handle) → h ≢ handle → (named new h ≡ named old h) × (is_given new h ≡ is_given old h)
    pub count : new.count ≡ old.count + 1

  -- a call returned the handle before, and now it names nothing. All other handles name what they named before. Unless the handle is the last one of its
  -- slot, some slot is vacant
  pub record Removes (handle : Handle) (old new : Naming T) : Type 0 where
    pub given : is_given new handle ≡ true
    pub nothing : named new handle ≡ None
    pub others : (h : Handle) → h ≢ handle → (named new h ≡ named old h) × (is_given new h ≡ is_given old h)
    pub count : old.count ≡ new.count + 1
    pub vacant : is_last handle ≡ false → HasVacant new
