-- WHICH CALLS HAVE WHICH SLOT. The parser computes the number of a slot from the first letters of a line, and first compares the line with the calls
-- of this slot.
use Rattle.std.specs.Prelude.{◌≡◌, ℕ, List, [], ◌∷◌, None, Bool, nat_eq, if◌then◌else◌}
use Rattle.std.specs.List.{list_any}
use Rattle.ic_program.specs.Grammar.{calls, command_among}

-- the slot of each call, in the order of `calls`
unfoldable pub slots : List ℕ
slots =
    34 ∷ 56 ∷ 46 ∷ 29 ∷ 54 ∷ 15 ∷ 0 ∷ 36 ∷ 24 ∷ 44 ∷ 28 ∷ 13 ∷ 47 ∷ 6 ∷ 11 ∷ 39 ∷ 53 ∷ 49 ∷ 20 ∷ 9 ∷ 27
    ∷ 27 ∷ 45 ∷ 41 ∷ 48 ∷ 61 ∷ 38 ∷ 38 ∷ 26 ∷ 22 ∷ 63 ∷ 50 ∷ 62 ∷ 35 ∷ 43 ∷ 58 ∷ 52 ∷ 42 ∷ 7 ∷ 3 ∷ 32 ∷ 40 ∷ []

-- the slots of the most frequent calls
abbrev pub fast_slots : List ℕ
fast_slots = 13 ∷ 47 ∷ 6 ∷ 11 ∷ 39 ∷ 53 ∷ 49 ∷ 20 ∷ 45 ∷ 41 ∷ 48 ∷ 61 ∷ 38 ∷ []

unfoldable pub is_fast : ℕ → Bool
is_fast slot = list_any (nat_eq slot) fast_slots

-- the entries whose slot is `slot`. `s ∷ ss` are the slots of the entries, in order
abbrev pub with_slot : {A : Type 0} → ℕ → List ℕ → List A → List A
with_slot slot [] entries = []
with_slot slot (s ∷ ss) [] = []
with_slot slot (s ∷ ss) (entry ∷ entries) = if nat_eq slot s then entry ∷ with_slot slot ss entries else with_slot slot ss entries

-- the words are none of the calls whose slot is `slot`
unfoldable pub IsNoCallAt : ℕ → List (List ℕ) → Type 0
IsNoCallAt slot words = command_among (with_slot slot slots calls) words ≡ None
