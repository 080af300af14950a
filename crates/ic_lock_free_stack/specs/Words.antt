-- The words of places and of heads, and the words that a holder knows.
use Rattle.std.specs.Prelude.{◌≡◌, ℕ, ◌+◌, ◌<◌, ◌==◌, true, if◌then◌else◌, Option, Some, List, [], ◌∷◌, slice_index}
use Rattle.ic_unsafe_ref.specs.declared.place.Place.{Place}
use Rattle.ic_unsafe_ref.specs.Places.{index_of, word_of}
use Rattle.ic_lock_free_stack.specs.Ends.{first}
use Rattle.ic_lock_free_stack.specs.declared.held.Size.{Size}
use Rattle.ic_lock_free_stack.specs.declared.held.Known.{Known}
use Rattle.ic_lock_free_stack.specs.Moments.{Moment, same, is_in, is_nowhere}

-- the word that names the given place or none. This word is never 0
abbrev pub link_to : Option Place → ℕ
link_to o = word_of o + 1

-- the word of the place p, and the head of the stack k
abbrev pub word_at : List ℕ → Place → ℕ
word_at words p = slice_index words (index_of p)

abbrev pub head_at : Size → List ℕ → ℕ → ℕ
head_at size words k = slice_index words (size.places + k)

-- the word of each member of the list names the next member, and the word of the last member names none
abbrev pub AreLinked : List ℕ → List Place → Type 0
AreLinked words [] = Unit {0}
AreLinked words (p ∷ s) = (word_at words p ≡ link_to (first s)) × AreLinked words s

-- the word that names the first place of the list, or the word `after` if the list is empty
abbrev pub link_or : List Place → ℕ → ℕ
link_or [] after = after
link_or (p ∷ s) after = link_to (Some p)

-- the word of each place of the list names the next place, and the word of the last place is `after`
abbrev pub AreLinkedTo : List ℕ → List Place → ℕ → Type 0
AreLinkedTo words [] after = Unit {0}
AreLinkedTo words (p ∷ s) after = (word_at words p ≡ link_or s after) × AreLinkedTo words s after

-- THE WORDS AT A MOMENT: the words of places and of heads agree with the moment m
pub record Spells (size : Size) (words : List ℕ) (m : Moment) : Type 0 where
  -- A place's word is 0 exactly if the place is free.
  pub free : (p : Place) → index_of p < size.places → word_at words p == 0 ≡ is_nowhere (m.place p)
  -- A head names the first member of its stack, and the word of each member names the next member.
  pub heads : (k : ℕ) → k < size.stacks → head_at size words k ≡ link_to (first (m.stack k))
  pub links : (k : ℕ) → AreLinked words (m.stack k)
  -- Only existing places are in stacks.
  pub inside : (k : ℕ) (p : Place) → is_in p (m.stack k) ≡ true → index_of p < size.places

-- the word that is known of the place p, or 0 if none is known. If the list has several words of p, the first is the latest and counts
abbrev pub known_of : List Known → Place → ℕ
known_of [] p = 0
known_of (x ∷ xs) p = if same p x.place then x.word else known_of xs p

-- the knowledge that the place p has the word n
abbrev pub knows : Place → ℕ → Known
knows p n = record { place = p; word = n }

-- the known words `ks`, to which the words of the members of a stack are added
abbrev pub knows_all : List Place → List Known → List Known
knows_all [] ks = ks
knows_all (p ∷ s) ks = knows p (link_to (first s)) ∷ knows_all s ks

-- the known word of each place of the list names the next place, and the known word of the last place is `after`
abbrev pub AreKnownTo : List Known → List Place → ℕ → Type 0
AreKnownTo ks [] after = Unit {0}
AreKnownTo ks (p ∷ s) after = (known_of ks p ≡ link_or s after) × AreKnownTo ks s after

-- the known words `ks` after the words of the places in the list were forgotten
abbrev pub forgets : List Place → List Known → List Known
forgets [] ks = ks
forgets (p ∷ s) ks = knows p 0 ∷ forgets s ks
