-- The buckets of a hash table are a row of words, each of which stores the first member of a chain.
use Rattle.std.specs.Prelude.{◌≡◌, ◌⊎◌, ⊤, Option, List, [], ◌∷◌}
use Rattle.std.specs.Borrow.{MutBor}
use Rattle.ic_unsafe_ref.specs.declared.place.Place.{Place}

-- `front_of w` is the place that the word w names, or none. `word_for front` is the word for the place `front`, or for none
module _ {W : Type 0} (front_of : W → Option Place) (word_for : Option Place → W) where
  -- `AreRewritten old new`: both rows have the same length. Each word w of the row `new` is the old word at its index, or the word that `word_for` makes for
  -- the place that w names
  abbrev pub AreRewritten : List W → List W → Type 0
  AreRewritten [] [] = ⊤
  AreRewritten [] (w ∷ ws) = ⊥
  AreRewritten (v ∷ vs) [] = ⊥
  AreRewritten (v ∷ vs) (w ∷ ws) = ((w ≡ v) ⊎ (w ≡ word_for (front_of w))) × AreRewritten vs ws

  -- `AreRewrittenIn old new`: both borrowed rows are in the same memory, and `AreRewritten` holds for their words
  abbrev pub AreRewrittenIn : MutBor (List W) → MutBor (List W) → Type 0
  AreRewrittenIn old new = (new.ghost_name ≡ old.ghost_name) × AreRewritten old.now new.now
