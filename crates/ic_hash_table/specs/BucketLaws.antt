-- These lemmas are about the buckets of a hash table: a row of words, each of which stores the first member of a chain.
use Rattle.std.specs.Prelude.{◌≡◌, ℕ, zero, suc, Option, None, List, [], ◌∷◌, map, length, set}
use Rattle.std.specs.Borrow.{MutBor}
use Rattle.std.specs.List.{AllByRecursion}
use Rattle.std.proofs.Common.{inl, inr, refl, sym, ap, ◌∙◌, subst}
use Rattle.std.proofs.lemmas.List.{map-set, length-map}
use Rattle.ic_unsafe_ref.specs.declared.place.Place.{Place}
use Rattle.ic_hash_table.specs.Buckets.{AreRewritten, AreRewrittenIn}

-- if each word of a row is a place or none, the row of the places that its words name is the row itself
pub own_fronts : (words : List (Option Place)) → words ≡ map (λ w. w) words
own_fronts [] = refl
own_fronts (w ∷ ws) = ap (λ l. w ∷ l) (own_fronts ws)

module _ {W : Type 0} (front_of : W → Option Place) (word_for : Option Place → W) where
  pub rewritten_none : (ws : List W) → AreRewritten front_of word_for ws ws
  rewritten_none [] = tt
  rewritten_none (w ∷ ws) = (inl refl, rewritten_none ws)

  pub rewritten_on : (us vs ws : List W) → AreRewritten front_of word_for us vs → AreRewritten front_of word_for vs ws → AreRewritten front_of word_for us ws
  rewritten_on [] [] [] h k = tt
  rewritten_on [] [] (w ∷ ws) h k = k
  rewritten_on [] (v ∷ vs) ws h k = absurd h
  rewritten_on (u ∷ us) [] ws h k = absurd h
  rewritten_on (u ∷ us) (v ∷ vs) [] h k = absurd k
  rewritten_on (u ∷ us) (v ∷ vs) (w ∷ ws) h k = (
    elim k.0 [
      | inr new ↦ inr new
      | inl same ↦ elim h.0 [
        | inl was ↦ inl (same ∙ was)
        | inr new ↦ inr (subst (λ x. x ≡ word_for (front_of x)) (sym same) new)
      ]
    ],
    rewritten_on us vs ws h.1 k.1,
  )

  pub rewritten_count : (vs ws : List W) → AreRewritten front_of word_for vs ws → length ws ≡ length vs
  rewritten_count [] [] h = refl
  rewritten_count [] (w ∷ ws) h = absurd h
  rewritten_count (v ∷ vs) [] h = absurd h
  rewritten_count (v ∷ vs) (w ∷ ws) h = ap suc (rewritten_count vs ws h.1)

  -- if a word w is written at an index, and w is the word that `word_for` makes for the place that w names, the row is rewritten
  pub rewritten_at : (ws : List W) (i : ℕ) (w : W) → w ≡ word_for (front_of w) → AreRewritten front_of word_for ws (set ws i w)
  rewritten_at [] i w new = tt
  rewritten_at (v ∷ vs) zero w new = (inr new, rewritten_none vs)
  rewritten_at (v ∷ vs) (suc i) w new = (inl refl, rewritten_at vs i w new)

-- `fronts` turns a row of words into the row of the places that these words name
module _ {W : Type 0} {front_of : W → Option Place} {fronts : List W → List (Option Place)} (are : (words : List W) → fronts words ≡ map front_of words) where
  pub fronts_count : (words : List W) → length words ≡ length (fronts words)
  fronts_count words = sym (ap length (are words) ∙ length-map words front_of)

  pub fronts_set : (words : List W) (i : ℕ) (w : W) (front : Option Place) → front_of w ≡ front → fronts (set words i w) ≡ set (fronts words) i front
  fronts_set words i w front e = are (set words i w) ∙ map-set front_of words i w ∙ ap (λ f. set (map front_of words) i f) e ∙ ap (λ l. set l i front) (sym (are words))

  -- if two rows of words have the same length, their rows of places have the same length
  pub fronts_alike : (vs ws : List W) → length ws ≡ length vs → length (fronts ws) ≡ length (fronts vs)
  fronts_alike vs ws e = sym (fronts_count ws) ∙ e ∙ fronts_count vs

  -- if no word of a row names a place, no entry of the row of places has a place
  pub fronts_none : (words : List W) → AllByRecursion (λ w. front_of w ≡ None) words → AllByRecursion (λ front. front ≡ None) (fronts words)
  fronts_none words none = subst (AllByRecursion (λ front. front ≡ None)) (sym (are words)) (mapped words none)
    where
      mapped : (ws : List W) → AllByRecursion (λ w. front_of w ≡ None) ws → AllByRecursion (λ front. front ≡ None) (map front_of ws)
      mapped [] none = tt
      mapped (w ∷ ws) none = (none.0, mapped ws none.1)

-- these lemmas are about a row of words in borrowed memory
module _ {W : Type 0} (front_of : W → Option Place) (word_for : Option Place → W) where
  pub lent_none : (b : MutBor (List W)) → AreRewrittenIn front_of word_for b b
  lent_none b = (refl, rewritten_none front_of word_for b.now)

  pub lent_on : (a b c : MutBor (List W)) → AreRewrittenIn front_of word_for a b → AreRewrittenIn front_of word_for b c → AreRewrittenIn front_of word_for a c
  lent_on a b c h k = (k.0 ∙ h.0, rewritten_on front_of word_for a.now b.now c.now h.1 k.1)
