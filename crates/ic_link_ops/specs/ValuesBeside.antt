-- This file describes tables whose links have a value beside their words.
use Rattle.std.specs.Prelude.{◌≡◌, ◌<◌, true, ℕ, List, [], ◌∷◌, drop, length, refl, ⊤}
use Rattle.std.proofs.Common.{ap, arith, sym, ◌∙◌}
use Rattle.std.proofs.lemmas.List.{length-map}
use Rattle.ic_unsafe_ref.specs.declared.place.Place.{Place}
use Rattle.ic_unsafe_ref.specs.Places.{index_of}
use Rattle.ic_unsafe_ref.specs.Objects.{is_placed, at_indexes}
use Rattle.ic_unsafe_ref.proofs.IndexLemmas.{placed_in_range}
use Rattle.ic_link_ops.specs.declared.link.Link.{Link}
use Rattle.ic_link_ops.specs.Links.{value_of}
use Rattle.ic_link_ops.specs.PlainTables.{values_beside}
use Rattle.ic_link_ops.specs.Tables.{Extent}

-- Two lists of units are equal if they have the same length, because a unit has only one value.
pub all_alike : (s t : List ⊤) → length s ≡ length t → s ≡ t
all_alike [] [] e = refl
all_alike [] (y ∷ t) e = absurd (omega (arith, e))
all_alike (x ∷ s) [] e = absurd (omega (arith, e))
all_alike (x ∷ s) (y ∷ t) e = ap (λ rest. tt ∷ rest) (all_alike s t (omega (arith, e)))

-- There is a value at each place whose index is below the number of links.
pub placed_where_covered : {W V : Type 0} (es : List (Link W V)) (p : Place) → index_of p < length es → is_placed (at_indexes (values_beside es)) p ≡ true
placed_where_covered es p covered = placed_in_range (values_beside es) p (omega (arith, covered, length-map es value_of))

module _ {W V : Type 0} (printed : List V → List ℕ) (tells : (s t : List V) → length s ≡ length t → printed s ≡ printed t → s ≡ t) where
  -- The extent of a table with the links es. The identity in the extent is `names`, which can contain the numbers of the values.
  abbrev extent_beside : List ℕ → List (Link W V) → Extent
  extent_beside names es = record { places = length es; identity = names }

  -- The values stay if the extent of the table stays, because the extent contains the count and the numbers of the values.
  same_values : (es fs : List (Link W V)) → length fs ≡ length es → printed (values_beside fs) ≡ printed (values_beside es) → at_indexes (values_beside fs) ≡ at_indexes (values_beside es)
  same_values es fs long same = ap at_indexes (tells (values_beside fs) (values_beside es) (length-map fs value_of ∙ long ∙ sym (length-map es value_of)) same)

  pub values_kept : (es fs : List (Link W V)) → extent_beside (printed (values_beside fs)) fs ≡ extent_beside (printed (values_beside es)) es
      → at_indexes (values_beside fs) ≡ at_indexes (values_beside es)
  values_kept es fs e = same_values es fs (ap (λ (x : Extent). x.places) e) (ap (λ (x : Extent). x.identity) e)

  -- The values beside the links of a lent table stay if the table's extent stays. In the identity of a lent table, the numbers of
  -- the values come after the name of the borrow.
  pub lent_kept : {name name' : ℕ} (es fs : List (Link W V)) → extent_beside (name' ∷ printed (values_beside fs)) fs ≡ extent_beside (name ∷ printed (values_beside es)) es
      → at_indexes (values_beside fs) ≡ at_indexes (values_beside es)
  lent_kept es fs e = same_values es fs (ap (λ (x : Extent). x.places) e) (ap (λ (x : Extent). drop 1 x.identity) e)
