-- This file proves facts about a value beside a link of a table that is read or set.
use Rattle.std.proofs.Common.{◌≡◌, ℕ, ◌<◌, List, length, Some, true, slice_set, slice_index_or, ap, ◌∙◌, arith}
use Rattle.std.proofs.lemmas.List.{get_or-map, length-map, map-set}
use Rattle.ic_link_ops.specs.Base.{Place, index_of, object_at, is_placed, with_object, at_indexes}
use Rattle.ic_unsafe_ref.proofs.IndexLemmas.{in_range, set_at_index}
use Rattle.ic_link_ops.specs.declared.link.Link.{Link}
use Rattle.ic_link_ops.specs.Links.{value_of}
use Rattle.ic_link_ops.specs.PlainTables.{values_beside}

module _ {W V : Type 0} where
  -- If there is a value at a place, the place is covered, and the value is the one beside its link.
  pub value_read : (es : List (Link W V)) (p : Place) {i : ℕ} → i ≡ index_of p → is_placed (at_indexes (values_beside es)) p ≡ true
      → (i < length es) × ((e : Link W V) → object_at (at_indexes (values_beside es)) p ≡ Some (value_of (slice_index_or es i e)))
  value_read es p {i} at_index placed =
      let there = in_range (values_beside es) p at_index placed in
      let in_bounds : i < length es = omega (arith, there.0, length-map es value_of) in
      (in_bounds, λ e. there.1 (value_of e) ∙ ap Some (get_or-map value_of es i e (value_of e) in_bounds))

  -- A write of the link e at the place p writes the value of e as the value of p, whatever the words of e are.
  pub value_set : (es : List (Link W V)) (p : Place) (e : Link W V) {i : ℕ} → i ≡ index_of p → index_of p < length es
      → at_indexes (values_beside (slice_set es i e)) ≡ with_object (at_indexes (values_beside es)) p (value_of e)
  value_set es p e {i} at_index covered =
      ap at_indexes (map-set value_of es i e ∙ ap (λ (i : ℕ). slice_set (values_beside es) i (value_of e)) at_index)
      ∙ set_at_index (values_beside es) p (value_of e) (omega (arith, covered, length-map es value_of))
