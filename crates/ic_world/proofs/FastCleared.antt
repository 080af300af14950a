-- `fast_clear`: all members of a collection are removed and stay linked.
use Rattle.std.proofs.Common.{◌≡◌, ℕ, true, List, map, set, Option, Some, None, refl, sym, ap, ◌∙◌, Ordering}
use Rattle.std.proofs.lemmas.List.{map-set}
use Rattle.ic_unsafe_ref.specs.Objects.{Objects}
use Rattle.ic_any_collection.specs.declared.any_collection.AnyCollection.{AnyCollection}
use Rattle.ic_world.specs.declared.call.Command.TheVariants.{FastClear}
use Rattle.ic_world.specs.declared.collection.Collection.{Collection}
use Rattle.ic_world.specs.declared.field.WorldField.{WorldField}
use Rattle.ic_world.specs.Prelude.{done, Family, IsKept, asks_collection, Step, table_of, sequence, seen_as, family_of}
use Rattle.ic_world.specs.Splices.{Emptied}
use Rattle.ic_world.proofs.Edits.{after}
use Rattle.ic_world.proofs.LeftLinked.{none_cleared}
use Rattle.ic_world.proofs.Readings.{Found, collection_is}
use Rattle.ic_world.proofs.Splices.{emptied_whole, emptied_family}
use Rattle.ic_world.proofs.Steps.{step_accepted}

module _ {A V M : Type 0} {adapter : A} {objects : Objects V} {room : ℕ} {tables : List (WorldField M)} {cs : List (Option (Collection V))} (kept : IsKept adapter objects room tables cs)
    {c : ℕ} {k : Collection V} {now : WorldField M} (at_k : Found tables cs c k now) (m : AnyCollection V) (e : Emptied k.members m) where
  abbrev nf : WorldField M
  nf = record now { left_linked = true }

  same_tables : map table_of (set tables k.field nf) ≡ map table_of tables
  same_tables = map-set table_of tables k.field nf ∙ sym (map-set table_of tables k.field now) ∙ ap (map table_of) at_k.table_back

  -- THE INVARIANT of the world holds after `fast_clear`, and the call is THE STEP `FastClear` of the model
  pub fast_cleared_kept : IsKept adapter objects room (set tables k.field nf) (set cs c (Some (after k m)))
  fast_cleared_kept =
      let left = map-set (λ (x : WorldField M). x.left_linked) tables k.field nf in
      let none = none_cleared kept.1 c (seen_as k (sequence (map table_of tables) k)) (collection_is adapter objects (map table_of tables) cs c k at_k.is) in
      rw (same_tables, left) (emptied_whole kept.0 c k at_k.is m e, rw (emptied_family kept.0 c k at_k.is m e) none)

  pub fast_cleared_step : {K : Type 0} (cmp : K → K → Ordering) (key_of : A → V → K) {old : Family A V} → family_of adapter objects (map table_of tables) cs ≡ old
      → Step cmp key_of old (FastClear c) done (family_of adapter objects (map table_of (set tables k.field nf)) (set cs c (Some (after k m))))
  fast_cleared_step cmp key_of view =
      let w = family_of adapter objects (map table_of tables) cs in
      let is = collection_is adapter objects (map table_of tables) cs c k at_k.is in
      rw (← view, same_tables) (step_accepted cmp key_of w (FastClear c) done _ (ap (λ o. asks_collection o (λ _. None)) is)
      (seen_as k (sequence (map table_of tables) k), is, refl, emptied_family kept.0 c k at_k.is m e))
