-- After calls that insert objects into a tree only by their own keys (`AreOrderly`), the call `show` returns the tree's members in the right order.
use Rattle.std.proofs.Common.{◌≡◌, ℕ, List, Some, ap, sym, ◌∙◌, subst, Ordering}
use Rattle.ic_unsafe_ref.specs.declared.place.Place.{Place}
use Rattle.ic_link_ops.proofs.SequenceLemmas.{some_same}
use Rattle.ic_world.specs.declared.call.Command.{Command}
use Rattle.ic_world.specs.declared.call.Command.TheVariants as call
use Rattle.ic_world.specs.Prelude.{Reply, items, Family, Sequence, collection, Step}
use Rattle.ic_world_laws.specs.InsertionOrder.{KeepsInsertionOrder, IsInOrderOf, AreOrderly, RunKeepsInsertionOrder, insertion_order_over}

module _ {A V K : Type 0} (cmp : K → K → Ordering) (key_of : A → V → K) where
  represented_members : (w : Family A V) (c : ℕ) (places : List Place) → Step cmp key_of w (call.Show c) (items places) w → (s : Sequence) → collection w c ≡ Some s → places ≡ s.members
  represented_members w c places step s is =
      let told = rw is at step in
      told.2 ∙ ap (λ (x : Sequence). x.members) (sym (some_same told.1))

  pub represented_in_order : (old new : Family A V) (c : ℕ) (commands : List (Command V K)) (replies : List Reply) (places : List Place) → RunKeepsInsertionOrder cmp key_of old commands replies new → Step cmp key_of new (call.Show c) (items places) new
      → (insertion_order : List Place) → KeepsInsertionOrder cmp key_of old c insertion_order → AreOrderly cmp key_of old c commands replies insertion_order → IsInOrderOf cmp key_of new (insertion_order_over c commands replies insertion_order) places
  represented_in_order old new c commands replies places keeps step insertion_order stands orderly =
      let after = keeps c insertion_order stands orderly in
      subst (IsInOrderOf cmp key_of new (insertion_order_over c commands replies insertion_order)) (sym (represented_members new c places step after.0 after.1)) after.2
