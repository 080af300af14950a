-- A call that reads a range or the position of a cursor is a step of the model that changes nothing.
use Rattle.std.proofs.Common.{◌≡◌, ℕ, Bool, true, List, Option, refl, sym, ap, ◌∙◌, subst, Ordering}
use Rattle.ic_link_ops.specs.Prelude.{Place, Objects, Table}
use Rattle.ic_rbtree.specs.declared.keys.key_adapter.Bound.{Bound}
use Rattle.ic_rbtree.specs.Ranges.{runs_up, IsRange}
use Rattle.ic_any_collection.specs.declared.entry.Entry.{Entry}
use Rattle.ic_any_collection.specs.declared.kind.Kind.{Kind}
use Rattle.ic_any_collection.specs.declared.any_collection.AnyCollection.{AnyCollection}
use Rattle.ic_any_collection.specs.AnyCollection.{kind_in, cursor_in, members_in, is_tree}
use Rattle.ic_world.specs.Looks.{WithinBound}
use Rattle.ic_world.specs.declared.collection.Collection.{Collection}
use Rattle.ic_world.specs.declared.call.Command.TheVariants.{Range, Current}
use Rattle.ic_world.specs.Prelude.{Family, objects_of, Step, family_of}
use Rattle.ic_world.specs.Calls.{State, range, object_or_nothing, bound_at}
use Rattle.ic_world.specs.Seen.{Sees}
use Rattle.ic_world.proofs.Steps.{step_accepted}

-- if the test whether k is the tree has the result `answer`, and k is `kind`, then `is_tree kind` is `answer`
pub kind_tested : {k kind : Kind} {b answer : Bool} → k ≡ kind → b ≡ is_tree k → b ≡ answer → is_tree kind ≡ answer
kind_tested e is tested = ap is_tree (sym e) ∙ sym is ∙ tested

module _ {A V K : Type 0} (cmp : K → K → Ordering) (key_of : A → V → K) (min max : Bound K) (places : List Place) (first second : ℕ) where
  -- `places` are the members of s between the two bounds. The numbers of looks, `first` and `second`, are within the limits for the bounds
  abbrev Ranges : Family A V → List Place → Type 0
  Ranges w s = IsRange (bound_at cmp (key_of w.adapter) (objects_of w) min) (bound_at cmp (key_of w.adapter) (objects_of w) max) (runs_up cmp (key_of w.adapter) (objects_of w)) s places
      × WithinBound min first s × WithinBound max second s

  step_ranged : {t : Table Entry} {m : AnyCollection V} (w : Family A V) (c : ℕ) → Sees w c t m → is_tree (kind_in m) ≡ true → Ranges w (members_in t m) → Step cmp key_of w (Range c min max) (range places first second) w
  step_ranged {t} {m} w c sees tree replies =
      let kind = ap (λ (s : State). s.kind) sees.state in
      let members = ap (λ (s : State). s.members) sees.state in
      step_accepted cmp key_of w (Range c min max) (range places first second) w (rw (sees.is, kind, tree) refl) (sees.s, sees.is, subst (Ranges w) (sym members) replies, refl)

  pub ranged : {t : Table Entry} {m : AnyCollection V} (adapter : A) (objects : Objects V) (ts : List (Table Entry)) (cs : List (Option (Collection V))) {w : Family A V} (c : ℕ) → family_of adapter objects ts cs ≡ w
      → Sees w c t m → is_tree (kind_in m) ≡ true
      → IsRange (bound_at cmp (key_of adapter) objects min) (bound_at cmp (key_of adapter) objects max) (runs_up cmp (key_of adapter) objects) (members_in t m) places
      → WithinBound min first (members_in t m) × WithinBound max second (members_in t m) → Step cmp key_of w (Range c min max) (range places first second) w
  ranged {t} {m} adapter objects ts cs {w} c view sees tree is looks = step_ranged w c sees tree (subst (λ v. Ranges v (members_in t m)) view (is, looks.0, looks.1))

-- `current` RETURNS THE MEMBER that the cursor of the collection is on, and this is a step of the model
pub current_read : {A V K : Type 0} (cmp : K → K → Ordering) (key_of : A → V → K) (w : Family A V) (c : ℕ) {t : Table Entry} {m : AnyCollection V} → Sees w c t m
    → Step cmp key_of w (Current c) (object_or_nothing (cursor_in m)) w
current_read cmp key_of w c {m = m} sees =
    step_accepted cmp key_of w (Current c) (object_or_nothing (cursor_in m)) w (rw sees.is refl)
    (sees.s, sees.is, ap object_or_nothing (sym (ap (λ (s : State). s.cursor) sees.state)), refl)
