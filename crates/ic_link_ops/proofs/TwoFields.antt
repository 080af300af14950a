-- The facts in this file help callers whose objects are each linked in exactly one of two fields. They say that this is still
-- true after each kind of step.
use Rattle.std.proofs.Common.{◌≡◌, Bool, true, false, not, Some, None, is_some, refl, sym, ap, ◌∙◌, true≢false}
use Rattle.ic_link_ops.specs.Base.{Place, Objects, Places, Frees, object_at, is_placed, Table, IsLinked, IsUnlinked, LinksAlso, Unlinks}
use Rattle.ic_unsafe_ref.proofs.Placing.{placed_there, others_placed, gone_there, others_left}
use Rattle.ic_link_ops.specs.TwoFields.{IsOnce, IsLinkedOnce}
use Rattle.ic_link_ops.proofs.LinkedSets.{everywhere}

same_once : {o o' a a' b b' : Bool} → o ≡ o' → a ≡ a' → b ≡ b' → IsOnce o' a' b' → IsOnce o a b
same_once e f g h = rw (e, f, g) h

second_off : (o a b : Bool) → a ≡ true → IsOnce o a b → b ≡ false
second_off o a false is h = refl
second_off true a true is h = absurd (true≢false (sym is ∙ h))
second_off false a true is h = h.1

first_off : (o a b : Bool) → b ≡ true → IsOnce o a b → a ≡ false
first_off true a b is h = h ∙ ap not is
first_off false a b is h = h.0

module _ {E F T : Type 0} {linked_a : E → Bool} {linked_b : F → Bool} {old : Objects T} {a : Table E} {b : Table F} (once : IsLinkedOnce linked_a linked_b old a b) where
  -- A place that is linked in one field is not linked in the other field.
  pub unlinked_second : (p : Place) → IsLinked linked_a a p → IsUnlinked linked_b b p
  unlinked_second p is = second_off (is_placed old p) (linked_a (a.entry p)) (linked_b (b.entry p)) is (once.each p)

  pub unlinked_first : (p : Place) → IsLinked linked_b b p → IsUnlinked linked_a a p
  unlinked_first p is = first_off (is_placed old p) (linked_a (a.entry p)) (linked_b (b.entry p)) is (once.each p)

  -- A place without an object is linked in neither field.
  pub unlinked_vacant : (p : Place) → object_at old p ≡ None → IsUnlinked linked_a a p × IsUnlinked linked_b b p
  unlinked_vacant p none = same_once (sym (ap is_some none)) refl refl (once.each p)

  -- After `cover` of both tables each object is still linked in exactly one field.
  pub once_covered : {c : Table E} {d : Table F} → ((q : Place) → c.entry q ≡ a.entry q) → ((q : Place) → d.entry q ≡ b.entry q) → IsLinkedOnce linked_a linked_b old c d
  once_covered stays_a stays_b = record { each = λ q. same_once refl (ap linked_a (stays_a q)) (ap linked_b (stays_b q)) (once.each q) }

  -- After a new object is put at a place and linked in the first field, each object is linked in exactly one field.
  pub once_placed : {new : Objects T} {c : Table E} {p : Place} {v : T} → Places old new p v → LinksAlso linked_a a c p → IsLinkedOnce linked_a linked_b new c b
  once_placed {new} {c} {p} places also = record {
    each = λ q. everywhere (λ q. IsOnce (is_placed new q) (linked_a (c.entry q)) (linked_b (b.entry q))) p q
        (same_once (ap is_some (placed_there places)) also.is (unlinked_vacant p places.vacant).1 refl)
        (λ n. same_once (ap is_some (others_placed places q n)) (also.others q n) refl (once.each q));
  }

  -- After an object is unlinked in the first field and linked in the second one, each object is still linked in exactly one
  -- field.
  pub once_moved : {c : Table E} {d : Table F} {p : Place} {v : T} → object_at old p ≡ Some v → Unlinks linked_a a c p → LinksAlso linked_b b d p → IsLinkedOnce linked_a linked_b old c d
  once_moved {c} {d} {p} there off also = record {
    each = λ q. everywhere (λ q. IsOnce (is_placed old q) (linked_a (c.entry q)) (linked_b (d.entry q))) p q
        (same_once (ap is_some there) off.is also.is refl) (λ n. same_once refl (off.others q n) (also.others q n) (once.each q));
  }

  -- After an object is unlinked in the second field and removed from its place, each other object is still linked in exactly one
  -- field.
  pub once_taken : {new : Objects T} {d : Table F} {p : Place} → Frees old new p → Unlinks linked_b b d p → IsLinkedOnce linked_a linked_b new a d
  once_taken {new} {d} {p} frees off = record {
    each = λ q. everywhere (λ q. IsOnce (is_placed new q) (linked_a (a.entry q)) (linked_b (d.entry q))) p q
        (same_once (ap is_some (gone_there frees)) (unlinked_first p off.was) off.is (refl, refl))
        (λ n. same_once (ap is_some (others_left frees q n)) refl (off.others q n) (once.each q));
  }
