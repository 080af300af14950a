-- A caller needs these lemmas: an order of values gives an order of places, and members in the order of their keys are in the order of places.
use Rattle.std.proofs.Common.{◌≡◌, Option, Some, None, List, [], ◌∷◌, map, refl, Ordering, Less, Equal}
use Rattle.std.specs.Cmp.{IsTotalOrder}
use Rattle.std.specs.Ordering.{ordering_reverse}
use Rattle.ic_link_ops.specs.Prelude.{Place, Objects, object_at, ArePlaced, values_at}
use Rattle.ic_rbtree.specs.Borders.{IsSorted}
use Rattle.ic_rbtree.proofs.KeyLaws.{keys_more, value_there}
use Rattle.ic_tree_merges.specs.Merges.{compared_values, compared_at}

module _ {V : Type 0} {order : V → V → Ordering} (total : IsTotalOrder order) where
  values_turn : (a b : Option V) → compared_values order a b ≡ ordering_reverse (compared_values order b a)
  values_turn None None = refl
  values_turn None (Some b) = refl
  values_turn (Some a) None = refl
  values_turn (Some a) (Some b) = total.antisymm a b

  values_chain : (a b c : Option V) → compared_values order a b ≡ Less → compared_values order b c ≡ Less → compared_values order a c ≡ Less
  values_chain None None c e f = cc
  values_chain None (Some b) None e f = cc
  values_chain None (Some b) (Some c) e f = refl
  values_chain (Some a) None c e f = cc
  values_chain (Some a) (Some b) None e f = cc
  values_chain (Some a) (Some b) (Some c) e f = total.trans a b c e f

  values_alike : (a b c : Option V) → compared_values order a b ≡ Equal → compared_values order a c ≡ compared_values order b c
  values_alike None None c e = refl
  values_alike None (Some b) c e = cc
  values_alike (Some a) None c e = cc
  values_alike (Some a) (Some b) None e = refl
  values_alike (Some a) (Some b) (Some c) e = total.congr a b c e

  -- THE ORDER OF PLACES is a total order, if the order of values is one
  pub places_total : (objects : Objects V) → IsTotalOrder (compared_at order objects)
  places_total objects = record {
    antisymm = λ p q. values_turn (object_at objects p) (object_at objects q);
    trans = λ p q r e f. values_chain (object_at objects p) (object_at objects q) (object_at objects r) e f;
    congr = λ p q r e. values_alike (object_at objects p) (object_at objects q) (object_at objects r) e;
  }

module _ {V K : Type 0} {cmp : K → K → Ordering} (total : IsTotalOrder cmp) (key_of : V → K) (objects : Objects V) where
  by_key : V → V → Ordering
  by_key a b = cmp (key_of a) (key_of b)

  -- IF MEMBERS ARE IN THE ORDER OF THEIR KEYS, they are in the order of places
  pub keyed_sorted : (s : List Place) → ArePlaced objects s → IsSorted cmp (map key_of (values_at objects s)) → IsSorted (compared_at (λ a b. cmp (key_of a) (key_of b)) objects) s
  keyed_sorted [] h k = tt
  keyed_sorted (p ∷ []) h k = tt
  keyed_sorted (p ∷ q ∷ s) h k =
      let v = value_there total key_of objects (object_at objects p) h.0 in
      let w = value_there total key_of objects (object_at objects q) h.1.0 in
      let more = keys_more total key_of objects p (q ∷ s) v.1 in
      let rest = keys_more total key_of objects q s w.1 in
      let two : IsSorted cmp (key_of v.0 ∷ key_of w.0 ∷ map key_of (values_at objects s)) = rw rest at (rw more at k) in
      (rw (v.1, w.1) two.0, keyed_sorted (q ∷ s) h.1 (rw rest two.1))

  -- if members are in the order of places, they are in the order of their keys
  pub sorted_keys : (s : List Place) → ArePlaced objects s → IsSorted (compared_at (λ a b. cmp (key_of a) (key_of b)) objects) s → IsSorted cmp (map key_of (values_at objects s))
  sorted_keys [] h k = tt
  sorted_keys (p ∷ []) h k = let v = value_there total key_of objects (object_at objects p) h.0 in rw (keys_more total key_of objects p [] v.1) tt
  sorted_keys (p ∷ q ∷ s) h k =
      let v = value_there total key_of objects (object_at objects p) h.0 in
      let w = value_there total key_of objects (object_at objects q) h.1.0 in
      let rest = keys_more total key_of objects q s w.1 in
      let on : IsSorted cmp (key_of w.0 ∷ map key_of (values_at objects s)) = rw rest at (sorted_keys (q ∷ s) h.1 k.1) in
      rw (keys_more total key_of objects p (q ∷ s) v.1) (rw rest (rw (v.1, w.1) at k.0, on))
