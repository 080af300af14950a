-- The facts in this file help callers to know the objects at the members of a sequence. They are about an object that is put at a
-- place or removed from it, and about an edit of the sequence.
use Rattle.std.proofs.Common.{◌≡◌, ◌≢◌, ◌⊎◌, inl, inr, Option, Some, None, IsSome, is_some, List, [], ◌∷◌, ◌++◌, drop, length, ◌≤◌, arith, refl, sym, ap, ◌∙◌, subst, true≢false, append-nil}
use Rattle.std.proofs.lemmas.List.Elements.{filter_map-append}
use Rattle.std.specs.List.{AllByRecursion, cons_option}
use Rattle.ic_link_ops.specs.Base.{Place, Objects, Places, object_at, IsAbsent, IsDistinct, first, ArePlaced, StandAt, values_at}
use Rattle.ic_unsafe_ref.proofs.Placing.{placed_there, others_placed}
use Rattle.ic_link_ops.proofs.SequenceLemmas.{first_is}
use Rattle.ic_link_ops.proofs.Walks.{few_places}
use Rattle.ic_link_ops.proofs.Each.{all_with}

-- If the objects at all places except p stay, and p is no member of s, the objects at the members of s stay.
module _ {T : Type 0} (old new : Objects T) (p : Place) (same : (q : Place) → q ≢ p → object_at new q ≡ object_at old q) where
  pub all_beside : (P : Option T → Type 0) (s : List Place) → IsAbsent p s → AllByRecursion (λ q. P (object_at old q)) s → AllByRecursion (λ q. P (object_at new q)) s
  all_beside P [] out h = tt
  all_beside P (x ∷ s) out h = (subst P (sym (same x (λ e. out.0 (sym e)))) h.0, all_beside P s out.1 h.1)

  pub values_beside : (s : List Place) → IsAbsent p s → values_at new s ≡ values_at old s
  values_beside [] out = refl
  values_beside (x ∷ s) out = let here = same x (λ e. out.0 (sym e)) in let rest = values_beside s out.1 in rw (here, rest) refl

  pub stand_beside : {s : List Place} {values : List T} → IsAbsent p s → StandAt old s values → StandAt new s values
  stand_beside {s} out stand = record { placed = all_beside IsSome s out stand.placed; are = values_beside s out ∙ stand.are }

module _ {T : Type 0} (objects : Objects T) (p : Place) where
  -- A place without an object is no member of a sequence whose members all have objects.
  pub vacant_absent : object_at objects p ≡ None → (s : List Place) → ArePlaced objects s → IsAbsent p s
  vacant_absent none [] placed = tt
  vacant_absent none (x ∷ s) placed =
      (λ e. true≢false (sym placed.0 ∙ ap (λ q. is_some (object_at objects q)) (sym e) ∙ ap is_some none), vacant_absent none s placed.1)

  -- If each member of a sequence has an object, the first member has an object.
  pub placed_first : (s : List Place) → Some p ≡ first s → ArePlaced objects s → IsSome (object_at objects p)
  placed_first s is placed = (subst (ArePlaced objects) (first_is s is) placed).0

  module _ {v : T} (there : object_at objects p ≡ Some v) where
    -- If p is inserted at a gap of the sequence, the object at p is inserted at the corresponding gap of the list of objects.
    pub stand_put : (front back : List Place) → ArePlaced objects (front ++ back) → StandAt objects (front ++ p ∷ back) (values_at objects front ++ v ∷ values_at objects back)
    stand_put front back placed = record {
      placed = all_with (λ q. IsSome (object_at objects q)) front p back (ap is_some there) placed;
      are = filter_map-append (object_at objects) front (p ∷ back) ∙ ap (λ (o : Option T). values_at objects front ++ cons_option o (values_at objects back)) there;
    }

    pub stand_last : {s : List Place} {values : List T} → StandAt objects s values → StandAt objects (s ++ p ∷ []) (values ++ v ∷ [])
    stand_last {s} stand = record {
      placed = all_with (λ q. IsSome (object_at objects q)) s p [] (ap is_some there) (subst (ArePlaced objects) (sym (append-nil s)) stand.placed);
      are = filter_map-append (object_at objects) s (p ∷ []) ∙ rw (there, stand.are) refl;
    }

    -- The object at the first member of the sequence is the first of the values. The values after the first are the objects at
    -- the members after the first.
    module _ {s : List Place} {values : List T} (is : Some p ≡ first s) (stand : StandAt objects s values) where
      begins : values ≡ v ∷ values_at objects (drop 1 s)
      begins = sym stand.are ∙ ap (values_at objects) (first_is s is) ∙ ap (λ (o : Option T). cons_option o (values_at objects (drop 1 s))) there

      pub stand_first : values ≡ v ∷ drop 1 values
      stand_first = begins ∙ ap (λ (l : List T). v ∷ drop 1 l) (sym begins)

      pub stand_rest : StandAt objects (drop 1 s) (drop 1 values)
      stand_rest = record { placed = (subst (ArePlaced objects) (first_is s is) stand.placed).1; are = ap (drop 1) (sym begins) }

-- If a statement is true for each object, it is true for each value at the members of any sequence.
pub from_each : {T : Type 0} (P : T → Type 0) (objects : Objects T) → ((p : Place) (value : T) → object_at objects p ≡ Some value → P value) → (s : List Place) → AllByRecursion P (values_at objects s)
from_each P objects each [] = tt
from_each {T} P objects each (p ∷ s) = by (object_at objects p) refl (from_each P objects each s) where
  by : (o : Option T) → object_at objects p ≡ o → AllByRecursion P (values_at objects s) → AllByRecursion P (cons_option o (values_at objects s))
  by None e rest = rest
  by (Some value) e rest = (each p value e, rest)

-- Let `from_box` put a new object at p, and let p be inserted as the last member after s. The new object is then the last value,
-- and the values at the members of s are as before.
pub stand_placed : {T : Type 0} {old new : Objects T} {p : Place} {v : T} → Places old new p v → {s : List Place} {values : List T} → StandAt old s values
    → StandAt new (s ++ p ∷ []) (values ++ v ∷ [])
stand_placed {old = old} {new} {p} places {s} stand =
    stand_last new p (placed_there places) (stand_beside old new p (others_placed places) (vacant_absent old p places.vacant s stand.placed) stand)

-- The first of the values is `value`, and it is the object at the first member `place`.
pub record Begins {T : Type 0} (objects : Objects T) (s : List Place) (values : List T) : Type 0 where
  pub place : Place
  pub value : T
  pub first : Some place ≡ first s
  pub there : object_at objects place ≡ Some value
  pub begin : values ≡ value ∷ drop 1 values

-- Either there is no value, or the first of the values is the object at the first member of s.
pub stand_begins : {T : Type 0} {objects : Objects T} (s : List Place) {values : List T} → StandAt objects s values → (values ≡ []) ⊎ Begins objects s values
stand_begins [] stand = inl (sym stand.are)
stand_begins {T} {objects} (p ∷ s) {values} stand = by (object_at objects p) refl stand.placed.0 where
  by : (o : Option T) → object_at objects p ≡ o → IsSome o → (values ≡ []) ⊎ Begins objects (p ∷ s) values
  by None e here = absurd (true≢false (sym here))
  by (Some v) e here = inr (record { place = p; value = v; first = refl; there = e; begin = stand_first objects p e refl stand })

-- At distinct members there are at most 8589934591 values, because there are only so many places.
pub few_values : {T : Type 0} {objects : Objects T} {s : List Place} {values : List T} → StandAt objects s values → IsDistinct s → length values ≤ 8589934591
few_values {T} {objects} {s} {values} stand distinct = omega (arith, ap length stand.are, fewer s, few_places s distinct) where
  fewer : (s : List Place) → length (values_at objects s) ≤ length s
  fewer [] = omega arith
  fewer (x ∷ s) = by (object_at objects x) (fewer s) where
    by : (o : Option T) → length (values_at objects s) ≤ length s → length (cons_option o (values_at objects s)) ≤ length (x ∷ s)
    by None rest = omega (arith, rest)
    by (Some v) rest = omega (arith, rest)
