-- The facts in this file help callers that keep several numbered collections in one table. The facts say what is true after each
-- kind of edit of one collection.
use Rattle.std.proofs.Common.{◌≡◌, ◌≢◌, ℕ, Bool, Option, Some, None, IsSome, List, [], ◌∷◌, ◌++◌, drop, inl, inr, refl, sym, ap, ◌∙◌, subst, true≢false}
use Rattle.std.proofs.lemmas.Bool.Decides.{eqb_tells}
use Rattle.std.specs.List.{AllByRecursion, cons_option}
use Rattle.ic_link_ops.specs.Base.{Place, Objects, Frees, object_at, IsAbsent, IsDisjoint, first, Table, IsUnlinked, ChangesOnlyIn, LinksAlso, Unlinks, ArePlaced, StandAt, values_at}
use Rattle.ic_unsafe_ref.proofs.Placing.{others_left}
use Rattle.ic_link_ops.specs.NumberedCollections.{with_at, IsNumbered, HasNumbered}
use Rattle.ic_link_ops.proofs.CollectionLaws.{IsKind, kept_represented, others_stay}
use Rattle.ic_link_ops.proofs.LinkedSets.{everywhere}
use Rattle.ic_link_ops.proofs.PlacedValues.{stand_beside, stand_last, stand_first, stand_rest}
use Rattle.ic_link_ops.proofs.SequenceLemmas.{absent_left, disjoint_cons, first_is, split_member}

-- The function `with_at f k x` has the value x at the number k (`at_number`), and the value of f at every other number
-- (`at_others`).
pub at_number : {X : Type 0} (f : ℕ → X) (k : ℕ) (x : X) → with_at f k x k ≡ x
at_number f k x = elim (eqb_tells k k) [ inl e ↦ rw e.0 refl | inr n ↦ absurd (n.1 refl) ]

pub at_others : {X : Type 0} (f : ℕ → X) (k : ℕ) (x : X) (i : ℕ) → i ≢ k → with_at f k x i ≡ f i
at_others f k x i other = elim (eqb_tells k i) [ inl e ↦ absurd (other (sym e.1)) | inr n ↦ rw n.0 refl ]

-- If the relation R holds for the new values x and y at the number k, and for the old values at every other number, R holds at
-- each number.
by_number : {X Y : Type 0} (R : ℕ → X → Y → Type 0) {f : ℕ → X} {g : ℕ → Y} {k : ℕ} {x : X} {y : Y} → R k x y → ((i : ℕ) → i ≢ k → R i (f i) (g i))
    → (i : ℕ) → R i (with_at f k x i) (with_at g k y i)
by_number R {k = k} {x} {y} here others i = elim (eqb_tells k i) [
  | inl e ↦ rw e.0 (subst (λ j. R j x y) e.1 here)
  | inr n ↦ rw n.0 (others i (λ e. n.1 (sym e)))
]

-- Let the statement P hold for each value of `with_at f k x`. If P of the new value x implies P of the old value `f k`, P holds
-- for each value of f.
before_at : {X : Type 0} (P : X → Type 0) (f : ℕ → X) (k : ℕ) (x : X) → (P x → P (f k)) → ((i : ℕ) → P (with_at f k x i)) → (i : ℕ) → P (f i)
before_at P f k x back all i = elim (eqb_tells k i) [
  | inl e ↦ subst (λ j. P (f j)) e.1 (back (subst P (at_number f k x) (all k)))
  | inr n ↦ subst P (at_others f k x i (λ e. n.1 (sym e))) (all i)
]

module _ {T : Type 0} (number : T → ℕ) where
  -- There is an object, and it belongs to the collection with the number i.
  IsOf : ℕ → Option T → Type 0
  IsOf i None = ⊥
  IsOf i (Some v) = number v ≡ i

  -- An object belongs to only one collection.
  one_number : {i j : ℕ} (o : Option T) → IsOf i o → IsOf j o → i ≡ j
  unfolding IsOf
  one_number None h k = absurd h
  one_number (Some v) h k = sym h ∙ k

  one_of : (i : ℕ) (l : List T) (o : Option T) → IsSome o → AllByRecursion (λ v. number v ≡ i) (cons_option o l) → IsOf i o × AllByRecursion (λ v. number v ≡ i) l
  unfolding IsOf
  one_of i l None here own = absurd (true≢false (sym here))
  one_of i l (Some v) here own = own

  module _ (objects : Objects T) where
    all_of : (i : ℕ) (s : List Place) → ArePlaced objects s → AllByRecursion (λ v. number v ≡ i) (values_at objects s) → AllByRecursion (λ p. IsOf i (object_at objects p)) s
    unfolding IsOf
    all_of i [] placed own = tt
    all_of i (x ∷ s) placed own = let a = one_of i (values_at objects s) (object_at objects x) placed.0 own in (a.0, all_of i s placed.1 a.1)

    -- A member of the collection i is no member of the collection j, if i and j differ.
    elsewhere : {i j : ℕ} → i ≢ j → (x : Place) → IsOf i (object_at objects x) → (t : List Place) → AllByRecursion (λ p. IsOf j (object_at objects p)) t → IsAbsent x t
    elsewhere apart x is [] all = tt
    elsewhere {i} apart x is (y ∷ t) all = (λ e. apart (one_number (object_at objects y) (subst (λ z. IsOf i (object_at objects z)) e is) all.0), elsewhere apart x is t all.1)

    none_shared : {i j : ℕ} → i ≢ j → (s t : List Place) → AllByRecursion (λ p. IsOf i (object_at objects p)) s → AllByRecursion (λ p. IsOf j (object_at objects p)) t → IsDisjoint s t
    none_shared apart [] t all_s all_t = tt
    none_shared apart (x ∷ s) t all_s all_t = (elsewhere apart x all_s.0 t all_t, none_shared apart s t all_s.1 all_t)

module _ {E H T : Type 0} {Represents : Table E → H → List Place → Type 0} {linked : E → Bool} {empty : H} (kind : IsKind Represents linked empty) {number : T → ℕ} where
  -- A table without linked places has only empty collections, if each collection has the head of an empty one.
  pub numbered_none : {t : Table E} {heads : ℕ → H} (objects : Objects T) → ((i : ℕ) → heads i ≡ empty) → ((p : Place) → IsUnlinked linked t p)
      → HasNumbered Represents linked number t heads objects (λ i. [])
  numbered_none {t} objects none unlinked = record {
    members = λ i. [];
    each = λ i. record { shown = rw (none i) (kind.nothing t); stand = record { placed = tt; are = refl }; own = tt };
    only = λ p out. unlinked p;
  }

  module _ {old : Table E} {heads : ℕ → H} {objects : Objects T} {values : ℕ → List T} (has : HasNumbered Represents linked number old heads objects values) where
    -- Two collections with different numbers share no member.
    pub numbered_apart : (i j : ℕ) → i ≢ j → IsDisjoint (has.members i) (has.members j)
    numbered_apart i j apart = none_shared number objects apart (has.members i) (has.members j) (all i) (all j) where
      all : (i : ℕ) → AllByRecursion (λ p. IsOf number i (object_at objects p)) (has.members i)
      all i = let k = has.each i in all_of number objects i (has.members i) k.stand.placed (subst (AllByRecursion (λ v. number v ≡ i)) (sym k.stand.are) k.own)

    -- A place that is not linked is a member of no collection.
    pub numbered_free : {p : Place} → IsUnlinked linked old p → (i : ℕ) → IsAbsent p (has.members i)
    numbered_free {p} off i = kind.free old (heads i) (has.members i) p (has.each i).shown off

    -- After `cover`, accepted or refused, each collection has the same members as before, because no entry changed.
    pub numbered_covered : {new : Table E} → ((q : Place) → new.entry q ≡ old.entry q) → HasNumbered Represents linked number new heads objects values
    numbered_covered stays = record {
      members = has.members;
      each = λ i. let k = has.each i in record { shown = kept_represented kind stays k.shown; stand = k.stand; own = k.own };
      only = λ p out. ap linked (stays p) ∙ has.only p out;
    }

    -- After an object was put at the place p or removed from it, the collections have the same values as before, if p is unlinked
    -- in the table.
    pub numbered_beside : {new : Objects T} {p : Place} → IsUnlinked linked old p → ((q : Place) → q ≢ p → object_at new q ≡ object_at objects q)
        → HasNumbered Represents linked number old heads new values
    numbered_beside {new} {p} off same = record {
      members = has.members;
      each = λ i. let k = has.each i in record { shown = k.shown; stand = stand_beside objects new p same (numbered_free off i) k.stand; own = k.own };
      only = has.only;
    }

    -- After `push_back` of an object to the collection to which it belongs, the object is the last value of this collection.
    module _ {new : Table E} {after : ℕ → H} {p : Place} {v : T} (there : object_at objects p ≡ Some v) where
      pub numbered_pushed : ((s : List Place) → Represents old (heads (number v)) s → Represents new (after (number v)) (s ++ p ∷ [])) → ((i : ℕ) → i ≢ number v → after i ≡ heads i)
          → LinksAlso linked old new p → ((s : List Place) → Represents old (heads (number v)) s → ChangesOnlyIn old new (p ∷ s))
          → HasNumbered Represents linked number new after objects (with_at values (number v) (values (number v) ++ v ∷ []))
      numbered_pushed pushed others also frame = record {
        members = with_at has.members k (has.members k ++ p ∷ []);
        each = by_number (IsNumbered Represents linked number new after objects) here other;
        only = λ q. everywhere (λ q. ((i : ℕ) → IsAbsent q (with_at has.members k (has.members k ++ p ∷ []) i)) → IsUnlinked linked new q) p q
            (λ out. absurd (split_member (has.members k) p [] (subst (IsAbsent p) (at_number has.members k (has.members k ++ p ∷ [])) (out k))))
            (λ n out. also.others q n ∙ has.only q (before_at (IsAbsent q) has.members k (has.members k ++ p ∷ []) (absent_left q (has.members k) (p ∷ [])) out));
      } where
        k : ℕ
        k = number v

        here : IsNumbered Represents linked number new after objects (number v) (has.members (number v) ++ p ∷ []) (values (number v) ++ v ∷ [])
        here = let e = has.each (number v) in record { shown = pushed (has.members (number v)) e.shown; stand = stand_last objects p there e.stand; own = all_more (values (number v)) e.own } where
          all_more : (s : List T) → AllByRecursion (λ x. number x ≡ number v) s → AllByRecursion (λ x. number x ≡ number v) (s ++ v ∷ [])
          all_more [] all = (refl, tt)
          all_more (x ∷ s) all = (all.0, all_more s all.1)

        other : (i : ℕ) → i ≢ number v → IsNumbered Represents linked number new after objects i (has.members i) (values i)
        other i n =
            let e = has.each i in
            let apart = disjoint_cons p (has.members i) (has.members (number v)) (numbered_free also.was i) (numbered_apart i (number v) n) in
            record { shown = rw (others i n) (others_stay kind (p ∷ has.members (number v)) e.shown apart (frame (has.members (number v)) (has.each (number v)).shown)); stand = e.stand; own = e.own }

    -- After `pop_front` of the collection k and `into_box` of the removed object, the collection k has its old values without the
    -- first.
    module _ {k : ℕ} {p : Place} {v : T} (is : Some p ≡ first (has.members k)) (there : object_at objects p ≡ Some v) where
      -- The removed object is the first of the values of the collection k, and it belongs to k.
      pub numbered_first : values k ≡ v ∷ drop 1 (values k)
      numbered_first = stand_first objects p there is (has.each k).stand

      pub numbered_own : number v ≡ k
      numbered_own = (subst (AllByRecursion (λ x. number x ≡ k)) numbered_first (has.each k).own).0

      pub numbered_taken : {new : Table E} {after : ℕ → H} {left : Objects T} → ((s : List Place) → Represents old (heads k) s → Represents new (after k) (drop 1 s)) → ((i : ℕ) → i ≢ k → after i ≡ heads i)
          → Unlinks linked old new p → ((s : List Place) → Represents old (heads k) s → ChangesOnlyIn old new s) → Frees objects left p
          → HasNumbered Represents linked number new after left (with_at values k (drop 1 (values k)))
      numbered_taken {new} {after} {left} popped others off frame frees = record {
        members = with_at has.members k (drop 1 (has.members k));
        each = by_number (IsNumbered Represents linked number new after left) here other;
        only = λ q. everywhere (λ q. ((i : ℕ) → IsAbsent q (with_at has.members k (drop 1 (has.members k)) i)) → IsUnlinked linked new q) p q
            (λ out. off.is)
            (λ n out. off.others q n ∙ has.only q (before_at (IsAbsent q) has.members k (drop 1 (has.members k)) (λ rest. subst (IsAbsent q) (sym (first_is (has.members k) is)) (n, rest)) out));
      } where
        shown : Represents new (after k) (drop 1 (has.members k))
        shown = popped (has.members k) (has.each k).shown

        beside : {s : List Place} {l : List T} → IsAbsent p s → StandAt objects s l → StandAt left s l
        beside out stand = stand_beside objects left p (others_left frees) out stand

        here : IsNumbered Represents linked number new after left k (drop 1 (has.members k)) (drop 1 (values k))
        here = record {
          shown = shown;
          stand = beside (kind.free new (after k) (drop 1 (has.members k)) p shown off.is) (stand_rest objects p there is (has.each k).stand);
          own = (subst (AllByRecursion (λ x. number x ≡ k)) numbered_first (has.each k).own).1;
        }

        other : (i : ℕ) → i ≢ k → IsNumbered Represents linked number new after left i (has.members i) (values i)
        other i n =
            let e = has.each i in
            let still : Represents new (heads i) (has.members i) = others_stay kind (has.members k) e.shown (numbered_apart i k n) (frame (has.members k) (has.each k).shown) in
            record { shown = rw (others i n) still; stand = beside (kind.free new (heads i) (has.members i) p still off.is) e.stand; own = e.own }
