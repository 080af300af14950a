-- These lemmas are about the values of a list after one place was added or removed, or has moved.
use Rattle.std.proofs.Common.{◌≡◌, ◌≢◌, ℕ, Option, Some, List, [], ◌∷◌, ◌++◌, refl, sym, ap, ◌∙◌, subst, Bool, true, false, is_some, IsSome, None, length, ◌≤◌, arith, length-append, true≢false, inl, inr}
use Rattle.std.proofs.lemmas.List.Elements.{filter_map-append}
use Rattle.std.specs.List.{cons_option}
use Rattle.ic_link_ops.specs.Prelude.{Place, Objects, object_at, is_placed, last, IsAbsent, IsMember, IsDistinct, object_there, ArePlaced, values_at}
use Rattle.ic_link_ops.proofs.Prelude.{same_or_not, values_beside, absent_with, distinct_middle, member_split, none_not, some_same}
use Rattle.ic_container.specs.NumberedLists.{NumberedLists, Adds, Leaves, Moves}
use Rattle.ic_container.specs.Values.{last_value, Without}

module _ {T : Type 0} (objects new : Objects T) {p : Place} (same : (q : Place) → q ≢ p → object_at new q ≡ object_at objects q) where
  -- after a place was added at the front of a list, its value comes before the values that the list had
  pub values_front : {k : ℕ} {back : List Place} {old after : NumberedLists} {v : T} → object_at new p ≡ Some v → Adds k [] p back old after → IsAbsent p (old k) → values_at new (after k) ≡ v ∷ values_at objects (old k)
  values_front {k} {back} {old} {after} {v} there j out =
      ap (values_at new) (j.is ∙ ap (λ (l : List Place). p ∷ l) (sym j.was)) ∙ ap (λ (o : Option T). cons_option o (values_at new (old k))) there
      ∙ ap (λ (l : List T). v ∷ l) (values_beside objects new p same (old k) out)

  module _ {out : T} (was : object_at objects p ≡ Some out) where
    values_cut : (s front back : List Place) → s ≡ front ++ p ∷ back → values_at objects s ≡ values_at objects front ++ out ∷ values_at objects back
    values_cut s front back is =
        ap (values_at objects) is ∙ filter_map-append (object_at objects) front (p ∷ back) ∙ ap (λ (o : Option T). values_at objects front ++ cons_option o (values_at objects back)) was

    -- the value of a member is one of the values of the sequence
    pub value_cut : (s front back : List Place) → s ≡ front ++ p ∷ back → (rest : List T) × Without out (values_at objects s) rest
    value_cut s front back is =
        (values_at objects front ++ values_at objects back, record { front = values_at objects front; back = values_at objects back; was = values_cut s front back is; is = refl })

    -- after a place was removed from a list, its value is removed from the values
    pub values_left : {k : ℕ} {front back : List Place} {old after : NumberedLists} → IsDistinct (old k) → Leaves k front p back old after → Without out (values_at objects (old k)) (values_at new (after k))
    values_left {k} {front} {back} {old} distinct j = record {
      front = values_at objects front;
      back = values_at objects back;
      was = values_cut (old k) front back j.was;
      is = ap (values_at new) j.is ∙ values_beside objects new p same (front ++ back) (distinct_middle front back p (subst IsDistinct j.was distinct)) ∙ filter_map-append (object_at objects) front back;
    }

    -- after a place has moved to the front of a list, its value, or another value in its place, comes before the other values
    pub values_moved : {k : ℕ} {front back following : List Place} {old after : NumberedLists} {v : T} → IsDistinct (old k) → object_at new p ≡ Some v → Moves k front p back [] following old after
        → (rest : List T) × Without out (values_at objects (old k)) rest × (values_at new (after k) ≡ v ∷ rest)
    values_moved {k} {front} {back} {following} {old} {v = v} distinct there j = (
      values_at objects (front ++ back),
      record { front = values_at objects front; back = values_at objects back; was = values_cut (old k) front back j.was; is = filter_map-append (object_at objects) front back },
      ap (values_at new) (j.is ∙ ap (λ (l : List Place). p ∷ l) (sym j.rest)) ∙ ap (λ (o : Option T). cons_option o (values_at new (front ++ back))) there
          ∙ ap (λ (l : List T). v ∷ l) (values_beside objects new p same (front ++ back) (distinct_middle front back p (subst IsDistinct j.was distinct))),
    )

module _ {T : Type 0} (objects : Objects T) where
  -- if each member of a sequence has an object, there are as many values as members
  pub as_many : (s : List Place) → ArePlaced objects s → length (values_at objects s) ≡ length s
  as_many [] placed = refl
  as_many (x ∷ s) placed = by (object_at objects x) placed.0 (as_many s placed.1) where
    by : (o : Option T) → IsSome o → length (values_at objects s) ≡ length s → length (cons_option o (values_at objects s)) ≡ length (x ∷ s)
    by None h rest = absurd (true≢false (sym h))
    by (Some v) h rest = omega (arith, rest)

  -- if an object is stored at the place p, some value is at the place p
  pub there_is : (p : Place) → is_placed objects p ≡ true → (value : T) × (object_at objects p ≡ Some value)
  there_is p is = by (object_at objects p) refl is where
    by : (o : Option T) → object_at objects p ≡ o → is_some o ≡ true → (value : T) × (object_at objects p ≡ Some value)
    by None e h = absurd (true≢false (sym h))
    by (Some value) e h = (value, e)

  -- if each member of a sequence has an object, the member q has one
  pub member_placed : (s : List Place) → ArePlaced objects s → (q : Place) → IsMember q s → is_placed objects q ≡ true
  member_placed s placed q member = by (is_placed objects q) refl where
    out : is_placed objects q ≡ false → (s : List Place) → ArePlaced objects s → IsAbsent q s
    out gone [] placed = tt
    out gone (x ∷ s) placed = (λ e. true≢false (sym placed.0 ∙ ap (is_placed objects) (sym e) ∙ gone), out gone s placed.1)

    by : (b : Bool) → is_placed objects q ≡ b → b ≡ true
    by true e = refl
    by false e = absurd (member (out e s placed))

  -- the object at the last member of a sequence is the last of its values
  pub last_is : (s : List Place) → ArePlaced objects s → object_there objects (last s) ≡ last_value (values_at objects s)
  last_is [] placed = refl
  last_is (x ∷ []) placed = by (object_at objects x) where
    by : (o : Option T) → o ≡ last_value (cons_option o [])
    by None = refl
    by (Some v) = refl
  last_is (x ∷ y ∷ s) placed = last_is (y ∷ s) placed.1 ∙ by (object_at objects x) (object_at objects y) placed.1.0 where
    by : (o r : Option T) → IsSome r → last_value (cons_option r (values_at objects s)) ≡ last_value (cons_option o (cons_option r (values_at objects s)))
    by o None h = absurd (true≢false (sym h))
    by None (Some v) h = refl
    by (Some u) (Some v) h = refl

  -- if each member of a sequence has an object, the last member has one
  pub last_placed : {p : Place} (s : List Place) → last s ≡ Some p → ArePlaced objects s → is_placed objects p ≡ true
  last_placed {p} [] e placed = absurd (none_not p e)
  last_placed (x ∷ []) e placed = ap (is_placed objects) (sym (some_same e)) ∙ placed.0
  last_placed (x ∷ y ∷ s) e placed = last_placed (y ∷ s) e placed.1

-- a sequence s has at most as many members as a sequence t, if no place is in s twice, and all members of s are in t
pub no_more : (s t : List Place) → IsDistinct s → ((q : Place) → IsMember q s → IsMember q t) → length s ≤ length t
no_more [] t distinct among = omega arith
no_more (x ∷ s) t distinct among =
    let at = member_split x t (among x (λ out. out.0 refl)) in
    let rest = no_more s (at.0 ++ at.1) distinct.1 (λ q member out. elim (same_or_not q x) [
      | inl e ↦ member (subst (λ (z : Place). IsAbsent z s) (sym e) distinct.0)
      | inr other ↦ among q (λ absent. member absent.1) (subst (IsAbsent q) (sym at.2) (absent_with at.0 at.1 x q other out))
    ]) in
    omega (arith, rest, ap length at.2, length-append at.0 at.1, length-append at.0 (x ∷ at.1))
