-- Lemmas about the members of a ring, as the entries lead from one to the next, and about a walk over the ring's objects.
use Rattle.std.proofs.Common.{◌≡◌, ◌≢◌, Option, Some, None, List, [], ◌∷◌, ◌++◌, true, false, Bor, refl, sym, ◌∙◌, ap, subst, append_assoc, eq-eqb, option_copied}
use Rattle.std.specs.List.{cons_option}
use Rattle.std.specs.Iterator.{MakesProgress, item_count}
use Rattle.std.proofs.lemmas.List.Elements.{filter_map-append}
use Rattle.ic_link_ops.specs.Prelude.{Place, Objects, object_at, first_or, last, but_last, Table, IsCovered, ArePlaced, values_at, is_end, GivesFirst, GivesLast}
use Rattle.ic_link_ops.specs.LinkedList.{Neighbors, IsBetween, IsWalk}
use Rattle.ic_link_ops.proofs.Prelude.{some_same, absent_right, distinct_right, first_or-append, last_or-append, split_last, chain_cut, all_but_last, is_end_not, yields_placed, makes_progress, yields_placed_back, makes_progress_back}
use Rattle.ic_link_ops.proofs.DoublyLists.{walk_represented}
use Rattle.ic_ring.specs.declared.iter.Iter.{Iter}
use Rattle.ic_ring.specs.Rings.{IsCircle, Represents, members_until, members}
use Rattle.ic_ring.specs.Iter.{objects_left, IsLeft, CanWalk}
use Rattle.ic_ring.proofs.Circles.{rotated, seen_from}

is_end_self : (p : Place) → is_end (Some p) p ≡ true
is_end_self p = eq-eqb _ _ refl

module _ {E : Type 0} {n : E → Neighbors} (t : Table E) (covered : (q : Place) → (n (t.entry q)).linked ≡ true → IsCovered t q) where
  -- the places from `front` on up to the place before `end` are w, if the ring read from `end` has the members `given` and then w
  pub until_represented : (end : Place) (given w : List Place) {front : Option Place} → IsCircle n t.entry (end ∷ (given ++ w)) → front ≡ first_or w (Some end)
      → members_until n t front end ≡ w
  until_represented end given [] {front} c starts = rw (starts, is_end_self end) refl
  until_represented end given (x ∷ w) {front} c starts =
      let other = absent_right end given (x ∷ w) c.distinct.0 in
      let goes : is_end (Some x) end ≡ false = is_end_not (Some x) end (λ e. other.0 (sym (some_same e))) in
      let ends : last (end ∷ (given ++ x ∷ w)) ≡ last (x ∷ w) = last_or-append None (end ∷ given) (x ∷ w) in
      let cut = chain_cut (IsBetween n) t.entry (last (end ∷ (given ++ x ∷ w))) (end ∷ given) (x ∷ w) (Some end) c.chain in
      let walk : IsWalk n t.entry (Some x) (last (x ∷ w)) (x ∷ w) = record {
        before = last (end ∷ given);
        after = Some end;
        part = record { distinct = distinct_right (end ∷ given) (x ∷ w) c.distinct; chain = cut.1; starts = refl; ends = refl };
      } in
      rw (starts, goes, c.chain.0.prev, ends) (walk_represented t covered (Some x) (last (x ∷ w)) (x ∷ w) walk)

  -- THE MEMBERS of a ring are the one sequence that the table represents for it
  pub members_represented : (head : Place) (s : List Place) → Represents n t head s → members n t head ≡ s
  members_represented head s shown = until_represented head [] s shown shown.chain.0.next

  pub one_ring_is_represented : (head : Place) (s u : List Place) → Represents n t head s → Represents n t head u → s ≡ u
  one_ring_is_represented head s u shown other = sym (members_represented head s shown) ∙ members_represented head u other

module _ {T L O E : Type 0} (n : E → Neighbors) (table : L → Table E) (values : O → Objects T) where
  -- A STEP of the walk from `old` to `new` returned the member p, and `members` remain. Before the step, p and then `members` were left
  pub record Steps (old new : Iter T L O) (p : Place) : Type 0 where
    pub members : List Place
    pub walk : IsLeft n table values new members
    pub whole : IsLeft n table values old (p ∷ members)
    pub placed : ArePlaced (values old.objects.now) (p ∷ members)
    pub objects : values new.objects.now ≡ values old.objects.now

  -- A STEP FROM THE BACK of the walk from `old` to `new` returned the member p, and `members` remain. Before the step, `members` and then p were left
  pub record StepsBack (old new : Iter T L O) (p : Place) : Type 0 where
    pub members : List Place
    pub walk : IsLeft n table values new members
    pub whole : IsLeft n table values old (members ++ p ∷ [])
    pub placed : ArePlaced (values old.objects.now) (members ++ p ∷ [])
    pub objects : values new.objects.now ≡ values old.objects.now

  -- the first remaining place of the walk, `front`, is in the ring
  pub front_stands : (t : Iter T L O) → CanWalk n table values t → (s : List Place) × IsCircle n (table t.links.now).entry (t.front ∷ s)
  front_stands t ([], left, placed) = rw (some_same left.starts) (left.given ++ [], left.ring)
  front_stands t (x ∷ w, left, placed) = rw (some_same left.starts) (w ++ t.end ∷ left.given, seen_from left.given x w left.ring)

  -- if the first remaining place is not the end of the walk, a step returns this place, and the walk goes on at the next place. `steps_back`: a step from the
  -- back moves the end of the walk to the previous place
  pub steps_on : (t : Iter T L O) (next : Place) → CanWalk n table values t → t.front ≢ t.end → (n ((table t.links.now).entry t.front)).next ≡ Some next
      → Steps t (record t { front = next }) t.front
  steps_on t next ([], left, placed) goes leads = absurd (goes (some_same left.starts))
  steps_on t next (x ∷ w, left, placed) goes leads =
      let e : t.front ≡ x = some_same left.starts in
      let seen = seen_from left.given x w left.ring in record {
        members = w;
        walk = record {
          given = left.given ++ x ∷ [];
          ring = rw (append_assoc left.given (x ∷ []) w) left.ring;
          starts = sym leads ∙ rw e (seen.chain.0.next ∙ first_or-append w (t.end ∷ left.given) (Some x));
        };
        whole = subst (λ p. IsLeft n table values t (p ∷ w)) (sym e) left;
        placed = subst (λ p. ArePlaced (values t.objects.now) (p ∷ w)) (sym e) placed;
        objects = refl;
      }

  pub steps_back : (t : Iter T L O) (prev : Place) → CanWalk n table values t → t.front ≢ t.end → (n ((table t.links.now).entry t.end)).prev ≡ Some prev
      → StepsBack t (record t { end = prev }) prev
  steps_back t prev ([], left, placed) goes leads = absurd (goes (some_same left.starts))
  steps_back t prev (x ∷ w, left, placed) goes leads =
      let r = but_last (x ∷ w) in
      let is : x ∷ w ≡ r ++ prev ∷ [] =
      split_last (x ∷ w) (sym (last_or-append None (t.end ∷ left.given) (x ∷ w)) ∙ sym left.ring.chain.0.prev ∙ leads) in
      let ring : IsCircle n (table t.links.now).entry ((t.end ∷ (left.given ++ r)) ++ prev ∷ []) =
      rw (append_assoc left.given r (prev ∷ [])) (subst (λ w. IsCircle n (table t.links.now).entry (t.end ∷ (left.given ++ w))) is left.ring) in record {
        members = r;
        walk = record {
          given = t.end ∷ left.given;
          ring = rotated (t.end ∷ (left.given ++ r)) (prev ∷ []) ring;
          starts = left.starts ∙ ap (λ w. first_or w (Some t.end)) is ∙ first_or-append r (prev ∷ []) (Some t.end);
        };
        whole = subst (IsLeft n table values t) is left;
        placed = subst (ArePlaced (values t.objects.now)) is placed;
        objects = refl;
      }

  -- after a step the walk can still be walked to its end
  pub can_walk : {old new : Iter T L O} {p : Place} → Steps old new p → CanWalk n table values new
  can_walk k = (k.members, k.walk, rw k.objects k.placed.1)

  pub can_walk_back : {old new : Iter T L O} {p : Place} → StepsBack old new p → CanWalk n table values new
  can_walk_back k = (k.members, k.walk, rw k.objects (all_but_last _ k.members _ k.placed).0)

  module _ (law : (t : L) (q : Place) → (n ((table t).entry q)).linked ≡ true → IsCovered (table t) q) where
    -- the objects that the walk has left are the objects at the members w, if the members w remain
    pub left_is : (t : Iter T L O) (w : List Place) → IsLeft n table values t w → objects_left n table values t ≡ values_at (values t.objects.now) w
    left_is t w k = ap (values_at (values t.objects.now)) (until_represented (table t.links.now) (law t.links.now) t.end k.given w k.ring k.starts)

    -- no objects are left, if the first remaining place is the end of the walk
    pub none_left : (t : Iter T L O) → CanWalk n table values t → t.front ≡ t.end → objects_left n table values t ≡ []
    none_left t ([], left, placed) e = left_is t [] left
    none_left t (x ∷ w, left, placed) e =
        absurd ((absent_right t.end left.given (x ∷ w) left.ring.distinct.0).0 (sym e ∙ some_same left.starts))

    -- if a step returns the object at its member p, this object is the first of the objects that were left
    pub gives : {old new : Iter T L O} {p : Place} (r : Option (Bor T)) → Steps old new p → option_copied r ≡ object_at (values old.objects.now) p
        → GivesFirst (objects_left n table values) old r new
    gives {old} {new} {p} r k is =
        yields_placed (objects_left n table values) old new r (object_at (values old.objects.now) p) k.placed.0 is
        (left_is old (p ∷ k.members) k.whole
        ∙ ap (cons_option (object_at (values old.objects.now) p)) (sym (left_is new k.members k.walk ∙ ap (λ o. values_at o k.members) k.objects)))

    -- after a step that returns the object at its member p, one object less is left, and the walk can still be walked to its end
    pub goes : {old new : Iter T L O} {p : Place} (r : Option (Bor T)) → Steps old new p → option_copied r ≡ object_at (values old.objects.now) p
        → MakesProgress (CanWalk n table values) (item_count (objects_left n table values)) old r new
    goes {old} {new} {p} r k is = makes_progress (objects_left n table values) (CanWalk n table values) old new r (can_walk k) (gives r k is)

    -- if a step from the back returns the object at its member p, this object is the last of the objects that were left
    pub gives_back : {old new : Iter T L O} {p : Place} (r : Option (Bor T)) → StepsBack old new p → option_copied r ≡ object_at (values old.objects.now) p
        → GivesLast (objects_left n table values) old r new
    gives_back {old} {new} {p} r k is =
        yields_placed_back (objects_left n table values) old new r (object_at (values old.objects.now) p) (all_but_last _ k.members p k.placed).1 is
        (left_is old (k.members ++ p ∷ []) k.whole
        ∙ filter_map-append (object_at (values old.objects.now)) k.members (p ∷ [])
        ∙ ap (λ (l : List T). l ++ cons_option (object_at (values old.objects.now) p) []) (sym (left_is new k.members k.walk ∙ ap (λ o. values_at o k.members) k.objects)))

    pub goes_back : {old new : Iter T L O} {p : Place} (r : Option (Bor T)) → StepsBack old new p → option_copied r ≡ object_at (values old.objects.now) p
        → MakesProgress (CanWalk n table values) (item_count (objects_left n table values)) old r new
    goes_back {old} {new} {p} r k is =
        makes_progress_back (objects_left n table values) (CanWalk n table values) old new r (can_walk_back k) (gives_back r k is)
