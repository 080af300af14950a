-- Lemmas about one step of a walk over a tree's objects, from either end.
use Rattle.std.proofs.Common.{◌≡◌, ◌≢◌, true, false, Option, Some, None, List, [], ◌∷◌, ◌++◌, Bor, refl, sym, ◌∙◌, ap, append-nil, append_assoc, drop, option_copied}
use Rattle.std.specs.List.{cons_option}
use Rattle.std.specs.Iterator.{MakesProgress, item_count}
use Rattle.std.proofs.lemmas.List.Elements.{filter_map-append}
use Rattle.ic_link_ops.specs.Prelude.{Place, Objects, object_at, Cut, join, IsAbsent, IsDistinct, IsAfter, IsBefore, first, last, last_or, but_last, Table, IsCovered, site, IsValidCursor, MovesOn, MovesBack, ArePlaced, values_at, is_end, GivesFirst, GivesLast}
use Rattle.ic_link_ops.specs.RedBlackTree.{Node, Represents}
use Rattle.ic_link_ops.proofs.Prelude.{first_is, none_not, some_same, last_not, last_some, last_or-append, last_of_push, split_last, absent_left, absent_right, distinct_left, distinct_right, is_end_no, yields_placed, makes_progress, yields_placed_back, makes_progress_back, is_end_not, stands_on, all_but_last}
use Rattle.ic_rbtree.specs.declared.iter.Iter.{Iter}
use Rattle.ic_rbtree.specs.Members.{up_to, between, IsWalk, members}
use Rattle.ic_rbtree.specs.Iter.{objects_left, CanWalk}
use Rattle.ic_rbtree.proofs.Members.{members_represented}
use Rattle.ic_rbtree.proofs.Climbed.{is_end_there}

-- IN A SEQUENCE OF DISTINCT MEMBERS, the members from the first of w to the last of w are exactly w
up_to_last : (x : Place) (w back : List Place) → IsDistinct (x ∷ w ++ back) → up_to (last_or (Some x) w) (x ∷ w ++ back) ≡ x ∷ w
up_to_last x [] back d = rw (is_end_there {p = x} refl) refl
up_to_last x (y ∷ w) back d =
    rw (is_end_not (last_or (Some y) w) x (last_not (Some y) w x (λ e. d.0.0 (sym (some_same e))) (absent_left x w back d.0.1)))
    (ap (λ (l : List Place). x ∷ l) (up_to_last y w back d.1))

pub none_between : (s : List Place) → between None None s ≡ []
none_between [] = refl
none_between (x ∷ s) = none_between s

first_off : (x : Place) (front w back : List Place) → IsAbsent x (front ++ (w ++ back)) → first w ≢ Some x
first_off x front [] back out e = none_not x e
first_off x front (y ∷ w) back out e = (absent_right x front (y ∷ w ++ back) out).0 (sym (some_same e))

pub between_ends : (front w back : List Place) → IsDistinct (front ++ (w ++ back)) → between (first w) (last w) (front ++ (w ++ back)) ≡ w
between_ends [] [] back d = none_between back
between_ends [] (x ∷ w) back d = rw (is_end_there {p = x} refl) (up_to_last x w back d)
between_ends (x ∷ front) w back d = rw (is_end_not (first w) x (first_off x front w back d.0)) (between_ends front w back d.1)

-- the members of a tree between the two ends of a walk are the members of the walk
pub walk_members : {E : Type 0} (n : E → Node) (t : Table E) → ((q : Place) → (n (t.entry q)).linked ≡ true → IsCovered t q)
    → {root head tail : Option Place} {w : List Place} → IsWalk n t root head tail w → between head tail (members n t root) ≡ w
walk_members n t law {root} {w = w} k =
    rw (k.starts, k.ends, members_represented t law root (k.front ++ (w ++ k.back)) k.shown) (between_ends k.front w k.back k.shown.held.distinct)

module _ {E : Type 0} {n : E → Node} {t : Table E} {root : Option Place} where
  -- a walk from the first to the last member of a tree goes through all members
  pub walk_all : {head tail : Option Place} (s : List Place) → Represents n t root s → head ≡ first s → tail ≡ last s → IsWalk n t root head tail s
  walk_all s shown starts ends = record { front = []; back = []; shown = rw (append-nil s) shown; starts = starts; ends = ends }

  -- if a walk has the members w, the walk without ends and without members is a walk of the same tree
  walk_none : {head tail : Option Place} {w : List Place} → IsWalk n t root head tail w → IsWalk n t root None None []
  walk_none {w = w} k = record { front = k.front ++ w; back = k.back; shown = rw (append_assoc k.front w k.back) k.shown; starts = refl; ends = refl }

  walk_empty : {tail : Option Place} {w : List Place} → IsWalk n t root None tail w → w ≡ []
  walk_empty {w = []} k = refl
  walk_empty {w = x ∷ w} k = absurd (none_not x k.starts)

  walk_empty_back : {head : Option Place} {w : List Place} → IsWalk n t root head None w → w ≡ []
  walk_empty_back {w = []} k = refl
  walk_empty_back {w = x ∷ w} k = absurd (last_some x w (sym k.ends))

  -- a walk whose first and last member are one member has only this member
  walk_last : {p : Place} {w : List Place} → IsWalk n t root (Some p) (Some p) w → w ≡ p ∷ []
  walk_last {p} {w} k = go w (distinct_left w k.back (distinct_right k.front (w ++ k.back) k.shown.held.distinct)) k.starts k.ends where
    go : (w : List Place) → IsDistinct w → Some p ≡ first w → Some p ≡ last w → w ≡ p ∷ []
    go [] d e l = absurd (none_not p (sym e))
    go (x ∷ []) d e l = ap (λ (q : Place). q ∷ []) (sym (some_same e))
    go (x ∷ y ∷ w) d e l = absurd (last_not (Some y) w x (λ h. d.0.0 (sym (some_same h))) d.0.1 (sym l ∙ e))

  -- if the first and the last member of a walk are different, a step on leaves all members but the first, and a step back leaves all but the last
  walk_more : {p : Place} {tail next : Option Place} {w : List Place} → IsWalk n t root (Some p) tail w → tail ≢ Some p
      → ((gap : Cut) → Represents n t root (join gap) → IsAfter gap (Some p) → IsBefore gap next)
      → (r : List Place) × (w ≡ p ∷ r) × IsWalk n t root next tail r
  walk_more {p} {w = []} k apart leads = absurd (none_not p (sym k.starts))
  walk_more {w = x ∷ []} k apart leads = absurd (apart (k.ends ∙ sym k.starts))
  walk_more {w = x ∷ y ∷ w} k apart leads =
      let shown : Represents n t root ((k.front ++ x ∷ []) ++ (y ∷ w ++ k.back)) = rw (append_assoc k.front (x ∷ []) (y ∷ w ++ k.back)) k.shown in (
        y ∷ w,
        ap (λ (q : Place). q ∷ y ∷ w) (sym (some_same k.starts)),
        record {
          front = k.front ++ x ∷ [];
          back = k.back;
          shown = shown;
          starts = leads (record { front = k.front ++ x ∷ []; back = y ∷ w ++ k.back }) shown (k.starts ∙ sym (last_of_push k.front x));
          ends = k.ends;
        },
      )

  walk_less : {p : Place} {head prev : Option Place} {w : List Place} → IsWalk n t root head (Some p) w → head ≢ Some p
      → ((gap : Cut) → Represents n t root (join gap) → IsBefore gap (Some p) → IsAfter gap prev)
      → (r : List Place) × (w ≡ r ++ p ∷ []) × IsWalk n t root head prev r
  walk_less {p} {w = []} k apart leads = absurd (none_not p (sym k.ends))
  walk_less {w = x ∷ []} k apart leads = absurd (apart (k.starts ∙ sym k.ends))
  walk_less {p} {w = x ∷ y ∷ w} k apart leads =
      let r = x ∷ but_last (y ∷ w) in
      let e : x ∷ y ∷ w ≡ r ++ p ∷ [] = split_last (x ∷ y ∷ w) (sym k.ends) in
      let shown : Represents n t root (k.front ++ (r ++ p ∷ k.back)) =
      rw (ap (λ (l : List Place). k.front ++ (l ++ k.back)) e ∙ ap (λ (l : List Place). k.front ++ l) (append_assoc r (p ∷ []) k.back)) at k.shown in
      let whole : Represents n t root ((k.front ++ r) ++ p ∷ k.back) = rw (append_assoc k.front r (p ∷ k.back)) shown in (
        r,
        e,
        record {
          front = k.front;
          back = p ∷ k.back;
          shown = shown;
          starts = k.starts;
          ends = leads (record { front = k.front ++ r; back = p ∷ k.back }) whole refl ∙ last_or-append None k.front r;
        },
      )

module _ {A L O V K E : Type 0} (n : E → Node) (table : L → Table E) (values : O → Objects V) where
  -- the members w remain for the walk, from its first to its last member, and each of them has an object
  abbrev Reaches : Iter A L O V K → List Place → Type 0
  Reaches t w = IsWalk n (table t.links.now) t.root t.head t.tail w × ArePlaced (values t.objects.now) w

  -- ONE CALL OF A WALK returns one of the members that remained. The members `others` remain after the call, and `with_it` adds the returned member to them
  pub record Steps (old new : Iter A L O V K) (with_it : List Place → List Place) : Type 0 where
    pub others : List Place
    pub reached : Reaches old (with_it others)
    pub reaches : Reaches new others
    pub objects : values new.objects.now ≡ values old.objects.now

  -- if only the member p remains, a call returns p, and the walk is at its end
  pub steps_last : (t : Iter A L O V K) (p : Place) (with_it : List Place → List Place) → with_it [] ≡ p ∷ [] → CanWalk n table values t
      → t.head ≡ Some p → t.tail ≡ Some p → Steps t (record t { head = None; tail = None }) with_it
  steps_last t p with_it is can at end =
      let k : IsWalk n (table t.links.now) t.root (Some p) (Some p) can.0 = rw (at, end) at can.1 in
      let e : can.0 ≡ with_it [] = walk_last k ∙ sym is in
      record { others = []; reached = (rw e at can.1, rw e at can.2); reaches = (walk_none can.1, tt); objects = refl }

  -- if more members remain than the first member p, a call returns p, and the walk goes on at the member to which a step on leads
  pub steps_more : (t : Iter A L O V K) (p : Place) (next : Option Place) → CanWalk n table values t → t.head ≡ Some p → is_end t.tail p ≡ false
      → MovesOn (Represents n) table (site t.links.now t.root (Some p)) next → Steps t (record t { head = next }) (λ w. p ∷ w)
  steps_more t p next can at end moved =
      let k : IsWalk n (table t.links.now) t.root (Some p) t.tail can.0 = rw at at can.1 in
      let r = walk_more k (is_end_no t.tail p end) moved.leads in
      let placed : ArePlaced (values t.objects.now) (p ∷ r.0) = rw r.1 at can.2 in
      record { others = r.0; reached = (rw r.1 at can.1, placed); reaches = (r.2, placed.1); objects = refl }

  -- if more members remain than the last member p, a call from the back returns p, and the walk ends at the member to which a step back leads
  pub steps_less : (t : Iter A L O V K) (p : Place) (prev : Option Place) → CanWalk n table values t → t.tail ≡ Some p → is_end t.head p ≡ false
      → MovesBack (Represents n) table (site t.links.now t.root (Some p)) prev → Steps t (record t { tail = prev }) (λ w. w ++ p ∷ [])
  steps_less t p prev can at end moved =
      let k : IsWalk n (table t.links.now) t.root t.head (Some p) can.0 = rw at at can.1 in
      let r = walk_less k (is_end_no t.head p end) moved.leads in
      let placed : ArePlaced (values t.objects.now) (r.0 ++ p ∷ []) = rw r.1 at can.2 in
      record { others = r.0; reached = (rw r.1 at can.1, placed); reaches = (r.2, (all_but_last _ r.0 p placed).0); objects = refl }

  -- after a step of the walk, the next call can be made
  can_walk : {old new : Iter A L O V K} {with_it : List Place → List Place} → Steps old new with_it → CanWalk n table values new
  can_walk k = (k.others, k.reaches.0, k.reaches.1)

  -- the first member of the walk is a valid position of a cursor
  pub first_stands : (t : Iter A L O V K) (p : Place) → CanWalk n table values t → t.head ≡ Some p → IsValidCursor (Represents n) table (site t.links.now t.root (Some p))
  first_stands t p can at =
      let k = can.1 in
      let w : can.0 ≡ p ∷ drop 1 can.0 = first_is can.0 (sym at ∙ k.starts) in
      stands_on (record { front = k.front; back = drop 1 can.0 ++ k.back; shown = rw w at k.shown }) refl

  pub last_stands : (t : Iter A L O V K) (p : Place) → CanWalk n table values t → t.tail ≡ Some p → IsValidCursor (Represents n) table (site t.links.now t.root (Some p))
  last_stands t p can at =
      let k = can.1 in
      let w : (can.0 ++ k.back) ≡ but_last can.0 ++ p ∷ k.back =
      ap (λ (l : List Place). l ++ k.back) (split_last can.0 (sym k.ends ∙ at)) ∙ append_assoc (but_last can.0) (p ∷ []) k.back in
      let shown : Represents n (table t.links.now) t.root ((k.front ++ but_last can.0) ++ p ∷ k.back) =
      rw (append_assoc k.front (but_last can.0) (p ∷ k.back)) (rw w at k.shown) in
      stands_on (record { front = k.front ++ but_last can.0; back = k.back; shown = shown }) refl

  module _ (law : (t : L) (q : Place) → (n ((table t).entry q)).linked ≡ true → IsCovered (table t) q) where
    -- the objects that remain are the objects at the members that remain
    left_is : (t : Iter A L O V K) (w : List Place) → IsWalk n (table t.links.now) t.root t.head t.tail w → objects_left n table values t ≡ values_at (values t.objects.now) w
    left_is t w k = ap (values_at (values t.objects.now)) (walk_members n (table t.links.now) (law t.links.now) k)

    others_left : {old new : Iter A L O V K} {with_it : List Place → List Place} (k : Steps old new with_it) → objects_left n table values new ≡ values_at (values old.objects.now) k.others
    others_left {old} {new} k = left_is new k.others k.reaches.0 ∙ ap (λ o. values_at o k.others) k.objects

    -- if the walk has no first member, or no last member, no object remains
    pub none_left : (t : Iter A L O V K) → CanWalk n table values t → t.head ≡ None → objects_left n table values t ≡ []
    none_left t can at =
        let k : IsWalk n (table t.links.now) t.root None t.tail can.0 = rw at at can.1 in
        left_is t can.0 can.1 ∙ ap (values_at (values t.objects.now)) (walk_empty k)

    pub none_left_back : (t : Iter A L O V K) → CanWalk n table values t → t.tail ≡ None → objects_left n table values t ≡ []
    none_left_back t can at =
        let k : IsWalk n (table t.links.now) t.root t.head None can.0 = rw at at can.1 in
        left_is t can.0 can.1 ∙ ap (values_at (values t.objects.now)) (walk_empty_back k)

    -- if a call returns the first member p, its result is the object at p, and one object less remains
    pub gives : {old new : Iter A L O V K} {p : Place} (r : Option (Bor V)) → Steps old new (λ w. p ∷ w) → option_copied r ≡ object_at (values old.objects.now) p
        → GivesFirst (objects_left n table values) old r new
    gives {old} {new} {p} r k is =
        yields_placed (objects_left n table values) old new r (object_at (values old.objects.now) p) k.reached.1.0 is
        (left_is old (p ∷ k.others) k.reached.0 ∙ ap (cons_option (object_at (values old.objects.now) p)) (sym (others_left k)))

    pub goes : {old new : Iter A L O V K} {p : Place} (r : Option (Bor V)) → Steps old new (λ w. p ∷ w) → option_copied r ≡ object_at (values old.objects.now) p
        → MakesProgress (CanWalk n table values) (item_count (objects_left n table values)) old r new
    goes {old} {new} {p} r k is = makes_progress (objects_left n table values) (CanWalk n table values) old new r (can_walk k) (gives r k is)

    -- if a call from the back returns the last member p, its result is the object at p, and one object less remains
    pub gives_back : {old new : Iter A L O V K} {p : Place} (r : Option (Bor V)) → Steps old new (λ w. w ++ p ∷ []) → option_copied r ≡ object_at (values old.objects.now) p
        → GivesLast (objects_left n table values) old r new
    gives_back {old} {new} {p} r k is =
        yields_placed_back (objects_left n table values) old new r (object_at (values old.objects.now) p) (all_but_last _ k.others p k.reached.1).1 is
        (left_is old (k.others ++ p ∷ []) k.reached.0
        ∙ filter_map-append (object_at (values old.objects.now)) k.others (p ∷ [])
        ∙ ap (λ (l : List V). l ++ cons_option (object_at (values old.objects.now) p) []) (sym (others_left k)))

    pub goes_back : {old new : Iter A L O V K} {p : Place} (r : Option (Bor V)) → Steps old new (λ w. w ++ p ∷ []) → option_copied r ≡ object_at (values old.objects.now) p
        → MakesProgress (CanWalk n table values) (item_count (objects_left n table values)) old r new
    goes_back {old} {new} {p} r k is = makes_progress_back (objects_left n table values) (CanWalk n table values) old new r (can_walk k) (gives_back r k is)
