-- Lemmas about a walk over a list's objects: how it goes from a member to the next one, what one step returns, and where the walk ends.
use Rattle.std.proofs.Common.{◌≡◌, inl, inr, Bool, Option, Some, None, List, [], ◌∷◌, ◌++◌, true, false, Bor, refl, sym, ◌∙◌, ap, subst, option_copied}
use Rattle.std.specs.List.{cons_option}
use Rattle.std.specs.Iterator.{MakesProgress, item_count}
use Rattle.std.proofs.lemmas.List.Elements.{filter_map-append}
use Rattle.ic_link_ops.specs.Prelude.{Place, Objects, object_at, first, last, Table, IsCovered, ArePlaced, values_at, ListHead, IsStretch, RepresentsChain, walked, is_end, GivesFirst, GivesLast}
use Rattle.ic_link_ops.specs.Turns.{TurnsAfter, TurnsBefore}
use Rattle.ic_link_ops.proofs.Prelude.{none_not, some_same, last_some, all_but_last}
use Rattle.ic_link_ops.proofs.Walks.{is_end_yes, is_end_no, yields_placed, makes_progress, yields_placed_back, makes_progress_back, stretch_empty, stretch_empty_back, stretch_none, stretch_of, stretch_one, stretch_more, stretch_less, stretch_walked, stretch_through}
use Rattle.ic_chain.specs.declared.iter.Iter.{Iter}
use Rattle.ic_chain.specs.Walk.{WalkEnds, KnowsLast}
use Rattle.ic_chain.specs.Iter.{objects_left, IsLeft, CanWalk}

last_after : (p : Place) {q : Place} (r : List Place) → Some q ≡ first r → last (p ∷ r) ≡ last r
last_after p {q} [] e = absurd (none_not q (sym e))
last_after p (x ∷ r) e = refl

-- if a splice is given the place p as the last member of a list (`KnowsLast`), then p is its last member
pub told_some : (keeps : Bool) (after : Option Place) {p : Place} {last : Option Place} → KnowsLast keeps (Some p) after last → Some p ≡ last
told_some keeps after (inl e) = e
told_some true after (inr e) = e
told_some false after {p} (inr e) = absurd (none_not p (sym e.0))

-- if no last member is given for a list that has members, then lists of the kind do not store their last member, and `after` is none
pub told_none : (keeps : Bool) (after : Option Place) (x : Place) (t : List Place) → KnowsLast keeps None after (last (x ∷ t)) → (keeps ≡ false) × (after ≡ None)
told_none keeps after x t (inl e) = absurd (last_some x t (sym e))
told_none true after x t (inr e) = absurd (last_some x t (sym e))
told_none false after x t (inr e) = (refl, e.1)

-- `TurnsBefore` says that the previous place of `at` changes from `from` to `to`. If `at` is none, there is no such entry, so `TurnsBefore` also holds for
-- every other place `to'`. `turned_to_none` says that `TurnsAfter` from none to none changes no entry
pub turned_nowhere : {E : Type 0} {between : E → Option Place → Option Place → Type 0} {old new : Place → E} {at from to to' : Option Place} → at ≡ None
    → TurnsBefore between old new at from to → TurnsBefore between old new at from to'
turned_nowhere none turns = record { turned = λ q b e h. absurd (none_not q (sym none ∙ e)); others = turns.others }

pub turned_to_none : {E : Type 0} {between : E → Option Place → Option Place → Type 0} {t : Place → E} {at to : Option Place} → to ≡ None → TurnsAfter between t t at None to
turned_to_none none = record { turned = λ q a e h. rw none h; others = λ q apart. refl }

-- Lemmas about a part of a chain that reaches up to the end of the chain. `leads`: the law that `step` returns the next place, given an entry and the
-- previous place
module _ {E : Type 0} {between : E → Option Place → Option Place → Type 0} {step : E → Option Place → Option Place}
    (leads : (e : E) (b a : Option Place) → between e b a → step e b ≡ a) {t : Place → E} {b : Option Place} {p : Place} where
  -- the part w of the chain begins with p, and the rest of w is a part of the chain that begins with the place after p
  pub rest_more : {w : List Place} → IsStretch between t b (Some p) (last w) None w
      → (r : List Place) × (w ≡ p ∷ r) × IsStretch between t (Some p) (step (t p) b) (last r) None r
  rest_more {w = []} k = absurd (none_not p (sym k.starts))
  rest_more {w = x ∷ w} k =
      let e : p ≡ x = some_same k.starts in (
        w,
        ap (λ (q : Place). q ∷ w) (sym e),
        record { distinct = k.distinct.1; chain = rw e k.chain.1; starts = rw e (leads _ _ _ k.chain.0); ends = refl },
      )

  -- if the entry of p names a next place q, the rest of w begins with q, and the rest has the same last member as w
  pub rest_goes_on : {q : Place} {w : List Place} → IsStretch between t b (Some p) (last w) None w → step (t p) b ≡ Some q
      → (r : List Place) × (w ≡ p ∷ r) × IsStretch between t (Some p) (Some q) (last r) None r × (last w ≡ last r)
  rest_goes_on {q} k e =
      let more = rest_more k in
      let rest : IsStretch between t (Some p) (Some q) (last more.0) None more.0 = rw e at more.2 in
      (more.0, more.1, rest, ap last more.1 ∙ last_after p more.0 rest.starts)

  -- if the entry of p names no next place, p is the last member of w
  pub rest_ends : {w : List Place} → IsStretch between t b (Some p) (last w) None w → step (t p) b ≡ None → Some p ≡ last w
  rest_ends k e =
      let more = rest_more k in
      sym (ap last (more.1 ∙ ap (λ (r : List Place). p ∷ r) (stretch_empty e more.2)))

-- Lemmas about a part w of a chain, and about the member `end` at which a walk over w ends
module _ {E : Type 0} {between : E → Option Place → Option Place → Type 0} {t : Place → E} {b a : Option Place} where
  -- if lists of the kind store their last member, and a walk over w ends at `end`, then w is a part of the chain whose last member is `end`
  pub at_end : {keeps : Bool} → keeps ≡ true → {from end : Option Place} {w : List Place} → IsStretch between t b from (last w) a w → WalkEnds keeps end a (last w)
      → IsStretch between t b from end a w
  at_end closed {end = end} {w} k e =
      record { distinct = k.distinct; chain = k.chain; starts = k.starts; ends = subst (λ keeps. WalkEnds keeps end a (last w)) closed e }

  -- if lists of the kind store their last member, and the last member of w is `end`, then a walk over w ends at `end`
  pub to_last : {keeps : Bool} → keeps ≡ true → {from end : Option Place} {w : List Place} → IsStretch between t b from end a w
      → IsStretch between t b from (last w) a w × WalkEnds keeps end a (last w)
  to_last closed {end = end} {w} k = (
    record { distinct = k.distinct; chain = k.chain; starts = k.starts; ends = refl },
    subst (λ keeps. WalkEnds keeps end a (last w)) (sym closed) k.ends,
  )

module _ {E : Type 0} {between : E → Option Place → Option Place → Type 0} {t : Place → E} {b a : Option Place} where
  -- if a walk over w ends at the first member p of w, then p is the only member of w
  pub comes_to_end : (keeps : Bool) (end : Option Place) (p : Place) {w : List Place} → IsStretch between t b (Some p) (last w) a w → WalkEnds keeps end a (last w)
      → is_end end p ≡ true → (w ≡ p ∷ []) × WalkEnds keeps None a None
  comes_to_end true end p k e ends = (stretch_one (rw (is_end_yes end p ends) at (at_end refl k e)), refl)
  comes_to_end false end p k e ends = let never : false ≡ true = rw e.0 at ends in absurd (cc)

  -- if a walk over w does not end at the first member p of w, then the walk goes on with the rest of w, from the place after p
  pub goes_on : (step : E → Option Place → Option Place) → ((e : E) (b a : Option Place) → between e b a → step e b ≡ a) → (keeps : Bool) (end : Option Place) (p : Place)
      {w : List Place} → IsStretch between t b (Some p) (last w) a w → WalkEnds keeps end a (last w) → is_end end p ≡ false
      → (r : List Place) × (w ≡ p ∷ r) × IsStretch between t (Some p) (step (t p) b) (last r) a r × WalkEnds keeps end a (last r)
  goes_on step leads true end p k e goes =
      let more = stretch_more step leads {to = end} (at_end refl k e) (is_end_no end p goes) in
      let rest = to_last refl {end = end} more.2 in (more.0, more.1, rest.0, rest.1)
  goes_on step leads false end p k e goes = let more = rest_more leads (rw e.1 at k) in (more.0, more.1, rw e.1 more.2, e)

-- A WALK OVER A PART OF A CHAIN visits all members of this part, in order
pub walks_over : {E : Type 0} {between : E → Option Place → Option Place → Type 0} (step : E → Option Place → Option Place)
    → ((e : E) (b a : Option Place) → between e b a → step e b ≡ a) → (t : Table E) → ((q : Place) (b a : Option Place) → between (t.entry q) b a → IsCovered t q)
    → (keeps : Bool) (end : Option Place) {b from a : Option Place} {w : List Place} → IsStretch between t.entry b from (last w) a w → WalkEnds keeps end a (last w) → walked step t b from end ≡ w
walks_over step leads t covered true end k e = stretch_walked step leads t covered (at_end refl k e)
walks_over step leads t covered false end k e = rw e.0 (stretch_through step leads t covered (rw e.1 at k))

-- THE MEMBERS OF A LIST are the places to which the entries lead from the first member to the last
pub members_represented : {E W : Type 0} {between : E → Option Place → Option Place → Type 0} {kept : Option Place → W} (step : E → Option Place → Option Place)
    → ((e : E) (b a : Option Place) → between e b a → step e b ≡ a) → (t : Table E) → ((q : Place) (b a : Option Place) → between (t.entry q) b a → IsCovered t q)
    → {list : ListHead W} {s : List Place} → RepresentsChain between kept t list s → walked step t None list.head None ≡ s
members_represented step leads t covered shown = stretch_through step leads t covered (stretch_of shown)

module _ {K T L O E : Type 0} (keeps : Bool) (between : E → Option Place → Option Place → Type 0) (table : L → Table E) (values : O → Objects T) where
  -- A STEP of the walk from `old` to `new` returned the member p, and `members` remain. Before the step, p and then `members` were left
  pub record Steps (old new : Iter K T L O) (p : Place) : Type 0 where
    pub members : List Place
    pub walk : IsLeft keeps between table values new members
    pub whole : IsLeft keeps between table values old (p ∷ members)
    pub placed : ArePlaced (values old.objects.now) (p ∷ members)
    pub objects : values new.objects.now ≡ values old.objects.now

  -- if the walk is at the last member p, a step returns p and no member remains
  pub steps_last : (t : Iter K T L O) (p : Place) → CanWalk keeps between table values t → t.head ≡ Some p → is_end t.tail p ≡ true
      → Steps t (record t { head = None; tail = None }) p
  steps_last t p can at end =
      let k = comes_to_end keeps t.tail p (rw at at can.1.0) can.1.1 end in
      record {
        members = [];
        walk = (stretch_none, k.1);
        whole = rw k.0 at can.1;
        placed = rw k.0 at can.2;
        objects = refl;
      }

  -- A STEP FROM THE BACK of the walk from `old` to `new` returned the member p, and `members` remain. Before the step, `members` and then p were left
  pub record StepsBack (old new : Iter K T L O) (p : Place) : Type 0 where
    pub members : List Place
    pub walk : IsLeft keeps between table values new members
    pub whole : IsLeft keeps between table values old (members ++ p ∷ [])
    pub placed : ArePlaced (values old.objects.now) (members ++ p ∷ [])
    pub objects : values new.objects.now ≡ values old.objects.now

  pub steps_back_last : keeps ≡ true → (t : Iter K T L O) (p : Place) → CanWalk keeps between table values t → t.tail ≡ Some p → is_end t.head p ≡ true
      → StepsBack t (record t { head = None; tail = None }) p
  steps_back_last closed t p can at end =
      let e = stretch_one (rw (at, is_end_yes t.head p end) at (at_end closed can.1.0 can.1.1)) in
      record {
        members = [];
        walk = to_last closed stretch_none;
        whole = rw e at can.1;
        placed = rw e at can.2;
        objects = refl;
      }

  -- after a step the walk can still be walked to its end
  pub can_walk : {old new : Iter K T L O} {p : Place} → Steps old new p → CanWalk keeps between table values new
  can_walk k = (k.members, k.walk, rw k.objects k.placed.1)

  pub can_walk_back : {old new : Iter K T L O} {p : Place} → StepsBack old new p → CanWalk keeps between table values new
  can_walk_back k = (k.members, k.walk, rw k.objects (all_but_last _ k.members _ k.placed).0)

  -- `leads`: the law that `step` returns the next place, given an entry and the previous place
  module _ (step : E → Option Place → Option Place) (leads : (e : E) (b a : Option Place) → between e b a → step e b ≡ a) where
    -- if the walk is at the member p, which is not its last member, a step returns p and the walk goes on at the next place
    pub steps_more : (t : Iter K T L O) (p : Place) (next : Option Place) → CanWalk keeps between table values t → t.head ≡ Some p → is_end t.tail p ≡ false
        → next ≡ step ((table t.links.now).entry p) t.before → Steps t (record t { before = Some p; head = next }) p
    steps_more t p next can at end is_next =
        let r = goes_on step leads keeps t.tail p (rw at at can.1.0) can.1.1 end in
        record {
          members = r.0;
          walk = (rw is_next r.2, r.3);
          whole = rw r.1 at can.1;
          placed = rw r.1 at can.2;
          objects = refl;
        }

    -- if p is the last of several remaining members, a step from the back returns p and the walk goes on at the previous place
    pub steps_back_more : (back : E → Option Place → Option Place) → ((e : E) (b a : Option Place) → between e b a → back e a ≡ b) → keeps ≡ true → (t : Iter K T L O) (p : Place) (prev : Option Place)
        → CanWalk keeps between table values t → t.tail ≡ Some p → is_end t.head p ≡ false
        → prev ≡ back ((table t.links.now).entry p) t.after → StepsBack t (record t { tail = prev; after = Some p }) p
    steps_back_more back leads_back closed t p prev can at end is_prev =
        let r = stretch_less back leads_back (rw at at (at_end closed can.1.0 can.1.1)) (is_end_no t.head p end) in
        record {
          members = r.0;
          walk = to_last closed (rw is_prev r.2);
          whole = rw r.1 at can.1;
          placed = rw r.1 at can.2;
          objects = refl;
        }

    module _ (law : (t : L) (q : Place) (b a : Option Place) → between ((table t).entry q) b a → IsCovered (table t) q) where
      -- the objects that the walk has left are the objects at the members w, if the members w remain
      pub left_is : (t : Iter K T L O) (w : List Place) → IsLeft keeps between table values t w → objects_left step table values t ≡ values_at (values t.objects.now) w
      left_is t w k = ap (values_at (values t.objects.now)) (walks_over step leads (table t.links.now) (law t.links.now) keeps t.tail k.0 k.1)

      -- if the walk has no first member, no objects are left
      pub none_left : (t : Iter K T L O) → CanWalk keeps between table values t → t.head ≡ None → objects_left step table values t ≡ []
      none_left t can at = left_is t can.0 can.1 ∙ ap (values_at (values t.objects.now)) (stretch_empty at can.1.0)

      pub none_left_back : keeps ≡ true → (t : Iter K T L O) → CanWalk keeps between table values t → t.tail ≡ None → objects_left step table values t ≡ []
      none_left_back closed t can at = left_is t can.0 can.1 ∙ ap (values_at (values t.objects.now)) (stretch_empty_back at (at_end closed can.1.0 can.1.1))

      -- if a step returns the object at its member p, this object is the first of the objects that were left
      pub gives : {old new : Iter K T L O} {p : Place} (r : Option (Bor T)) → Steps old new p → option_copied r ≡ object_at (values old.objects.now) p
          → GivesFirst (objects_left step table values) old r new
      gives {old} {new} {p} r k is =
          yields_placed (objects_left step table values) old new r (object_at (values old.objects.now) p) k.placed.0 is
          (left_is old (p ∷ k.members) k.whole
          ∙ ap (cons_option (object_at (values old.objects.now) p)) (sym (left_is new k.members k.walk ∙ ap (λ o. values_at o k.members) k.objects)))

      -- after a step that returns the object at its member p, one object less is left, and the walk can still be walked to its end
      pub goes : {old new : Iter K T L O} {p : Place} (r : Option (Bor T)) → Steps old new p → option_copied r ≡ object_at (values old.objects.now) p
          → MakesProgress (CanWalk keeps between table values) (item_count (objects_left step table values)) old r new
      goes {old} {new} {p} r k is = makes_progress (objects_left step table values) (CanWalk keeps between table values) old new r (can_walk k) (gives r k is)

      -- if a step from the back returns the object at its member p, this object is the last of the objects that were left
      pub gives_back : {old new : Iter K T L O} {p : Place} (r : Option (Bor T)) → StepsBack old new p → option_copied r ≡ object_at (values old.objects.now) p
          → GivesLast (objects_left step table values) old r new
      gives_back {old} {new} {p} r k is =
          yields_placed_back (objects_left step table values) old new r (object_at (values old.objects.now) p) (all_but_last _ k.members p k.placed).1 is
          (left_is old (k.members ++ p ∷ []) k.whole
          ∙ filter_map-append (object_at (values old.objects.now)) k.members (p ∷ [])
          ∙ ap (λ (l : List T). l ++ cons_option (object_at (values old.objects.now) p) []) (sym (left_is new k.members k.walk ∙ ap (λ o. values_at o k.members) k.objects)))

      pub goes_back : {old new : Iter K T L O} {p : Place} (r : Option (Bor T)) → StepsBack old new p → option_copied r ≡ object_at (values old.objects.now) p
          → MakesProgress (CanWalk keeps between table values) (item_count (objects_left step table values)) old r new
      goes_back {old} {new} {p} r k is =
          makes_progress_back (objects_left step table values) (CanWalk keeps between table values) old new r (can_walk_back k) (gives_back r k is)
