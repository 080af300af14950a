-- A walk over a hash table removes each member that fails a test, and these lemmas are about one step of the walk and about its end.
use Rattle.std.proofs.Common.{◌≡◌, ◌<◌, arith, ℕ, Bool, true, false, Option, None, Some, List, [], ◌∷◌, ◌++◌, drop, length, refl, sym, ap, ◌∙◌, subst, append_assoc, append-nil}
use Rattle.ic_link_ops.specs.Prelude.{Place, Objects, first, IsAbsent, IsDistinct, Table, IsCovered, ChangesOnlyIn, LinkStep, releases, releases_each, Successor}
use Rattle.ic_link_ops.proofs.Prelude.{absent_without, first_is, none_not, nothing_first, some_same, releases_append}
use Rattle.ic_hash_table.specs.declared.table.HashTable.{HashTable}
use Rattle.ic_hash_table.specs.HashTable.{BelongsIn, Holds}
use Rattle.ic_hash_table.specs.Iter.{members_of, after}
use Rattle.ic_hash_table.specs.Retained.{TellsAt, AreAnswers, passing, failing}
use Rattle.ic_hash_table.proofs.RemainingMembers.{members_are, after_member}

-- the members of s from the given place p on, or no members if no place is given
abbrev pub ahead_of : Option Place → List Place → List Place
ahead_of None s = []
ahead_of (Some p) s = p ∷ after (Some p) s

ahead_is : (front back : List Place) (at : Option Place) → IsDistinct (front ++ back) → at ≡ first back → ahead_of at (front ++ back) ≡ back
ahead_is front [] None d here = refl
ahead_is front [] (Some p) d here = absurd (none_not p (sym here))
ahead_is front (x ∷ back) None d here = absurd (none_not x here)
ahead_is front (x ∷ back) (Some p) d here =
    subst (λ y. y ∷ after (Some y) (front ++ x ∷ back) ≡ x ∷ back) (sym (some_same here)) (ap (λ l. x ∷ l) (after_member front back x d))

module _ {L E A B V F : Type 0} (successor : E → Successor) (table : L → Table E) (Trace : L → L → List LinkStep → Type 0) (hash : A → V → ℕ) (fronts : B → List (Option Place)) (objects : Objects V)
    (tells : F → V → Bool → F → Type 0) where
  -- the walk over s is at the member `at`. It has kept the earlier members that passed the test and removed those that failed, and the test is now in the state
  -- `asked`. Its earlier results, with further results for the members from `at` on, are the results for s
  pub record Retains (start now : L) (held : HashTable A B) (s : List Place) (at : Option Place) (test asked : F) : Type 0 where
    pub kept : List Place
    pub gone : List Place
    pub ahead : List Place
    pub here : at ≡ first ahead
    pub holds : Holds successor hash fronts (table now) held objects (kept ++ ahead)
    pub said : (later : List Bool) (last : F) → AreAnswers tells objects asked ahead later last
        → (answers : List Bool) × AreAnswers tells objects test s answers last × (passing answers s ≡ kept ++ passing later ahead) × (failing answers s ≡ gone ++ failing later ahead)
    pub adds_none : (q : Place) → IsAbsent q s → IsAbsent q (kept ++ ahead)
    pub steps : Trace start now (releases_each gone)
    pub frame : ChangesOnlyIn (table start) (table now) s

module _ {L E A B V F : Type 0} {successor : E → Successor} {table : L → Table E} {Trace : L → L → List LinkStep → Type 0} {hash : A → V → ℕ} {fronts : B → List (Option Place)} {objects : Objects V}
    {tells : F → V → Bool → F → Type 0} where
  -- at first all members are ahead of the walk
  pub retains_none : {start : L} {held : HashTable A B} {s : List Place} {at : Option Place} (test : F) → ((t : L) → Trace t t []) → Holds successor hash fronts (table start) held objects s → at ≡ first s
      → Retains successor table Trace hash fronts objects tells start start held s at test test
  retains_none {start} {s = s} test does_nothing holds here = record {
    kept = [];
    gone = [];
    ahead = s;
    here = here;
    holds = holds;
    said = λ later last answers. (later, answers, refl, refl);
    adds_none = λ q out. out;
    steps = does_nothing start;
    frame = record { extent = refl; others = λ q out. refl };
  }

  -- the entries lead through exactly as many members as are ahead of the walk
  ahead_count : ((t : L) (q : Place) → (successor ((table t).entry q)).linked ≡ true → IsCovered (table t) q) → {start now : L} {held : HashTable A B} {s : List Place} {at : Option Place} {test asked : F}
      → (r : Retains successor table Trace hash fronts objects tells start now held s at test asked) → length (ahead_of at (members_of successor (table now) (fronts held.buckets))) ≡ length r.ahead
  ahead_count law {now = now} {held = held} {at = at} r =
      ap (λ m. length (ahead_of at m)) (members_are successor (table now) (law now) (BelongsIn held.slots (hash held.adapter) objects) 0 (fronts held.buckets) (r.kept ++ r.ahead) r.holds.chained)
      ∙ ap length (ahead_is r.kept r.ahead at r.holds.distinct r.here)

  -- one step of the walk leaves fewer members ahead
  pub turn_less : ((t : L) (q : Place) → (successor ((table t).entry q)).linked ≡ true → IsCovered (table t) q) → {start start' now new : L} {held rest : HashTable A B} {s s' : List Place} {at next : Option Place} {p : Place} {test test' asked after : F}
      → (r : Retains successor table Trace hash fronts objects tells start now held s at test asked) → r.ahead ≡ p ∷ drop 1 r.ahead
      → (more : Retains successor table Trace hash fronts objects tells start' new rest s' next test' after) → more.ahead ≡ drop 1 r.ahead
      → length (ahead_of next (members_of successor (table new) (fronts rest.buckets))) < length (ahead_of at (members_of successor (table now) (fronts held.buckets)))
  turn_less law r is more left = omega (arith, ahead_count law r, ahead_count law more, ap length is, ap length left)

  module _ {start now : L} {held : HashTable A B} {s : List Place} {p : Place} {test asked : F} (r : Retains successor table Trace hash fronts objects tells start now held s (Some p) test asked) where
    -- the member p is the first that is ahead of the walk, and the table holds it after the kept members
    pub ahead_first : r.ahead ≡ p ∷ drop 1 r.ahead
    ahead_first = first_is r.ahead r.here

    pub holds_there : Holds successor hash fronts (table now) held objects (r.kept ++ p ∷ drop 1 r.ahead)
    holds_there = subst (λ l. Holds successor hash fronts (table now) held objects (r.kept ++ l)) ahead_first r.holds

    pub holds_after : Holds successor hash fronts (table now) held objects ((r.kept ++ p ∷ []) ++ drop 1 r.ahead)
    holds_after = subst (Holds successor hash fronts (table now) held objects) (sym (append_assoc r.kept (p ∷ []) (drop 1 r.ahead))) holds_there

    within_there : (q : Place) → IsAbsent q s → IsAbsent q (r.kept ++ p ∷ drop 1 r.ahead)
    within_there q out = subst (λ l. IsAbsent q (r.kept ++ l)) ahead_first (r.adds_none q out)

    -- the test's results for s are its earlier results, its result for the member p, and its results for the members after p
    answers_there : (answer : Bool) {after : F} → TellsAt tells objects asked p answer after → (later : List Bool) (last : F) → AreAnswers tells objects after (drop 1 r.ahead) later last
        → (answers : List Bool) × AreAnswers tells objects test s answers last
        × (passing answers s ≡ r.kept ++ passing (answer ∷ later) (p ∷ drop 1 r.ahead)) × (failing answers s ≡ r.gone ++ failing (answer ∷ later) (p ∷ drop 1 r.ahead))
    answers_there answer {after} told later last rest =
        let a = r.said (answer ∷ later) last (subst (λ l. AreAnswers tells objects asked l (answer ∷ later) last) (sym ahead_first) (after, told, rest)) in (
          a.0,
          a.1,
          a.2 ∙ ap (λ l. r.kept ++ passing (answer ∷ later) l) ahead_first,
          a.3 ∙ ap (λ l. r.gone ++ failing (answer ∷ later) l) ahead_first,
        )

    -- if the member p passes the test, the table keeps it
    pub retains_kept : {next : Option Place} {after : F} → next ≡ first (drop 1 r.ahead) → TellsAt tells objects asked p true after
        → (more : Retains successor table Trace hash fronts objects tells start now held s next test after) × (more.ahead ≡ drop 1 r.ahead)
    retains_kept is_next told = (
      record {
        kept = r.kept ++ p ∷ [];
        gone = r.gone;
        ahead = drop 1 r.ahead;
        here = is_next;
        holds = holds_after;
        said = λ later last rest.
            let a = answers_there true told later last rest in
            (a.0, a.1, a.2 ∙ sym (append_assoc r.kept (p ∷ []) (passing later (drop 1 r.ahead))), a.3);
        adds_none = λ q out. subst (IsAbsent q) (sym (append_assoc r.kept (p ∷ []) (drop 1 r.ahead))) (within_there q out);
        steps = r.steps;
        frame = r.frame;
      },
      refl,
    )

    -- if the member p fails the test, the table does not hold it after the step
    pub retains_gone : (does_on : (a b c : L) (u v : List LinkStep) → Trace a b u → Trace b c v → Trace a c (u ++ v)) {next : Option Place} {new : L} {rest : HashTable A B} {after : F}
        → next ≡ first (drop 1 r.ahead) → TellsAt tells objects asked p false after → Holds successor hash fronts (table new) rest objects (r.kept ++ drop 1 r.ahead)
        → Trace now new (releases p ∷ []) → ChangesOnlyIn (table now) (table new) (r.kept ++ p ∷ drop 1 r.ahead)
        → (more : Retains successor table Trace hash fronts objects tells start new rest s next test after) × (more.ahead ≡ drop 1 r.ahead)
    retains_gone does_on {next} {new} {rest} is_next told holds released frame = (
      record {
        kept = r.kept;
        gone = r.gone ++ p ∷ [];
        ahead = drop 1 r.ahead;
        here = is_next;
        holds = holds;
        said = λ later last answers.
            let a = answers_there false told later last answers in
            (a.0, a.1, a.2, a.3 ∙ sym (append_assoc r.gone (p ∷ []) (failing later (drop 1 r.ahead))));
        adds_none = λ q out. absent_without r.kept (drop 1 r.ahead) p q (within_there q out);
        steps = subst (Trace start new) (sym (releases_append r.gone (p ∷ []))) (does_on start now new (releases_each r.gone) (releases p ∷ []) r.steps released);
        frame = record { extent = frame.extent ∙ r.frame.extent; others = λ q out. frame.others q (within_there q out) ∙ r.frame.others q out };
      },
      refl,
    )

  -- AT THE END OF THE WALK the test was called for all members of s
  pub retains_all : {start now : L} {held : HashTable A B} {s : List Place} {test asked : F} (r : Retains successor table Trace hash fronts objects tells start now held s None test asked)
      → (answers : List Bool) × AreAnswers tells objects test s answers asked × Holds successor hash fronts (table now) held objects (passing answers s)
      × Trace start now (releases_each (failing answers s))
  retains_all {start} {now} {held} {s} {asked = asked} r =
      let none = nothing_first r.ahead r.here in
      let a = r.said [] asked (subst (λ l. AreAnswers tells objects asked l [] asked) (sym none) refl) in (
        a.0,
        a.1,
        subst (Holds successor hash fronts (table now) held objects) (ap (λ l. r.kept ++ l) none ∙ sym a.2) r.holds,
        subst (λ l. Trace start now (releases_each l)) (sym (append-nil r.gone) ∙ sym a.3) r.steps,
      )
