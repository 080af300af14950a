-- These lemmas are about a test that is called for member after member of a list.
use Rattle.std.proofs.Common.{◌≡◌, Bool, true, false, not, cond, MatchBool, Option, Some, None, List, [], ◌∷◌, ◌++◌, length, append_assoc, append-nil, inl, inr, refl, sym, ◌∙◌, ap, subst, arith}
use Rattle.std.specs.List.{items_where_true}
use Rattle.std.specs.List.Retain.{IsFiltered, DedupsFrom, IsDeduped}
use Rattle.ic_link_ops.specs.Prelude.{Place, Objects, object_at, last}
use Rattle.ic_link_ops.proofs.SequenceLemmas.{last_of_push}
use Rattle.ic_list_algorithms.specs.Asked.{AnswersNo, KeepsInTurn, OrderedInTurn, AsksAt, AsksBoth, AsksBeside}

-- if the test returned false for each of the members `done`, and then for x, it returned false for all of these members
module _ {X F : Type 0} (asks : F → X → Bool → F → Type 0) where
  no_after : (f : F) (done : List X) (now next : F) (x : X) → AnswersNo asks f done now → asks now x false next → AnswersNo asks f (done ++ x ∷ []) next
  no_after f [] now next x said asked = (next, subst (λ k. asks k x false next) said asked, refl)
  no_after f (y ∷ done) now next x said asked = (said.0, said.1, no_after said.0 done now next x said.2 asked)

  pub no_more : (f : F) (done : List X) (now next : F) (x : X) {more : List X} → AnswersNo asks f done now → asks now x false next → more ≡ done ++ x ∷ [] → AnswersNo asks f more next
  no_more f done now next x said asked is = subst (λ s. AnswersNo asks f s next) (sym is) (no_after f done now next x said asked)

  -- if the members `done` are all members of s, and the test returned false for each member of `done`, it returned false for each member of s
  pub no_all : (f : F) {done s : List X} (now : F) → done ≡ s → AnswersNo asks f done now → AnswersNo asks f s now
  no_all f now same said = subst (λ s. AnswersNo asks f s now) same said

-- so far the test has kept the members `done`. With the members that it keeps of `rest`, these are the members that it keeps of s
module _ {F : Type 0} (asks : F → Option Place → Place → Bool → F → Type 0) (f : F) (s : List Place) where
  abbrev pub AskedSoFar : List Place → List Place → Option Place → F → Type 0
  AskedSoFar done rest prev now = (kept : List Place) (g : F) → KeepsInTurn asks now prev rest kept g → KeepsInTurn asks f None s (done ++ kept) g

  -- at first no member is kept, and `rest` is all of s
  pub asked_begins : (done rest : List Place) → done ≡ [] → rest ≡ s → AskedSoFar done rest None f
  asked_begins done rest none all = λ kept g more.
      subst (λ l. KeepsInTurn asks f None s (l ++ kept) g) (sym none) (subst (λ l. KeepsInTurn asks f None l kept g) all more)

  -- if the test is called for p, the first member of `rest`, and the test keeps p, then p is added to the kept members
  pub asked_turns : (done rest done' rest' : List Place) (prev prev' : Option Place) (now next : F) (p : Place) (kept_here : Bool) → AskedSoFar done rest prev now → rest ≡ p ∷ rest'
      → asks now prev p kept_here next → done' ≡ done ++ cond kept_here (p ∷ []) [] → prev ≡ last done → prev' ≡ last done' → AskedSoFar done' rest' prev' next
  asked_turns done rest done' rest' prev prev' now next p true so_far is asked grows keeps keeps' = λ kept g more.
      let here : prev' ≡ Some p = keeps' ∙ ap last grows ∙ last_of_push done p in
      let turn = so_far (p ∷ kept) g (subst (λ l. KeepsInTurn asks now prev l (p ∷ kept) g) (sym is) (true, next, asked, kept, refl, subst (λ o. KeepsInTurn asks next o rest' kept g) here more)) in
      subst (λ l. KeepsInTurn asks f None s l g) (sym (ap (λ l. l ++ kept) grows ∙ append_assoc done (p ∷ []) kept)) turn
  asked_turns done rest done' rest' prev prev' now next p false so_far is asked grows keeps keeps' = λ kept g more.
      let here : prev' ≡ prev = keeps' ∙ ap last (grows ∙ append-nil done) ∙ sym keeps in
      let turn = so_far kept g (subst (λ l. KeepsInTurn asks now prev l kept g) (sym is) (false, next, asked, kept, refl, subst (λ o. KeepsInTurn asks next o rest' kept g) here more)) in
      subst (λ l. KeepsInTurn asks f None s l g) (sym (ap (λ l. l ++ kept) (grows ∙ append-nil done))) turn

  -- at the end, if no members are left, the members `done` are all members that the test keeps of s
  pub asked_all : (done rest : List Place) (prev : Option Place) (now : F) → AskedSoFar done rest prev now → rest ≡ [] → KeepsInTurn asks f None s done now
  asked_all done rest prev now so_far none =
      subst (λ l. KeepsInTurn asks f None s l now) (append-nil done) (so_far [] now (subst (λ l. KeepsInTurn asks now prev l [] now) (sym none) (refl, refl)))

-- so far each member could come after the member before it. With the calls for the members `rest`, these are the calls for all members of s
module _ {F : Type 0} (asks : F → Option Place → Place → Bool → F → Type 0) (f : F) (s : List Place) where
  abbrev pub OrderedSoFar : List Place → Option Place → F → Type 0
  OrderedSoFar rest prev now = (sorted : Bool) (g : F) → OrderedInTurn asks now prev rest sorted g → OrderedInTurn asks f None s sorted g

  -- at first the order was called for no member, and `rest` is all of s
  pub ordered_begins : (rest : List Place) → rest ≡ s → OrderedSoFar rest None f
  ordered_begins rest all = λ sorted g more. subst (λ l. OrderedInTurn asks f None l sorted g) all more

  module _ (rest : List Place) (prev : Option Place) (now : F) (so_far : OrderedSoFar rest prev now) where
    -- if the next member p can come after the member before it, the walk goes on with the members after p
    pub ordered_turns : (next : F) (p : Place) (left : List Place) → rest ≡ p ∷ left → asks now prev p true next → OrderedSoFar left (Some p) next
    ordered_turns next p left is asked = λ sorted g more. so_far sorted g (subst (λ l. OrderedInTurn asks now prev l sorted g) (sym is) (inr (next, asked, more)))

    -- if the next member p cannot come after the member before it, s is not in order, and the walk ends
    pub ordered_stops : (next : F) (p : Place) (left : List Place) → rest ≡ p ∷ left → asks now prev p false next → OrderedInTurn asks f None s false next
    ordered_stops next p left is asked = so_far false next (subst (λ l. OrderedInTurn asks now prev l false next) (sym is) (inl (asked, refl)))

    -- at the end no members are left, so each member of s can come after the member before it
    pub ordered_all : rest ≡ [] → OrderedInTurn asks f None s true now
    ordered_all none = so_far true now (subst (λ l. OrderedInTurn asks now prev l true now) (sym none) (refl, refl))

-- `test_of`: the state of the test that is part of a state of the choice
module _ {V S F : Type 0} (objects : Objects V) (asks : S → Option V → V → Bool → S → Type 0) (test_of : S → F) where
  -- the choice calls a test of the member alone, and ignores the member that was kept last
  module _ (called : F → V → Bool → F → Type 0) (law : (f : S) (prev : Option V) (v : V) (b : Bool) (g : S) → asks f prev v b g → called (test_of f) v b (test_of g)) where
    alone : (f : S) (prev : Option Place) (p : Place) (b : Bool) (g : S) → AsksBeside objects asks f prev p b g → AsksAt objects called (test_of f) p b (test_of g)
    alone f None p b g k = record { value = k.0; stands = k.1; asked = law f None k.0 b g k.2 }
    alone f (Some q) p b g k = record { value = k.1; stands = k.3; asked = law f (Some k.0) k.1 b g k.4 }

    picks : (b : Bool) (bs : List Bool) (x : Place) (s : List Place) {rest : List Place} → rest ≡ items_where_true bs s → cond b (x ∷ rest) rest ≡ items_where_true (b ∷ bs) (x ∷ s)
    picks true bs x s e = ap (λ l. x ∷ l) e
    picks false bs x s e = e

    pub filtered : (s : List Place) (f : S) (prev : Option Place) (kept : List Place) (g : S) → KeepsInTurn (AsksBeside objects asks) f prev s kept g → IsFiltered (AsksAt objects called) (test_of f) s kept
    filtered [] f prev kept g k = ([], test_of f, refl, refl, k.0)
    filtered (x ∷ s) f prev kept g k =
        let r = filtered s k.1 (cond k.0 (Some x) prev) k.3 g k.5 in
        (k.0 ∷ r.0, r.1, omega (arith, r.2), (test_of k.1, alone f prev x k.0 k.1 k.2, r.3), k.4 ∙ picks k.0 r.0 x s r.4)

  -- the choice calls a test of two members, the member that was kept last and the next member
  module _ (called : F → V → V → Bool → F → Type 0) (first : (f : S) (v : V) (b : Bool) (g : S) → asks f None v b g → (b ≡ true) × (test_of g ≡ test_of f))
      (law : (f : S) (p v : V) (b : Bool) (g : S) → asks f (Some p) v b g → (same : Bool) × called (test_of f) p v same (test_of g) × (b ≡ not same)) where
    turn : (f next g : S) (before value : V) (x k : Place) (s kept rest : List Place) → object_at objects k ≡ Some before → object_at objects x ≡ Some value
        → (same answer : Bool) → answer ≡ not same → called (test_of f) before value same (test_of next) → kept ≡ cond answer (x ∷ rest) rest
        → (KeepsInTurn (AsksBeside objects asks) next (Some k) s rest g → DedupsFrom (AsksBoth objects called) (test_of next) k s (k ∷ rest))
        → (KeepsInTurn (AsksBeside objects asks) next (Some x) s rest g → DedupsFrom (AsksBoth objects called) (test_of next) x s (x ∷ rest))
        → KeepsInTurn (AsksBeside objects asks) next (cond answer (Some x) (Some k)) s rest g → DedupsFrom (AsksBoth objects called) (test_of f) k (x ∷ s) (k ∷ kept)
    turn f next g before value x k s kept rest stood stands true true e c is goes stays more = absurd (cc)
    turn f next g before value x k s kept rest stood stands false false e c is goes stays more = absurd (cc)
    turn f next g before value x k s kept rest stood stands true false e c is goes stays more = (
      true,
      test_of next,
      x,
      k,
      record { before = before; value = value; stood = stood; stands = stands; asked = c; same = (refl, refl) },
      subst (λ l. DedupsFrom (AsksBoth objects called) (test_of next) k s (k ∷ l)) (sym is) (goes more),
    )
    turn f next g before value x k s kept rest stood stands false true e c is goes stays more = (
      false,
      test_of next,
      x,
      k,
      record { before = before; value = value; stood = stood; stands = stands; asked = c; same = (refl, refl) },
      (x ∷ rest, stays more, ap (λ l. k ∷ l) is),
    )

    from_last : (s : List Place) (f : S) (k : Place) (kept : List Place) (g : S) → KeepsInTurn (AsksBeside objects asks) f (Some k) s kept g
        → DedupsFrom (AsksBoth objects called) (test_of f) k s (k ∷ kept)
    from_last [] f k kept g h = ap (λ l. k ∷ l) h.0
    from_last (x ∷ s) f k kept g (answer, next, (before, value, stood, stands, asked), rest, is, more) =
        let a = law f before value answer next asked in
        turn f next g before value x k s kept rest stood stands a.0 answer a.2 a.1 is (λ m. from_last s next k rest g m) (λ m. from_last s next x rest g m) more

    pub deduped : (s : List Place) (f : S) (kept : List Place) (g : S) → KeepsInTurn (AsksBeside objects asks) f None s kept g → IsDeduped (AsksBoth objects called) (test_of f) s kept
    deduped [] f kept g k = record { told = k.0 }
    deduped (x ∷ s) f kept g (answer, next, (value, stands, asked), rest, is, more) =
        let a = first f value answer next asked in by answer a.0 a.1 is more where
          by : (answer : Bool) → answer ≡ true → test_of next ≡ test_of f → kept ≡ cond answer (x ∷ rest) rest → KeepsInTurn (AsksBeside objects asks) next (cond answer (Some x) None) s rest g
              → IsDeduped (AsksBoth objects called) (test_of f) (x ∷ s) kept
          by false e t is more = absurd (cc)
          by true e t is more = record {
            told = subst (λ l. DedupsFrom (AsksBoth objects called) (test_of f) x s l) (sym is)
                (subst (λ q. DedupsFrom (AsksBoth objects called) q x s (x ∷ rest)) t (from_last s next x rest g more));
          }
