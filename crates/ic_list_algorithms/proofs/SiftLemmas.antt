-- A sift keeps or unlinks the members of a list, one member after the other, and these lemmas are about its steps.
use Rattle.std.proofs.Common.{◌≡◌, ◌<◌, Bool, true, false, not, cond, inl, inr, Option, Some, None, List, [], ◌∷◌, ◌++◌, drop, length, append_assoc, append-nil, refl, sym, ◌∙◌, ap, subst, arith}
use Rattle.std.specs.List.{AllByRecursion, filter}
use Rattle.ic_link_ops.specs.Prelude.{Place, Objects, object_at, IsAbsent, first, last, Table, IsCovered, ChangesOnlyIn, ArePlaced, RepresentsPlaced, LinkStep, releases_each, walked, ListHead, RepresentsChain}
use Rattle.ic_chain.proofs.Standing.{one_represented}
use Rattle.ic_link_ops.proofs.Prelude.{all_both, all_front, all_back, absent_left, absent_right, absent_both, distinct_right, first_is, last_of_push, nothing_first, chain_cut, releases_append, stretch_through}
use Rattle.ic_list_algorithms.specs.Walks.{passes, test_at}
use Rattle.ic_list_algorithms.proofs.WalkLemmas.{middle_holds, last_holds}
use Rattle.ic_list_algorithms.specs.Sifts.{sift, sift_out, IsMix, by_itself, object_there, keep_of, keep_at, SiftsTo, SiftsOne}

-- a test that always returns false, for lemmas that need a test but do not use it
abbrev pub no_keep : {V : Type 0} → Option V → V → Bool
no_keep prev x = false

-- if some sequence is represented for the list, and an object is at each of its members, then an object is at each member of the represented sequence
-- s
pub placed_here : {E W V : Type 0} {between : E → Option Place → Option Place → Type 0} {kept : Option Place → W} {step : E → Option Place → Option Place}
    → ((e : E) (b a : Option Place) → between e b a → step e b ≡ a) → {t : Table E} {list : ListHead W} {objects : Objects V} {s : List Place}
    → RepresentsPlaced (RepresentsChain between kept t list) objects → RepresentsChain between kept t list s → ArePlaced objects s
placed_here leads {objects = objects} p shown = subst (ArePlaced objects) (one_represented leads p.shown shown) p.placed

-- the test of places that calls the test of the member alone keeps a place if and only if the object at the place passes the test
same_test : {V : Type 0} (holds : V → Bool) (before here : Option V) → keep_of (by_itself holds) before here ≡ passes holds here
same_test holds before None = refl
same_test holds before (Some v) = refl

-- if two tests are equal, and the lists to choose from are equal, the chosen lists are equal
picked : (a b : Bool) (x : Place) {with_it without with_it' without' : List Place} → a ≡ b → with_it ≡ with_it' → without ≡ without'
    → (cond a (x ∷ with_it) without ≡ cond b (x ∷ with_it') without')
picked true true x e h k = ap (λ (l : List Place). x ∷ l) h
picked true false x e h k = absurd (cc)
picked false true x e h k = absurd (cc)
picked false false x e h k = k

picked_out : (a b : Bool) (x : Place) {with_it without with_it' without' : List Place} → a ≡ b → with_it ≡ with_it' → without ≡ without'
    → (cond a with_it (x ∷ without) ≡ cond (not b) (x ∷ without') with_it')
picked_out true true x e h k = h
picked_out true false x e h k = absurd (cc)
picked_out false true x e h k = absurd (cc)
picked_out false false x e h k = ap (λ (l : List Place). x ∷ l) k

-- if a test depends only on the member, the kept members are the members that pass a filter by this test
module _ {V : Type 0} (holds : V → Bool) (objects : Objects V) where
  pub kept_filtered : (prev : Option Place) (s : List Place) → sift (keep_at (by_itself holds) objects) prev s ≡ filter (test_at holds objects) s
  kept_filtered prev [] = refl
  kept_filtered prev (x ∷ s) =
      picked (keep_at (by_itself holds) objects prev x) (test_at holds objects x) x (same_test holds (object_there objects prev) (object_at objects x)) (kept_filtered (Some x) s) (kept_filtered prev s)

  pub out_filtered : (prev : Option Place) (s : List Place) → sift_out (keep_at (by_itself holds) objects) prev s ≡ filter (λ q. not (test_at holds objects q)) s
  out_filtered prev [] = refl
  out_filtered prev (x ∷ s) =
      picked_out (keep_at (by_itself holds) objects prev x) (test_at holds objects x) x (same_test holds (object_there objects prev) (object_at objects x)) (out_filtered (Some x) s) (out_filtered prev s)

-- `Trace`: which links the table has acquired and released between two states. `Holds`: a fact that holds for each member. `Lawful`: the condition
-- under which a member is kept exactly if `keep` says so
module _ {L E W : Type 0} (between : E → Option Place → Option Place → Type 0) (kept : Option Place → W) (table : L → Table E) (Trace : L → L → List LinkStep → Type 0)
    (Holds : Place → Type 0) (Lawful : Type 0) (keep : Option Place → Place → Bool) where
  -- a sift is in progress: of the first members of s, the members `done` are kept and the members `out` are unlinked. The members `rest` after them are as they
  -- were
  pub record Sifting (old new : L) (list : ListHead W) (s : List Place) (prev current : Option Place) : Type 0 where
    pub done : List Place
    pub rest : List Place
    pub out : List Place
    pub shown : RepresentsChain between kept (table new) list (done ++ rest)
    pub keeps : prev ≡ last done
    pub at : current ≡ first rest
    pub adds_none : (q : Place) → IsAbsent q s → IsAbsent q (done ++ rest)
    pub holds : AllByRecursion Holds (done ++ rest)
    pub mixes : (k o : List Place) → IsMix k o rest → IsMix (done ++ k) (out ++ o) s
    pub by_test : Lawful → (sift keep None s ≡ done ++ sift keep prev rest) × (sift_out keep None s ≡ out ++ sift_out keep prev rest)
    pub released : Trace old new (releases_each out)
    pub frame : ChangesOnlyIn (table old) (table new) s

  -- at first no members are kept or unlinked, and all members of s are left
  pub sift_begins : {t : L} {list : ListHead W} {s : List Place} {current : Option Place} → Trace t t [] → RepresentsChain between kept (table t) list s → current ≡ list.head
      → AllByRecursion Holds s → (k : Sifting t t list s None current) × (k.done ≡ []) × (k.rest ≡ s)
  sift_begins {s = s} nothing shown on holds = (
    record {
      done = [];
      rest = s;
      out = [];
      shown = shown;
      keeps = refl;
      at = on ∙ shown.head;
      adds_none = λ q h. h;
      holds = holds;
      mixes = λ k o m. m;
      by_test = λ law. (refl, refl);
      released = nothing;
      frame = record { extent = refl; others = λ q out. refl };
    },
    refl,
    refl,
  )

  module _ {old new : L} {list : ListHead W} {s : List Place} {prev current : Option Place} (k : Sifting old new list s prev current) where
    -- the next member p is the first of the members that are left
    pub sift_at : {p : Place} → current ≡ Some p → k.rest ≡ p ∷ drop 1 k.rest
    sift_at on = first_is k.rest (sym on ∙ k.at)

    pub sift_represented : {p : Place} → current ≡ Some p → RepresentsChain between kept (table new) list (k.done ++ p ∷ drop 1 k.rest)
    sift_represented on = subst (λ (l : List Place). RepresentsChain between kept (table new) list (k.done ++ l)) (sift_at on) k.shown

    pub sift_holds : {p : Place} → current ≡ Some p → Holds p
    sift_holds on = middle_holds Holds k.done (drop 1 k.rest) (subst (λ (l : List Place). AllByRecursion Holds (k.done ++ l)) (sift_at on) k.holds)

    pub sift_held : {q : Place} → prev ≡ Some q → Holds q
    sift_held on = last_holds Holds k.done k.rest (sym k.keeps ∙ on) k.holds

    -- at the end, when no member is left, the list has the members `done`
    pub sift_whole : current ≡ None → RepresentsChain between kept (table new) list k.done
    sift_whole over = let none : k.rest ≡ [] = nothing_first k.rest (sym over ∙ k.at) in rw (none, append-nil) at k.shown

    pub sift_ends : current ≡ None → SiftsTo (RepresentsChain between kept) table Trace Lawful old new list s (sift keep None s) (sift_out keep None s)
    sift_ends over =
        let none : k.rest ≡ [] = nothing_first k.rest (sym over ∙ k.at) in
        let by = k.by_test in
        record {
          kept = k.done;
          out = k.out;
          shown = rw (none, append-nil) at k.shown;
          released = k.released;
          mixed = rw (append-nil, append-nil) at (k.mixes [] [] (rw none (refl, refl)));
          by_test = λ law. (sym ((by law).0 ∙ rw none (append-nil k.done)), sym ((by law).1 ∙ rw none (append-nil k.out)));
          frame = k.frame;
        }

  -- the members left are the places to which the entries lead, and each step leaves one member less. `leads`: the law that an entry, with the place
  -- before it, names the place after it
  module _ (step : E → Option Place → Option Place) (leads : (e : E) (b a : Option Place) → between e b a → step e b ≡ a)
      (covered : (t : L) (q : Place) (b a : Option Place) → between ((table t).entry q) b a → IsCovered (table t) q) where
    sift_left : {old new : L} {list : ListHead W} {s : List Place} {prev current : Option Place} (k : Sifting old new list s prev current)
        → length (walked step (table new) prev current None) ≡ length k.rest
    sift_left {new = new} {current = current} k =
        let chain = (chain_cut between (table new).entry None k.done k.rest None k.shown.chain).1 in
        ap length (rw k.keeps (stretch_through step leads (table new) (covered new) {b = last k.done} {from = current} {to = last k.rest}
        (record { distinct = distinct_right k.done k.rest k.shown.distinct; chain = chain; starts = k.at; ends = refl })))

    pub sift_fewer : {old mid new : L} {list list' : ListHead W} {s : List Place} {prev current prev' next : Option Place} (k : Sifting old mid list s prev current)
        (m : Sifting old new list' s prev' next) → length m.rest < length k.rest
        → length (walked step (table new) prev' next None) < length (walked step (table mid) prev current None)
    sift_fewer k m fewer = omega (arith, sift_left k, sift_left m, fewer)

  -- one step keeps the next member p or unlinks it, and goes on to the member after p
  module _ (does_on : (a b c : L) (s t : List LinkStep) → Trace a b s → Trace b c t → Trace a c (s ++ t))
      {old mid : L} {list : ListHead W} {s : List Place} {prev current : Option Place} {p : Place} {r : List Place} (k : Sifting old mid list s prev current) (is : k.rest ≡ p ∷ r) where
    pub sift_turns : {new : L} {list' : ListHead W} {prev' next : Option Place} (kept_here : Bool) → (Lawful → keep prev p ≡ kept_here)
        → SiftsOne (RepresentsChain between kept) table Trace kept_here mid new list' k.done p r prev' next
        → (m : Sifting old new list' s prev' next) × (length m.rest < length k.rest) × (m.done ≡ k.done ++ cond kept_here (p ∷ []) []) × (m.rest ≡ r)
    sift_turns {new} {list'} {prev'} {next} true tells one = (
      record {
        done = k.done ++ p ∷ [];
        rest = r;
        out = k.out;
        shown = one.shown;
        keeps = one.last_kept;
        at = one.after;
        adds_none = λ q h. rw (append_assoc k.done (p ∷ []) r) (rw is at (k.adds_none q h));
        holds = rw (append_assoc k.done (p ∷ []) r) (rw is at k.holds);
        mixes = λ x o m. rw (append_assoc k.done (p ∷ []) x) (k.mixes (p ∷ x) o (rw is (inl (x, refl, m))));
        by_test = λ law.
            let by = rw is at (k.by_test law) in
            let then = rw (tells law) at by in
            let last_one : prev' ≡ Some p = one.last_kept ∙ last_of_push k.done p in
            rw last_one (then.0 ∙ sym (append_assoc k.done (p ∷ []) (sift keep (Some p) r)), then.1);
        released = rw append-nil at (does_on old mid new (releases_each k.out) [] k.released one.released);
        frame = record {
          extent = one.frame.extent ∙ k.frame.extent;
          others = λ q h. one.frame.others q (rw is at (k.adds_none q h)) ∙ k.frame.others q h;
        };
      },
      omega (arith, ap length is),
      refl,
      refl,
    )
    sift_turns {new} {list'} {prev'} {next} false tells one = (
      record {
        done = k.done;
        rest = r;
        out = k.out ++ p ∷ [];
        shown = rw append-nil at one.shown;
        keeps = rw append-nil at one.last_kept;
        at = one.after;
        adds_none = λ q h. let h' : IsAbsent q (k.done ++ p ∷ r) = rw is at (k.adds_none q h) in absent_both q k.done r (absent_left q k.done (p ∷ r) h') (absent_right q k.done (p ∷ r) h').1;
        holds =
            let h' : AllByRecursion Holds (k.done ++ p ∷ r) = rw is at k.holds in
            all_both Holds k.done r (all_front Holds k.done (p ∷ r) h') (all_back Holds k.done (p ∷ r) h').1;
        mixes = λ x o m. rw (append_assoc k.out (p ∷ []) o) (k.mixes x (p ∷ o) (rw is (inr (o, refl, m))));
        by_test = λ law.
            let by = rw is at (k.by_test law) in
            let then = rw (tells law) at by in
            let same : prev' ≡ prev = (rw append-nil at one.last_kept) ∙ sym k.keeps in
            rw same (then.0, then.1 ∙ sym (append_assoc k.out (p ∷ []) (sift_out keep prev r)));
        released = rw (releases_append k.out (p ∷ [])) (does_on old mid new (releases_each k.out) (releases_each (p ∷ [])) k.released one.released);
        frame = record {
          extent = one.frame.extent ∙ k.frame.extent;
          others = λ q h. one.frame.others q (rw is at (k.adds_none q h)) ∙ k.frame.others q h;
        };
      },
      omega (arith, ap length is),
      sym (append-nil k.done),
      refl,
    )

-- if `Asked` implies `Lawful`, and the kept and unlinked members are the same, a sift under the condition `Lawful` is a sift under the condition `Asked`
pub sifts_as : {L E H : Type 0} {Represents : Table E → H → List Place → Type 0} {table : L → Table E} {Trace : L → L → List LinkStep → Type 0} {Lawful Asked : Type 0} {old new : L} {head : H}
    {s kept_by out_by kept_by' out_by' : List Place} → (Asked → Lawful) → kept_by ≡ kept_by' → out_by ≡ out_by' → SiftsTo Represents table Trace Lawful old new head s kept_by out_by
    → SiftsTo Represents table Trace Asked old new head s kept_by' out_by'
sifts_as law same same_out k = record {
  kept = k.kept;
  out = k.out;
  shown = k.shown;
  released = k.released;
  mixed = k.mixed;
  by_test = λ asked. ((k.by_test (law asked)).0 ∙ same, (k.by_test (law asked)).1 ∙ same_out);
  frame = k.frame;
}
