-- These lemmas are about runs of places: the numbers of the places, their faults, and how a run is inserted.
use Rattle.std.proofs.Common.{◌≡◌, ◌≢◌, ℕ, zero, suc, ◌+◌, ◌-◌, ◌*◌, ◌%◌, ◌<◌, Bool, true, false, cond, nat_lt, Option, Some, None, List, [], ◌∷◌, ◌++◌, length, map, refl, sym, ap, ◌∙◌, subst, inl, inr, arith, append_assoc, append-nil, lt-ltb, ltb-true}
use Rattle.std.proofs.lemmas.Bool.Decides.{eqb_tells}
use Rattle.std.proofs.lemmas.List.{map-append}
use Rattle.ic_link_ops.specs.Prelude.{Place, index_of, place_at, Cut, join, first_or, last, last_or, IsAbsent, Table, ChangesOnlyIn, LinksAlso, LinkStep, TraceIs, acquires, table_of, wide, Ends, ListHead, RepresentsChain, TurnsEnds, end_of, Inserts, Splices}
use Rattle.ic_unsafe_ref.proofs.PlaceLemmas.{index_at}
use Rattle.ic_link_ops.specs.StepLaws.{replays_on}
use Rattle.ic_link_ops.proofs.SequenceLemmas.{some_same, none_not, absent_left, absent_right, absent_both, last_not, last_of_push, last_or-append}
use Rattle.ic_raw.specs.declared.gap.Gap.{Gap}
use Rattle.ic_raw.specs.declared.table.RawTable.{RawTable}
use Rattle.ic_raw.specs.Prelude.{refusal, IsFree, place_fault, raw_entries, raw_table, place_of}
use Rattle.ic_raw.specs.Fills.{IsRun, run_faults, first_fault, last_of_run, AreFree, IsFreeRun, TouchesRun}
use Rattle.ic_raw.specs.Gaps.{Turns}
use Rattle.ic_raw.specs.Touches.{IsNoneOf}
use Rattle.ic_raw.proofs.Faults.{place_fault_back}
use Rattle.ic_raw.proofs.Numbers.{none_named}
use Rattle.ic_raw.proofs.Touches.{touched_back}

-- a number that names a place is not the last number of 32 bits, so that the next number also has 32 bits
pub number_small : (i : ℕ) (p : Place) → place_of i ≡ Some p → i < 4294967296 → i + 1 < 4294967296
number_small i p is fits = elim (eqb_tells i 4294967295) [
  | inl h ↦ absurd (none_not p (sym none_named ∙ sym (ap place_of h.1) ∙ is))
  | inr h ↦ omega (arith, h.1, fits)
]

-- a number that names a place is the index of the place
number_index : (i : ℕ) (p : Place) → place_of i ≡ Some p → i < 4294967296 → i ≡ index_of p
number_index i p is fits =
    let small = number_small i p is fits in
    let same : 8 * (i + 1) ≡ 8 * ((i + 1) % 4294967296) = omega (arith, small) in
    index_at i p (ap place_at same ∙ is)

-- no place is in a run twice, because the numbers of a run differ
pub run_absent : (i j : ℕ) (p : Place) (run : List Place) → place_of i ≡ Some p → i < j → j < 4294967296 → IsRun j run → IsAbsent p run
run_absent i j p [] is less fits r = tt
run_absent i j p (q ∷ run) is less fits r =
    let at_p = number_index i p is (omega (arith, less, fits)) in
    let at_q = number_index j q r.0 fits in (
      (λ e. let same : index_of p ≡ index_of q = ap index_of e in absurd (omega (arith, at_p, at_q, same, less))),
      run_absent i (j + 1) p run is (omega (arith, less)) (number_small j q r.0 fits) r.1,
    )

-- two runs from one number are equal if they have equally many places
pub one_run : (first : ℕ) (a b : List Place) → IsRun first a → IsRun first b → length a ≡ length b → a ≡ b
one_run first [] [] n m e = refl
one_run first [] (q ∷ b) n m e = absurd (omega (arith, e))
one_run first (p ∷ a) [] n m e = absurd (omega (arith, e))
one_run first (p ∷ a) (q ∷ b) n m e =
    let same : p ≡ q = some_same (sym n.0 ∙ m.0) in
    let rest : a ≡ b = one_run (first + 1) a b n.1 m.1 (omega (arith, e)) in
    λ k. same k ∷ rest k

-- the first place of a run of `count` places has the number `first`, and the last place is `last_of_run first count`
run_begins : (run : List Place) (first count : ℕ) (end : Option Place) → IsRun first run → length run ≡ count → count ≢ 0 → first_or run end ≡ place_of first
run_begins [] first count end n c some = absurd (some (sym c))
run_begins (p ∷ run) first count end n c some = sym n.0

run_ends : (run : List Place) (first count : ℕ) (end : Option Place) → IsRun first run → length run ≡ count → count ≢ 0 → last_or end run ≡ last_of_run first count
run_ends [] first count end n c some = absurd (some (sym c))
run_ends (p ∷ []) first count end n c some =
    let same : first ≡ first + (count - 1) = omega (arith, c) in
    sym n.0 ∙ ap place_of same
run_ends (p ∷ q ∷ run) first count end n c some =
    let same : first + 1 + (count - 1 - 1) ≡ first + (count - 1) = omega (arith, c) in
    run_ends (q ∷ run) (first + 1) (count - 1) (Some p) n.1 (omega (arith, c)) (λ none. absurd (omega (arith, c, none))) ∙ ap place_of same

-- a place that differs from each place of a run is not in the run
absent_run : (q : Place) (run : List Place) → IsNoneOf (map Some run) q → IsAbsent q run
absent_run q [] out = tt
absent_run q (x ∷ run) out = ((λ e. out.0 (ap Some (sym e))), absent_run q run out.1)

-- if a list of faults has a fault, a refused call returns the first one
pub refused_by : (faults : List ℕ) → first_fault faults ≢ 0 → first_fault faults ≡ refusal faults
refused_by [] fault = absurd (fault refl)
refused_by (zero ∷ faults) fault = refused_by faults fault
refused_by (suc m ∷ faults) fault = refl

-- if a list of faults has no fault, a refused call returns `BROKEN`, because the words do not fit together
pub none_refused : (faults : List ℕ) → first_fault faults ≡ 0 → 5 ≡ refusal faults
none_refused [] none = refl
none_refused (zero ∷ faults) none = none_refused faults none
none_refused (suc m ∷ faults) none = cc

pub first_is : (n : ℕ) (faults : List ℕ) → n ≢ 0 → n ≡ first_fault (n ∷ faults)
first_is zero faults fault = absurd (fault refl)
first_is (suc n) faults fault = refl

-- the list of the faults of `left` places begins with the fault of the first of these places
pub faults_left : (fault : Option Place → ℕ) (number left : ℕ) → 0 < left → run_faults fault number left ≡ fault (place_of number) ∷ run_faults fault (number + 1) (left - 1)
faults_left fault number zero some = absurd (omega (arith, some))
faults_left fault number (suc left) some = let e : suc left - 1 ≡ left = omega arith in rw e refl

module _ {W : Type 0} (linked : W → Bool) (t : Table W) where
  -- a place without a fault is free
  pub free_of : (o : Option Place) → place_fault linked t o ≡ 0 → (p : Place) × (o ≡ Some p) × IsFree linked t p
  free_of None none = cc
  free_of (Some p) none = pick (nat_lt (index_of p) t.extent.places) refl (linked (t.entry p)) refl none where
    pick : (b : Bool) → nat_lt (index_of p) t.extent.places ≡ b → (c : Bool) → linked (t.entry p) ≡ c → ◌≡◌ {A = ℕ} (cond b (cond c 2 0) 1) 0
        → (q : Place) × (Some p ≡ Some q) × IsFree linked t q
    pick true h false k none = (p, refl, record { covered = ltb-true (index_of p) t.extent.places h; unlinked = k })
    pick true h true k none = cc
    pick false h c k none = cc

  -- a free place has no fault
  no_fault : (p : Place) → IsFree linked t p → place_fault linked t (Some p) ≡ 0
  no_fault p free =
      let inside : place_fault linked t (Some p) ≡ cond (linked (t.entry p)) 2 0 = ap (λ b. cond b (cond (linked (t.entry p)) 2 0) 1) (lt-ltb (index_of p) t.extent.places free.covered) in
      let off : cond (linked (t.entry p)) 2 0 ≡ 0 = ap (λ c. cond c 2 0) free.unlinked in
      inside ∙ off

  -- a run without a fault is free
  pub free_run : (first count : ℕ) → first_fault (run_faults (place_fault linked t) first count) ≡ 0 → IsFreeRun linked t first count
  free_run first zero none = record { run = []; numbered = tt; counted = refl; free = tt }
  free_run first (suc count) none = more (place_fault linked t (place_of first)) refl none (λ h. free_run (first + 1) count h) where
    more : (m : ℕ) → place_fault linked t (place_of first) ≡ m → first_fault (m ∷ run_faults (place_fault linked t) (first + 1) count) ≡ 0
        → (first_fault (run_faults (place_fault linked t) (first + 1) count) ≡ 0 → IsFreeRun linked t (first + 1) count) → IsFreeRun linked t first (suc count)
    more zero is none others =
        let one = free_of (place_of first) is in
        let rest = others none in
        record { run = one.0 ∷ rest.run; numbered = (one.1, rest.numbered); counted = omega (arith, rest.counted); free = (one.2, rest.free) }
    more (suc m) is none others = cc

  no_faults : (run : List Place) (first count : ℕ) → IsRun first run → length run ≡ count → AreFree linked t run → first_fault (run_faults (place_fault linked t) first count) ≡ 0
  no_faults [] first zero n c f = refl
  no_faults [] first (suc count) n c f = absurd (omega (arith, c))
  no_faults (p ∷ run) first zero n c f = absurd (omega (arith, c))
  no_faults (p ∷ run) first (suc count) n c f =
      let none : place_fault linked t (place_of first) ≡ 0 = ap (place_fault linked t) n.0 ∙ no_fault p f.0 in
      ap (λ m. first_fault (m ∷ run_faults (place_fault linked t) (first + 1) count)) none ∙ no_faults run (first + 1) count n.1 (omega (arith, c)) f.1

  pub run_faultless : (first count : ℕ) → IsFreeRun linked t first count → first_fault (run_faults (place_fault linked t) first count) ≡ 0
  run_faultless first count r = no_faults r.run first count r.numbered r.counted r.free

  -- THE RUN THAT IS LEFT consists of its next place, whose number is `number`, and of the run after this place
  pub record Begins (number left : ℕ) (run : List Place) : Type 0 where
    pub next : Place
    pub rest : List Place
    pub is : run ≡ next ∷ rest
    pub named : place_of number ≡ Some next
    pub free : IsFree linked t next
    pub numbered : IsRun (number + 1) rest
    pub counted : length rest ≡ left - 1
    pub others : AreFree linked t rest

  pub begins : (number left : ℕ) (r : IsFreeRun linked t number left) → 0 < left → Begins number left r.run
  begins number left r some = pick r.run r.numbered r.counted r.free where
    pick : (run : List Place) → IsRun number run → length run ≡ left → AreFree linked t run → Begins number left run
    pick [] n c f = absurd (omega (arith, c, some))
    pick (p ∷ run) n c f = record { next = p; rest = run; is = refl; named = n.0; free = f.0; numbered = n.1; counted = omega (arith, c); others = f.1 }

  pub none_left : (number left : ℕ) (r : IsFreeRun linked t number left) → left ≡ 0 → r.run ≡ []
  none_left number left r none = pick r.run r.counted where
    pick : (run : List Place) → length run ≡ left → run ≡ []
    pick [] c = refl
    pick (p ∷ run) c = absurd (omega (arith, c, none))

-- free places stay free if only the mark of another place changes
pub free_beside : {W : Type 0} (linked : W → Bool) (t u : Table W) (p : Place) (run : List Place) → u.extent ≡ t.extent → ((q : Place) → q ≢ p → linked (u.entry q) ≡ linked (t.entry q))
    → IsAbsent p run → AreFree linked t run → AreFree linked u run
free_beside linked t u p [] same others out f = tt
free_beside linked t u p (q ∷ run) same others out f = (
  record { covered = rw same f.0.covered; unlinked = others q (λ e. out.0 (sym e)) ∙ f.0.unlinked },
  free_beside linked t u p run same others out.1 f.1,
)

-- a function that links each free place does not refuse the next place of a free run
pub not_refused : {W : Type 0} {linked : W → Bool} {t : Table W} {number left : ℕ} {asked taken : Option Place} → IsFreeRun linked t number left → 0 < left
    → asked ≡ place_of number → ((p : Place) → asked ≡ Some p → IsFree linked t p → taken ≡ Some p) → taken ≢ None
not_refused {linked = linked} {t} {number} {left} r some is accepted none =
    let b = begins linked t number left r some in
    none_not b.next (sym none ∙ accepted b.next (is ∙ b.named) b.free)

-- the run after the next place stays free if only the next place is linked
pub run_after : {W : Type 0} {linked : W → Bool} {t u : Table W} {number left : ℕ} (p : Place) → place_of number ≡ Some p → number + 1 < 4294967296 → u.extent ≡ t.extent
    → ((q : Place) → q ≢ p → linked (u.entry q) ≡ linked (t.entry q)) → (r : IsFreeRun linked t number left) → 0 < left
    → (rest : IsFreeRun linked u (number + 1) (left - 1)) × (r.run ≡ p ∷ rest.run)
run_after {linked = linked} {t} {u} {number} {left} p named small same others r some =
    let b = begins linked t number left r some in
    let one : b.next ≡ p = some_same (sym b.named ∙ named) in
    let out = run_absent number (number + 1) p b.rest named (omega arith) small b.numbered in (
      record { run = b.rest; numbered = b.numbered; counted = b.counted; free = free_beside linked t u p b.rest same others out b.others },
      b.is ∙ ap (λ (z : Place). z ∷ b.rest) one,
    )

module _ {E W : Type 0} (between : E → Option Place → Option Place → Type 0) (keep : Option Place → W) where
  -- THE PLACES `done` OF A RUN are in the list, after the members before the gap, and the places `rest` are not in the list yet
  pub record Fills (old now : Table E) (list : ListHead W) (gap : Cut) (before : Option Place) (run rest : List Place) : Type 0 where
    pub done : List Place
    pub parts : run ≡ done ++ rest
    pub shows : RepresentsChain between keep now list ((gap.front ++ done) ++ gap.back)
    pub after : before ≡ last (gap.front ++ done)
    pub frame : ChangesOnlyIn old now ((gap.front ++ done) ++ gap.back)

  -- before the first step, no place of the run is in the list
  pub fills_none : {t : Table E} {list : ListHead W} (gap : Cut) {before : Option Place} {run rest : List Place} → run ≡ rest → RepresentsChain between keep t list (join gap)
      → before ≡ last gap.front → Fills t t list gap before run rest
  fills_none {t} {list} gap all shown after = record {
    done = [];
    parts = all;
    shows = subst (λ s. RepresentsChain between keep t list (s ++ gap.back)) (sym (append-nil gap.front)) shown;
    after = after ∙ sym (ap last (append-nil gap.front));
    frame = record { extent = refl; others = λ q out. refl };
  }

  -- one more place of the run is inserted into the list
  pub fills_more : {old now new : Table E} {list list' : ListHead W} (gap : Cut) {before : Option Place} {run : List Place} (p : Place) {rest : List Place}
      → (k : Fills old now list gap before run (p ∷ rest)) → Inserts (RepresentsChain between keep) now new list' (record { front = gap.front ++ k.done; back = gap.back }) p
      → Fills old new list' gap (Some p) run rest
  fills_more {new = new} {list' = list'} gap p {rest} k i =
      let f = gap.front in
      let b = gap.back in
      let d = k.done in
      let same : (f ++ d) ++ p ∷ b ≡ (f ++ (d ++ p ∷ [])) ++ b =
      append_assoc f d (p ∷ b) ∙ ap (λ (s : List Place). f ++ s) (sym (append_assoc d (p ∷ []) b)) ∙ sym (append_assoc f (d ++ p ∷ []) b) in
      record {
        done = d ++ p ∷ [];
        parts = k.parts ∙ sym (append_assoc d (p ∷ []) rest);
        shows = subst (λ s. RepresentsChain between keep new list' s) same i.shows;
        after = sym (ap last (sym (append_assoc f d (p ∷ []))) ∙ last_of_push (f ++ d) p);
        frame = record {
          extent = i.frame.extent ∙ k.frame.extent;
          others = λ q out.
              let away = subst (IsAbsent q) (sym same) out in
              let right = absent_right q (f ++ d) (p ∷ b) away in
              let both = absent_both q (f ++ d) b (absent_left q (f ++ d) (p ∷ b) away) right.1 in
              i.frame.others q (right.0, both) ∙ k.frame.others q both;
        };
      }

  -- if no place of the run is left, the whole run is in the list
  pub fills_all : {old now : Table E} {list : ListHead W} (gap : Cut) {before : Option Place} {run rest : List Place} → Fills old now list gap before run rest → rest ≡ []
      → Splices (RepresentsChain between keep) old now list gap run
  fills_all {old} {now} {list} gap {run = run} {rest} k none =
      let all : k.done ≡ run = sym (k.parts ∙ ap (λ (s : List Place). k.done ++ s) none ∙ append-nil k.done) in
      let same : (gap.front ++ k.done) ++ gap.back ≡ gap.front ++ (run ++ gap.back) =
      append_assoc gap.front k.done gap.back ∙ ap (λ (s : List Place). gap.front ++ (s ++ gap.back)) all in
      record {
        shows = subst (λ s. RepresentsChain between keep now list s) same k.shows;
        frame = subst (λ s. ChangesOnlyIn old now s) same k.frame;
      }

-- an end of a list stays if it is replaced by itself
end_again : (at end : Option Place) → end_of at end end ≡ end
end_again None end = refl
end_again (Some x) end = refl

end_after : (x : Place) (s : List Place) (fresh end : Option Place) → end_of (last_or (Some x) s) fresh end ≡ end
end_after x [] fresh end = refl
end_after x (y ∷ s) fresh end = end_after y s fresh end

-- ONE MORE PLACE is inserted after the places of the run that are in the list: if no member is before the gap, the list begins with the first place
-- of the run
head_on : (done : List Place) (p : Place) (at was : Option Place) {before head head' : Option Place} → before ≡ last_or at done → head ≡ end_of at (first_or done was) was
    → head' ≡ end_of before (Some p) head → head' ≡ end_of at (first_or (done ++ p ∷ []) was) was
head_on [] p at was after is turns = turns ∙ (λ k. end_of (after k) (Some p) ((is ∙ end_again at was) k))
head_on (x ∷ s) p at was {head = head} after is turns = turns ∙ ap (λ b. end_of b (Some p) head) after ∙ end_after x s (Some p) head ∙ is

-- if no member is after the gap, the list ends with the last inserted place of the run
tail_on : (done : List Place) (p : Place) (after end : Option Place) → end_of after (Some p) (end_of after (last_or end done) end) ≡ end_of after (last_or end (done ++ p ∷ [])) end
tail_on done p None end = sym (last_or-append end done (p ∷ []))
tail_on done p (Some x) end = refl

-- `Names` says that the entry of a place also names the place before it
module _ {E W : Type 0} (linked : E → Bool) (keep : Option Place → W) (Names : Type 0) where
  -- THE PLACES `done` OF A RUN are linked between the two sides of the gap, and the places `rest` are not linked yet. This holds whatever the entries
  -- say
  pub record LinksRun (old now : Table E) (list list' : ListHead W) (gap : Gap) (before : Option Place) (run rest : List Place) : Type 0 where
    pub done : List Place
    pub parts : run ≡ done ++ rest
    pub after : before ≡ last_or gap.before done
    pub steps : TraceIs linked old now (map acquires done)
    pub others : (q : Place) → IsAbsent q done → gap.before ≢ Some q → (Names → gap.after ≢ Some q) → now.entry q ≡ old.entry q
    pub head : list'.head ≡ end_of gap.before (first_or done list.head) list.head
    pub tail : (end : Option Place) → list.tail ≡ keep end → list'.tail ≡ keep (end_of gap.after (last_or end done) end)

  -- before the first step, no place of the run is linked
  pub links_none : {t : Table E} {list : ListHead W} (gap : Gap) {run : List Place} → LinksRun t t list list gap gap.before run run
  links_none {list} gap = record {
    done = [];
    parts = refl;
    after = refl;
    steps = λ q. refl;
    others = λ q out away beyond. refl;
    head = sym (end_again gap.before list.head);
    tail = λ end is. is ∙ ap keep (sym (end_again gap.after end));
  }

  -- one more place of the run is linked
  pub links_more : {old now new : Table E} {list was list' : ListHead W} {gap : Gap} {before : Option Place} {run : List Place} (p : Place) {rest : List Place}
      → LinksRun old now list was gap before run (p ∷ rest) → LinksAlso linked now new p
      → ((q : Place) → before ≢ Some q → q ≢ p → (Names → gap.after ≢ Some q) → new.entry q ≡ now.entry q)
      → TurnsEnds keep was list' before gap.after (Some p) (Some p) → LinksRun old new list list' gap (Some p) run rest
  links_more {old} {now} {new} {list = list} {gap = gap} p {rest} k also others turns = record {
    done = k.done ++ p ∷ [];
    parts = k.parts ∙ sym (append_assoc k.done (p ∷ []) rest);
    after = sym (last_or-append gap.before k.done (p ∷ []));
    steps = rw map-append (replays_on linked (map acquires k.done) (acquires p ∷ []) old now new k.steps also);
    others = λ q out away beyond.
        let ahead = absent_left q k.done (p ∷ []) out in
        let apart = absent_right q k.done (p ∷ []) out in
        others q (λ e. last_not gap.before k.done q away ahead (sym k.after ∙ e)) apart.0 beyond ∙ k.others q ahead away beyond;
    head = head_on k.done p gap.before list.head k.after k.head turns.head;
    tail = λ end is. turns.tail _ (k.tail end is) ∙ ap keep (tail_on k.done p gap.after end);
  }

  -- if no place of the run is left, all its places are linked. The edit touches no other place if it changes no entry after the gap, or if there are
  -- no members after the gap
  module _ {old now : Table E} {list list' : ListHead W} {gap : Gap} {before : Option Place} {run rest : List Place} (k : LinksRun old now list list' gap before run rest)
      (none : rest ≡ []) where
    all_done : k.done ≡ run
    all_done = sym (k.parts ∙ ap (λ (s : List Place). k.done ++ s) none ∙ append-nil k.done)

    pub touches_run : (Names → gap.after ≡ None) → TouchesRun linked old now run gap.before
    touches_run outermost = record {
      steps_are = subst (λ s. TraceIs linked old now (map acquires s)) all_done k.steps;
      others = λ q out. k.others q (subst (IsAbsent q) (sym all_done) (absent_run q run out.1)) out.0 (λ names e. none_not q (sym (outermost names) ∙ e));
    }

    -- the list's own words name the first place of the run if no member is before the gap, and the last place of the run if no member is after the
    -- gap
    pub turns_run : (first count : ℕ) → IsRun first run → length run ≡ count → count ≢ 0 → TurnsEnds keep list list' gap.before gap.after (place_of first) (last_of_run first count)
    turns_run first count numbered counted some = record {
      head = k.head ∙ ap (λ o. end_of gap.before o list.head) (ap (λ (s : List Place). first_or s list.head) all_done ∙ run_begins run first count list.head numbered counted some);
      tail = λ end is.
          k.tail end is ∙ ap (λ o. keep (end_of gap.after o end)) (ap (λ (s : List Place). last_or end s) all_done ∙ run_ends run first count end numbered counted some);
    }

-- a run without places is free, and an edit that inserts no place changes nothing
pub free_none : {W : Type 0} {linked : W → Bool} {t : Table W} {first count : ℕ} → count ≡ 0 → IsFreeRun linked t first count
free_none none = record { run = []; numbered = tt; counted = sym none; free = tt }

pub splices_none : {E H : Type 0} {Represents : Table E → H → List Place → Type 0} {t : Table E} {list : H} (cut : Cut) {run : List Place} → Represents t list (join cut) → run ≡ []
    → Splices Represents t t list cut run
splices_none {Represents = Represents} {t} {list} cut shown none =
    let nothing : Splices Represents t t list cut [] = record { shows = shown; frame = record { extent = refl; others = λ q out. refl } } in
    subst (λ run. Splices Represents t t list cut run) (sym none) nothing

pub touches_no_run : {W : Type 0} {linked : W → Bool} {t : Table W} {first count : ℕ} {end : Option Place} → count ≡ 0 → (free : IsFreeRun linked t first count)
    → TouchesRun linked t t free.run end
touches_no_run {linked = linked} {t} {first} {count} none free = record {
  steps_are = subst (λ s. TraceIs linked t t (map acquires s)) (sym (none_left linked t first count free none)) (λ q. refl);
  others = λ q out. refl;
}

-- the ends that the words of a list name change in the same way as the ends of the list in a view. The gap `gap` is the one that the call found
pub turns_back : {was old new written : Ends} {found gap : Gap} {begins ends : Option Place} → found ≡ gap → was ≡ old → written ≡ new
    → TurnsEnds (λ last. last) was new found.before found.after begins ends → Turns gap begins ends old written
turns_back same read write turns = rw (← same, ← read, write) (record { head = turns.head; tail = turns.tail _ refl })

-- WHAT HOLDS OF A VIEW holds of the words that the caller lent, and the other way round
module _ {W : Type 0} (linked : W → Bool) (unlinked : W) where
  pub are_viewed : (t : RawTable W) (run : List Place) → AreFree linked (table_of unlinked (raw_entries t)) run → AreFree linked (raw_table unlinked t) run
  are_viewed t [] f = tt
  are_viewed t (p ∷ run) f = (record { covered = f.0.covered; unlinked = f.0.unlinked }, are_viewed t run f.1)

  are_back : (t : RawTable W) (run : List Place) → AreFree linked (raw_table unlinked t) run → AreFree linked (table_of unlinked (raw_entries t)) run
  are_back t [] f = tt
  are_back t (p ∷ run) f = (record { covered = f.0.covered; unlinked = f.0.unlinked }, are_back t run f.1)

  unfoldable pub run_viewed : {es : List W} (t : RawTable W) {first count : ℕ} → raw_entries t ≡ es → IsFreeRun linked (table_of unlinked es) first count
      → IsFreeRun linked (raw_table unlinked t) first count
  run_viewed t e r = record {
    run = r.run;
    numbered = r.numbered;
    counted = r.counted;
    free = are_viewed t r.run (subst (λ fs. AreFree linked (table_of unlinked fs) r.run) (sym e) r.free);
  }

  pub run_back : {es : List W} (t : RawTable W) {first count : ℕ} → raw_entries t ≡ es → IsFreeRun linked (raw_table unlinked t) first count
      → IsFreeRun linked (table_of unlinked es) first count
  run_back t e r = record {
    run = r.run;
    numbered = r.numbered;
    counted = r.counted;
    free = subst (λ fs. AreFree linked (table_of unlinked fs) r.run) e (are_back t r.run r.free);
  }

  -- what a fill touches in a view is what it touches in the words that the caller lent. The run is inserted after the place `end`, which is before
  -- the gap that the call found
  pub run_touched : {Names : Type 0} (a b : RawTable W) {es fs : List W} {found : Option Gap} {end : Option Place} {first count : ℕ} → raw_entries a ≡ es → fs ≡ raw_entries b
      → ((g : Gap) → found ≡ Some g → (Names → g.after ≡ None) → (free : IsFreeRun linked (raw_table unlinked a) first count)
      → TouchesRun linked (raw_table unlinked a) (raw_table unlinked b) free.run g.before)
      → ((g : Gap) × (found ≡ Some g)) → ((g : Gap) → found ≡ Some g → (g.before ≡ end) × (Names → g.after ≡ None))
      → (free : IsFreeRun linked (table_of unlinked es) first count) → TouchesRun linked (table_of unlinked es) (table_of unlinked fs) free.run end
  unfolding run_viewed
  run_touched a b view words touched gap links_back free =
      let at = links_back gap.0 gap.1 in
      touched_back unlinked a b view words (ap (λ e. e ∷ map Some free.run) (sym at.0)) (touched gap.0 gap.1 at.1 (run_viewed a view free))

  same_faults : (t : RawTable W) (first count : ℕ)
      → run_faults (place_fault linked (raw_table unlinked t)) first count ≡ run_faults (place_fault linked (table_of unlinked (raw_entries t))) first count
  same_faults t first zero = refl
  same_faults t first (suc count) = λ k. place_fault_back linked wide unlinked t (place_of first) k ∷ same_faults t (first + 1) count k

  pub why_back : {es : List W} (t : RawTable W) (first count : ℕ) {n : ℕ} → raw_entries t ≡ es → n ≡ refusal (run_faults (place_fault linked (raw_table unlinked t)) first count)
      → n ≡ refusal (run_faults (place_fault linked (table_of unlinked es)) first count)
  why_back t first count {n} e why =
      subst (λ fs. n ≡ refusal (run_faults (place_fault linked (table_of unlinked fs)) first count)) e (why ∙ ap refusal (same_faults t first count))
