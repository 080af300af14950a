-- How a check marks the members of the collections of a table, one collection after the other.
use Rattle.std.proofs.Common.{◌≡◌, ℕ, zero, suc, ◌+◌, ◌*◌, ◌<◌, ◌≤◌, Bool, not, MatchOption, IfSome, cond, true, false, Option, Some, None, List, [], ◌∷◌, ◌++◌, drop, length, length-append, slice_set, slice_index_or, refl, sym, ap, ◌∙◌, subst, arith, append_assoc, append-nil, true≢false, inl, inr}
use Rattle.ic_link_ops.specs.Prelude.{Place, index_of, place_at, IsAbsent, IsMember, IsDistinct, IsDisjoint, first, Table, IsLinked}
use Rattle.ic_unsafe_ref.proofs.PlaceLemmas.{same_or_not, same_index, place_with, place_at_word}
use Rattle.ic_link_ops.proofs.Prelude.{others_same, entry_same, absent_left, absent_right, absent_both, first_is, nothing_first, distinct_middle, distinct_disjoint, distinct_splice, disjoint_left, disjoint_sym, few_places}
use Rattle.std.proofs.lemmas.Bool.{cases_lt}
use Rattle.ic_check.specs.Checked.{IsRepresented, RepresentsNone}
use Rattle.ic_check.specs.WholeTables.{RepresentsEach, RepresentsEachOnce, AreUnmarked, MarksAlso, MarksLinked, IsGathered, IsMarking, LeavesMarked, RepresentsNoneUnmarked, is_marked, many_marked, IsMissed}
use Rattle.ic_check.proofs.Checking.{absent_or}
use Rattle.std.proofs.lemmas.List.{length-set, get_or-set_other, get_or_past}
use Rattle.std.proofs.lemmas.List.Sums.{sum_by-set, sum_by-cons}
use Rattle.std.proofs.lemmas.Grind.{get_or-set_at}

-- no place is newly marked if the marks stay as they are
pub also_none : (marks : List Bool) → MarksAlso marks marks []
also_none marks = record { long = refl; more = omega arith; marked = λ p member. absurd (member tt); others = λ p out. refl }

-- if a mark is set that was not set before, the number of set marks grows by 1
pub set_more : (marks : List Bool) (i : ℕ) → i < length marks → slice_index_or marks i false ≡ false → many_marked (slice_set marks i true) ≡ many_marked marks + 1
set_more marks i few free =
    let weigh : Bool → ℕ = λ mark. cond mark 1 0 in
    let sums = sum_by-set weigh marks i true false few in
    let was : weigh (slice_index_or marks i false) ≡ 0 = ap weigh free in
    omega (arith, sums, was)

-- if the members of s are newly marked and the unmarked place p is then marked, the members of s and p are newly marked
pub also_more : {old marks : List Bool} {s : List Place} (p : Place) (i : ℕ) → MarksAlso old marks s → is_marked marks p ≡ false → i ≡ index_of p → i < length marks
    → MarksAlso old (slice_set marks i true) (s ++ p ∷ [])
also_more {old} {marks} {s} p i a free at few = record {
  long = length-set marks i true ∙ a.long;
  more = omega (arith, set_more marks i few (subst (λ (j : ℕ). slice_index_or marks j false ≡ false) (sym at) free), a.more, length-append s (p ∷ []));
  marked = λ q member. elim (same_or_not q p) [
    | inl same ↦ rw same (entry_same false marks p true i at (rw (← at) few))
    | inr apart ↦ others_same false marks p true i at q apart ∙ a.marked q (λ out. member (absent_both q s (p ∷ []) out (apart, tt)))
  ];
  others = λ q out. others_same false marks p true i at q (absent_right q s (p ∷ []) out).0 ∙ a.others q (absent_left q s (p ∷ []) out);
}

-- if the members of s are newly marked and then the members of t, the members of both lists are newly marked
pub also_on : {old mid new : List Bool} {s t : List Place} → MarksAlso old mid s → MarksAlso mid new t → MarksAlso old new (s ++ t)
also_on {s = s} {t} a b = record {
  long = b.long ∙ a.long;
  more = omega (arith, a.more, b.more, length-append s t);
  marked = λ q member. elim (absent_or q t) [
    | inl out ↦ b.others q out ∙ a.marked q (λ gone. member (absent_both q s t gone out))
    | inr there ↦ b.marked q there
  ];
  others = λ q out. b.others q (absent_right q s t out) ∙ a.others q (absent_left q s t out);
}

module _ {old new : List Bool} {done : List Place} (a : MarksAlso old new done) where
  -- if no place of s is marked in `old` or newly marked, no place of s is marked in `new`
  pub unmarked_beside : (s : List Place) → IsDisjoint s done → AreUnmarked old s → AreUnmarked new s
  unmarked_beside [] apart free = tt
  unmarked_beside (x ∷ s) apart free = (a.others x apart.0 ∙ free.0, unmarked_beside s apart.1 free.1)

  absent_now : (x : Place) → is_marked new x ≡ false → IsAbsent x done
  absent_now x free = elim (absent_or x done) [ inl out ↦ out | inr member ↦ absurd (true≢false (sym (a.marked x member) ∙ free)) ]

  -- if no place of s is marked in `new`, s shares no place with the newly marked members
  pub unmarked_apart : (s : List Place) → AreUnmarked new s → IsDisjoint s done
  unmarked_apart [] free = tt
  unmarked_apart (x ∷ s) free = (absent_now x free.0, unmarked_apart s free.1)

  -- if no place of s is marked in `new`, no place of s is marked in `old`
  pub unmarked_before : (s : List Place) → AreUnmarked new s → AreUnmarked old s
  unmarked_before [] free = tt
  unmarked_before (x ∷ s) free = (sym (a.others x (absent_now x free.0)) ∙ free.0, unmarked_before s free.1)

-- if no member of s and no member of t is marked, no member of s ++ t is marked
pub unmarked_both : (marks : List Bool) (s t : List Place) → AreUnmarked marks s → AreUnmarked marks t → AreUnmarked marks (s ++ t)
unmarked_both marks [] t h k = k
unmarked_both marks (x ∷ s) t h k = (h.0, unmarked_both marks s t h.1 k)

-- if no member of s ++ t is marked, no member of s is marked
pub unmarked_front : (marks : List Bool) (s t : List Place) → AreUnmarked marks (s ++ t) → AreUnmarked marks s
unmarked_front marks [] t h = tt
unmarked_front marks (x ∷ s) t h = (h.0, unmarked_front marks s t h.1)

pub unmarked_back : (marks : List Bool) (s t : List Place) → AreUnmarked marks (s ++ t) → AreUnmarked marks t
unmarked_back marks [] t h = h
unmarked_back marks (x ∷ s) t h = unmarked_back marks s t h.1

-- if no place is marked, no member of s is marked
pub unmarked_all : (marks : List Bool) → ((p : Place) → is_marked marks p ≡ false) → (s : List Place) → AreUnmarked marks s
unmarked_all marks none [] = tt
unmarked_all marks none (x ∷ s) = (none x, unmarked_all marks none s)

-- if s and t share no place, and no place occurs twice in s or in t, no place occurs twice in s ++ t
pub distinct_both : (s t : List Place) → IsDistinct s → IsDistinct t → IsDisjoint t s → IsDistinct (s ++ t)
distinct_both s t d e apart = distinct_splice [] s t e d (disjoint_sym t s apart)

-- the word 8 * (i + 1) names the place with the index i, if i is below 8,589,934,591
pub place_named : (i : ℕ) → i < 8589934591 → (o : Option Place) → o ≡ place_at (8 * (i + 1)) → MatchOption o (8589934591 ≤ i) (λ p. index_of p ≡ i)
place_named i few o is =
    let k = place_with i few in
    let named : o ≡ Some k.0 = is ∙ ap (λ (j : ℕ). place_at (8 * (j + 1))) (sym k.1) ∙ place_at_word (Some k.0) in
    subst (λ (x : Option Place). MatchOption x (8589934591 ≤ i) (λ p. index_of p ≡ i)) (sym named) k.1

-- a walk through the members of s has marked the members `front`, and has come to `current`, the first of the `left` members `rest`
pub record Marks (s : List Place) (old marks : List Bool) (current : Option Place) (left : ℕ) : Type 0 where
  pub front : List Place
  pub rest : List Place
  pub is : s ≡ front ++ rest
  pub leads : current ≡ first rest
  pub counted : left ≡ length rest
  pub free : AreUnmarked old front
  pub also : MarksAlso old marks front

pub marks_none : {s : List Place} {marks : List Bool} {current : Option Place} {left : ℕ} → current ≡ first s → left ≡ length s → Marks s marks marks current left
marks_none {s} {marks} e k = record {
  front = [];
  rest = s;
  is = refl;
  leads = e;
  counted = k;
  free = tt;
  also = also_none marks;
}

module _ {s : List Place} {old marks : List Bool} {current : Option Place} {left : ℕ} (m : Marks s old marks current left) where
  -- the walk has come to the member p, and `after` are the members of s after p
  pub record Here (p : Place) : Type 0 where
    pub after : List Place
    pub rest_is : m.rest ≡ p ∷ after
    pub is : s ≡ m.front ++ p ∷ after

  pub here : {p : Place} → current ≡ Some p → Here p
  here {p} e =
      let r = first_is m.rest (sym e ∙ m.leads) in
      record { after = _; rest_is = r; is = m.is ∙ ap (λ (l : List Place). m.front ++ l) r }

  -- if the walk comes to a member that is marked already, some member of s was marked before the walk
  pub marks_met : {p : Place} → current ≡ Some p → is_marked marks p ≡ true → IsDistinct s → AreUnmarked old s → ⊥
  marks_met {p} e met distinct free =
      let k = here e in
      let out = absent_left p m.front k.after (distinct_middle m.front k.after p (subst IsDistinct k.is distinct)) in
      let was = (unmarked_back old m.front (p ∷ k.after) (subst (AreUnmarked old) k.is free)).0 in
      true≢false (sym met ∙ m.also.others p out ∙ was)

  -- if the walk comes to a member that is not marked, it marks this member and goes on to the next member
  pub marks_more : {p : Place} {next : Option Place} {i fewer : ℕ} (e : current ≡ Some p) → is_marked marks p ≡ false → i ≡ index_of p → i < length marks → next ≡ first (here e).after
      → left ≡ fewer + 1 → Marks s old (slice_set marks i true) next fewer
  marks_more {p} {next} {i} {fewer} e free at few leads counts =
      let k = here e in
      record {
        front = m.front ++ p ∷ [];
        rest = k.after;
        is = k.is ∙ sym (append_assoc m.front (p ∷ []) k.after);
        leads = leads;
        counted = omega (arith, counts, m.counted, ap length k.rest_is);
        free = unmarked_both old m.front (p ∷ []) m.free (unmarked_before m.also (p ∷ []) (free, tt));
        also = also_more p i m.also free at few;
      }

  -- if the walk has ended, no member of s was marked in `old`, and all members of s are newly marked
  pub marks_all : current ≡ None → AreUnmarked old s × MarksAlso old marks s
  marks_all over =
      let none : m.rest ≡ [] = nothing_first m.rest (sym over ∙ m.leads) in
      let whole : s ≡ m.front = m.is ∙ ap (λ (l : List Place). m.front ++ l) none ∙ append-nil m.front in
      rw whole (m.free, m.also)

module _ {H : Type 0} (shows : H → List Place → Type 0) where
  -- the collections of `all` before `rest` were checked: their `count` members `done` were not marked before, and are newly marked
  pub record Gathers (all rest : List H) (old marks : List Bool) (count : ℕ) : Type 0 where
    pub done : List Place
    pub distinct : IsDistinct done
    pub free : AreUnmarked old done
    pub also : MarksAlso old marks done
    pub counted : count ≡ length done
    pub builds : (s : List Place) → RepresentsEach shows rest s → RepresentsEach shows all (done ++ s)
    pub leads : (s : List Place) → RepresentsEach shows all s → (back : List Place) × RepresentsEach shows rest back × (s ≡ done ++ back)

  pub gathers_none : (all : List H) (marks : List Bool) → Gathers all all marks marks 0
  gathers_none all marks = record { done = []; distinct = tt; free = tt; also = also_none marks; counted = refl; builds = λ s h. h; leads = λ s h. (s, h, refl) }

  module _ {all rest : List H} {old marks : List Bool} {count : ℕ} (g : Gathers all rest old marks count) {one : H} {others : List H} (is : rest ≡ one ∷ others) where
    -- the checked collections and one further collection together have at most 8,589,934,591 members
    pub few_gathered : {now : List Bool} {n : ℕ} → ((s : List Place) → shows one s → IsDistinct s) → IsGathered (shows one) marks now n → count + n ≤ 8589934591
    few_gathered {now} {n} distinct (s, shown, many, free, also) =
        let few = few_places (g.done ++ s) (distinct_both g.done s g.distinct (distinct s shown) (unmarked_apart g.also s free)) in
        omega (arith, few, g.counted, many, length-append g.done s)

    -- if the check has marked the members of the next collection, one more collection is checked
    pub gathers_one : {now : List Bool} {n more : ℕ} → ((s r : List Place) → shows one s → shows one r → s ≡ r) → ((s : List Place) → shows one s → IsDistinct s)
        → IsGathered (shows one) marks now n → more ≡ count + n → Gathers all others old now more
    gathers_one {now} {n} {more} single distinct (s, shown, many, free, also) counts = record {
      done = g.done ++ s;
      distinct = distinct_both g.done s g.distinct (distinct s shown) (unmarked_apart g.also s free);
      free = unmarked_both old g.done s g.free (unmarked_before g.also s free);
      also = also_on g.also also;
      counted = omega (arith, counts, g.counted, many, length-append g.done s);
      builds = λ back each.
          subst (RepresentsEach shows all) (sym (append_assoc g.done s back)) (g.builds (s ++ back) (rw is (s, back, shown, each, refl)));
      leads = λ whole each.
          let l = g.leads whole each in
          let k : RepresentsEach shows (one ∷ others) l.0 = subst (λ (x : List H). RepresentsEach shows x l.0) is l.1 in
          (k.1, k.3, l.2 ∙ ap (λ (x : List Place). g.done ++ x) (k.4 ∙ ap (λ (x : List Place). x ++ k.1) (single k.0 s k.2 shown)) ∙ sym (append_assoc g.done s k.1));
    }

    -- if the table represents no sequence of unmarked members for the next collection, it represents no sequence of unmarked members for all collections
    -- together
    pub not_gathered : RepresentsNoneUnmarked (shows one) marks → RepresentsNoneUnmarked (RepresentsEachOnce shows all) old
    not_gathered never whole once free =
        let l = g.leads whole once.each in
        let k : RepresentsEach shows (one ∷ others) l.0 = subst (λ (x : List H). RepresentsEach shows x l.0) is l.1 in
        let parts : whole ≡ g.done ++ (k.0 ++ k.1) = l.2 ∙ ap (λ (x : List Place). g.done ++ x) k.4 in
        let apart = disjoint_sym g.done k.0 (disjoint_left g.done k.0 k.1 (distinct_disjoint g.done (k.0 ++ k.1) (subst IsDistinct parts once.distinct))) in
        let here = unmarked_front old k.0 k.1 (unmarked_back old g.done (k.0 ++ k.1) (subst (AreUnmarked old) parts free)) in
        never k.0 k.2 (unmarked_beside g.also k.0 apart here)

  -- if all collections are checked, the table represents a sequence of `count` members for all of them together, and the check has newly marked exactly these
  -- members
  pub gathered : {all rest : List H} {old marks : List Bool} {count : ℕ} (g : Gathers all rest old marks count) → rest ≡ [] → IsGathered (RepresentsEachOnce shows all) old marks count
  gathered {all} g over = (
    g.done,
    record { each = subst (RepresentsEach shows all) (append-nil g.done) (g.builds [] (rw over refl)); distinct = g.distinct },
    sym g.counted,
    g.free,
    g.also,
  )

  -- if a table represents at most one sequence for each collection, it represents at most one sequence for all collections of a list together
  pub each_one : ((c : H) (s r : List Place) → shows c s → shows c r → s ≡ r) → (all : List H) (s r : List Place) → RepresentsEach shows all s → RepresentsEach shows all r → s ≡ r
  each_one single [] s r h k = h ∙ sym k
  each_one single (c ∷ all) s r h k = h.4 ∙ ap (λ (x : List Place). x ++ h.1) (single c h.0 k.0 h.2 k.2) ∙ ap (λ (x : List Place). k.0 ++ x) (each_one single all h.1 k.1 h.3 k.3) ∙ sym k.4

module _ {E : Type 0} (linked : E → Bool) (t : Table E) {old marks : List Bool} (none : (p : Place) → is_marked old p ≡ false) {s : List Place} (also : MarksAlso old marks s) where
  -- if each linked place is marked, only members of s are linked
  pub only_members : ((p : Place) → IsLinked linked t p → is_marked marks p ≡ true) → (p : Place) → IsLinked linked t p → IsMember p s
  only_members all p is out = true≢false (sym (all p is) ∙ also.others p out ∙ none p)

  -- if not every linked place is marked, a place that is no member of s is linked
  pub not_only : (((p : Place) → IsLinked linked t p → is_marked marks p ≡ true) → ⊥) → ((p : Place) → IsLinked linked t p → IsMember p s) → ⊥
  not_only never only = never (λ p is. also.marked p (only p is))

-- if no mark was set in `old` and the members of s are newly marked in `new`, exactly the members of s are marked in `new`
module _ {old new : List Bool} (none : (p : Place) → is_marked old p ≡ false) (zero_before : many_marked old ≡ 0) {s : List Place} (also : MarksAlso old new s) where
  pub marking : IsMarking new s
  marking p = ((λ e. elim (absent_or p s) [ inl out ↦ absurd (true≢false (sym e ∙ also.others p out ∙ none p)) | inr member ↦ member ]), also.marked p)

  pub left_marked : (shows : List Place → Type 0) {count : ℕ} → shows s → length s ≡ count → LeavesMarked shows new count
  left_marked shows shown many = (s, shown, marking, omega (arith, also.more, zero_before, many))

pub left_gathered : (shows : List Place → Type 0) (old new : List Bool) → ((p : Place) → is_marked old p ≡ false) → many_marked old ≡ 0 → (o : Option ℕ)
    → MatchOption o (RepresentsNoneUnmarked shows old) (IsGathered shows old new) → IfSome o (LeavesMarked shows new)
left_gathered shows old new none zero_before None h = tt
left_gathered shows old new none zero_before (Some count) (s, shown, many, free, also) = left_marked none zero_before also shows shown many

-- if no place is marked before the members of one collection are, the result is that of a check of the collection
pub shown_gathered : (shows : List Place → Type 0) (old new : List Bool) → ((p : Place) → is_marked old p ≡ false) → (o : Option ℕ)
    → MatchOption o (RepresentsNoneUnmarked shows old) (IsGathered shows old new) → MatchOption o (RepresentsNone shows) (IsRepresented shows)
shown_gathered shows old new none None h = λ s represented. h s represented (unmarked_all old none s)
shown_gathered shows old new none (Some count) (s, shown, many, free, also) = (s, shown, many)

-- lemmas on `MarksLinked`: each place that is newly marked is linked in the table t
module _ {E : Type 0} (linked : E → Bool) (t : Table E) where
  pub only_none : (marks : List Bool) → MarksLinked linked t marks marks
  only_none marks = record { besides = λ p free is. absurd (true≢false (sym is ∙ free)) }

  -- if the members of s are newly marked, and no unlinked place is a member of s, each newly marked place is linked
  pub only_also : {old new : List Bool} {s : List Place} → MarksAlso old new s → ((p : Place) → linked (t.entry p) ≡ false → IsAbsent p s) → MarksLinked linked t old new
  only_also {old} {new} also free = record { besides = λ p was is. by p was is (linked (t.entry p)) refl } where
    by : (p : Place) → is_marked old p ≡ false → is_marked new p ≡ true → (b : Bool) → linked (t.entry p) ≡ b → IsLinked linked t p
    by p was is true e = e
    by p was is false e = absurd (true≢false (sym is ∙ also.others p (free p e) ∙ was))

  pub only_on : {old mid new : List Bool} → MarksLinked linked t old mid → MarksLinked linked t mid new → MarksLinked linked t old new
  only_on {old} {mid} {new} h k = record { besides = λ p was is. by p was is (is_marked mid p) refl } where
    by : (p : Place) → is_marked old p ≡ false → is_marked new p ≡ true → (b : Bool) → is_marked mid p ≡ b → IsLinked linked t p
    by p was is true e = h.besides p was e
    by p was is false e = k.besides p e is

  -- if no place was marked before and each newly marked place is linked, each marked place is linked
  pub only_linked : {old new : List Bool} → ((p : Place) → is_marked old p ≡ false) → MarksLinked linked t old new → (p : Place) → is_marked new p ≡ true → IsLinked linked t p
  only_linked none h p is = h.besides p (none p) is

-- if no mark with an index below i is set, and the mark with the index i is cleared, no mark with an index below i + 1 is set
pub cleared_more : (marks : List Bool) (i : ℕ) → i < length marks → ((j : ℕ) → j < i → slice_index_or marks j false ≡ false)
    → (j : ℕ) → j < i + 1 → slice_index_or (slice_set marks i false) j false ≡ false
cleared_more marks i few before j low = elim (cases_lt j i) [
  | inl less ↦ get_or-set_other marks i j false false (λ e. absurd (omega (arith, less, e))) ∙ before j less
  | inr more ↦ get_or-set_at marks i j false false (omega (arith, more, low)) few
]

pub cleared_all : (marks : List Bool) (i : ℕ) → length marks ≤ i → ((j : ℕ) → j < i → slice_index_or marks j false ≡ false) → (j : ℕ) → slice_index_or marks j false ≡ false
cleared_all marks i all before j = elim (cases_lt j i) [
  | inl less ↦ before j less
  | inr more ↦ get_or_past marks j false (omega (arith, more, all))
]

pub none_marked : (marks : List Bool) → ((j : ℕ) → slice_index_or marks j false ≡ false) → many_marked marks ≡ 0
none_marked [] none = refl
none_marked (x ∷ marks) none =
    let weigh : Bool → ℕ = λ mark. cond mark 1 0 in
    let first : weigh x ≡ 0 = ap weigh (none 0) in
    omega (arith, sum_by-cons weigh x marks, first, none_marked marks (λ j. none (suc j)))

-- if a list has at most i elements, no element is left when the first i are dropped
pub drop_none : {X : Type 0} (xs : List X) (i : ℕ) → length xs ≤ i → drop i xs ≡ []
drop_none [] zero h = refl
drop_none [] (suc i) h = refl
drop_none (x ∷ xs) zero h = absurd (omega (arith, h))
drop_none (x ∷ xs) (suc i) h = drop_none xs i (omega (arith, h))

module _ {E : Type 0} (linked : E → Bool) (t : Table E) (marks : List Bool) where
  -- if a place is not linked, no place with its index is missed
  pub not_missed : {p : Place} {i : ℕ} → index_of p ≡ i → linked (t.entry p) ≡ false → IsMissed linked t marks i → ⊥
  not_missed {p} {i} at free missed =
      let same : missed.0 ≡ p = same_index missed.0 p (missed.1 ∙ sym at) in
      let is : linked (t.entry p) ≡ true = subst (λ (x : Place). linked (t.entry x) ≡ true) same missed.2 in
      let e : false ≡ true = sym free ∙ is in
      absurd (cc)

  -- a linked place is missed exactly if it is not marked
  pub missed_here : (p : Place) (i : ℕ) → index_of p ≡ i → linked (t.entry p) ≡ true
      → (not (slice_index_or marks i false) ≡ true → IsMissed linked t marks i) × (IsMissed linked t marks i → not (slice_index_or marks i false) ≡ true)
  missed_here p i at is = by (slice_index_or marks i false) refl where
    by : (b : Bool) → slice_index_or marks i false ≡ b → (not b ≡ true → IsMissed linked t marks i) × (IsMissed linked t marks i → not b ≡ true)
    by true e = (
      (λ h. let k : false ≡ true = h in absurd (cc)),
      λ missed. let k : slice_index_or marks i false ≡ false = subst (λ (j : ℕ). slice_index_or marks j false ≡ false) missed.1 missed.3 in let z : true ≡ false = sym e ∙ k in absurd (cc),
    )
    by false e = ((λ h. (p, at, is, subst (λ (j : ℕ). slice_index_or marks j false ≡ false) (sym at) e)), λ missed. refl)

  -- if all linked places with indexes below i are marked, and the place with the index i is not missed, all linked places with indexes below i + 1 are marked
  pub marked_more : {i : ℕ} → ((p : Place) → index_of p < i → linked (t.entry p) ≡ true → is_marked marks p ≡ true) → (IsMissed linked t marks i → ⊥)
      → (p : Place) → index_of p < i + 1 → linked (t.entry p) ≡ true → is_marked marks p ≡ true
  marked_more {i} before never p low is = elim (cases_lt (index_of p) i) [
    | inl less ↦ before p less is
    | inr more ↦ by (is_marked marks p) refl (omega (arith, low, more))
  ] where
    by : (b : Bool) → is_marked marks p ≡ b → index_of p ≡ i → is_marked marks p ≡ true
    by true e at = e
    by false e at = absurd (never (p, at, is, e))
