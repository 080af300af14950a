-- Lemmas on the check of a hash table, which checks one chain after the other. Each sequence that the table holds begins with the members of the checked
-- chains. At the end, the members of the checked chains are all members.
use Rattle.std.proofs.Common.{◌≡◌, ℕ, suc, ◌+◌, ◌<◌, ◌≤◌, Bool, true, false, eqb, is_some, IsSome, Option, Some, None, List, [], ◌∷◌, ◌++◌, drop, length, length-append, ltb, ltb-true, lt-ltb, eqb-true, eq-eqb, true≢false, slice_index_or, refl, sym, ap, ◌∙◌, subst, arith, append_assoc, append-nil}
use Rattle.std.specs.Bool.{Decides}
use Rattle.std.specs.List.{AllByRecursion}
use Rattle.std.proofs.Math.Seq.{drop-cons}
use Rattle.ic_link_ops.specs.Prelude.{Place, index_of, Objects, object_at, is_placed, at_indexes, IsAbsent, IsDistinct, IsDisjoint, first, Table, ArePlaced, Successor}
use Rattle.ic_unsafe_ref.proofs.IndexLemmas.{in_range, placed_in_range}
use Rattle.ic_link_ops.specs.Chains.{IsChain}
use Rattle.ic_link_ops.proofs.Clearing.{Releases, releases_none, releases_more}
use Rattle.ic_link_ops.proofs.Prelude.{all_back, all_both, all_front, first_is, nothing_first, some_same, few_places}
use Rattle.ic_hash_table.specs.declared.slots.Slots.{Slots}
use Rattle.ic_hash_table.specs.declared.table.HashTable.{HashTable}
use Rattle.ic_hash_table.specs.Prelude.{AreChained, slot_of}
use Rattle.ic_hash_table.specs.HashTable.{BelongsIn, HasChains, Holds, HoldsSome}
use Rattle.ic_hash_table.proofs.Chains.{chain_one}
use Rattle.ic_check.specs.Checked.{IsRepresented, RepresentsNone}
use Rattle.ic_check.specs.HashTables.{IsPlacedIn, RepresentsOwn}
use Rattle.ic_check.proofs.Marking.{distinct_both, drop_none}

-- the index of a place is below the number of values exactly if the place has a value
pub placed_exactly : {V : Type 0} (values : List V) (p : Place) {i n : ℕ} → i ≡ index_of p → n ≡ length values → ltb i n ≡ is_placed (at_indexes values) p
placed_exactly values p {i} {n} at many = by (is_placed (at_indexes values) p) refl where
  out : (b : Bool) → ltb i n ≡ b → is_placed (at_indexes values) p ≡ false → b ≡ false
  out true e none =
      let placed = placed_in_range values p (omega (arith, ltb-true i n e, at, many)) in absurd (true≢false (sym placed ∙ none))
  out false e none = refl

  by : (b : Bool) → is_placed (at_indexes values) p ≡ b → ltb i n ≡ b
  by true e = lt-ltb i n (omega (arith, (in_range values p at e).0, many))
  by false e = out (ltb i n) refl e

module _ {V : Type 0} (slots : Slots) (hash : V → ℕ) (objects : Objects V) (i : ℕ) (p : Place) where
  -- a place without an object belongs in no chain
  pub nothing_own : is_placed objects p ≡ false → IsPlacedIn slots hash objects i p → ⊥
  nothing_own vacant (value, is, belongs) = true≢false (sym (ap is_some is) ∙ vacant)

  -- a place with an object belongs in chain i exactly if the hash of this object leads to i
  pub own_exactly : (value : V) (slot : ℕ) → object_at objects p ≡ Some value → slot ≡ slot_of slots (hash value) → Decides (eqb slot i) (IsPlacedIn slots hash objects i p)
  own_exactly value slot is same = (
    (λ yes. (value, is, sym same ∙ eqb-true slot i yes)),
    λ own. eq-eqb slot i (same ∙ ap (λ v. slot_of slots (hash v)) (some_same (sym is ∙ own.1)) ∙ own.2),
  )

  -- the place p satisfies `IsPlacedIn` exactly if it has an object and satisfies `BelongsIn`
  pub own_placed : IsPlacedIn slots hash objects i p → IsSome (object_at objects p)
  own_placed own = ap is_some own.1

  pub own_belongs : IsPlacedIn slots hash objects i p → BelongsIn slots hash objects i p
  own_belongs (value, is, belongs) v there = ap (λ w. slot_of slots (hash w)) (some_same (sym there ∙ is)) ∙ belongs

  pub placed_own : IsSome (object_at objects p) → BelongsIn slots hash objects i p → IsPlacedIn slots hash objects i p
  placed_own placed belongs = by (object_at objects p) refl placed where
    by : (o : Option V) → object_at objects p ≡ o → IsSome o → IsPlacedIn slots hash objects i p
    by None e some = absurd (true≢false (sym some))
    by (Some value) e some = (value, e, belongs value e)

-- the place p has an object that belongs in one of the chains with a number below i
abbrev pub IsPlacedBefore : {V : Type 0} → Slots → (V → ℕ) → Objects V → ℕ → Place → Type 0
IsPlacedBefore slots hash objects i p = (j : ℕ) × (j < i) × IsPlacedIn slots hash objects j p

module _ {V : Type 0} (slots : Slots) (hash : V → ℕ) (objects : Objects V) (i : ℕ) where
  -- if all places of s satisfy `IsPlacedIn`, they satisfy `BelongsIn`. Conversely, if all places of s have objects and satisfy `BelongsIn`, they satisfy
  -- `IsPlacedIn`
  all_belong : (s : List Place) → AllByRecursion (IsPlacedIn slots hash objects i) s → AllByRecursion (BelongsIn slots hash objects i) s
  all_belong [] own = tt
  all_belong (p ∷ s) own = (own_belongs slots hash objects i p own.0, all_belong s own.1)

  all_own : (s : List Place) → ArePlaced objects s → AllByRecursion (BelongsIn slots hash objects i) s → AllByRecursion (IsPlacedIn slots hash objects i) s
  all_own [] placed own = tt
  all_own (p ∷ s) placed own = (placed_own slots hash objects i p placed.0 own.0, all_own s placed.1 own.1)

  -- places that belong in chains with numbers below i, or in chain i, belong in chains with numbers below i + 1
  all_before : (s : List Place) → AllByRecursion (IsPlacedBefore slots hash objects i) s → AllByRecursion (IsPlacedBefore slots hash objects (suc i)) s
  all_before [] h = tt
  all_before (p ∷ s) h = ((h.0.0, omega (arith, h.0.1), h.0.2), all_before s h.1)

  own_before : (s : List Place) → AllByRecursion (IsPlacedIn slots hash objects i) s → AllByRecursion (IsPlacedBefore slots hash objects (suc i)) s
  own_before [] own = tt
  own_before (p ∷ s) own = ((i, omega arith, own.0), own_before s own.1)

  before_placed : (s : List Place) → AllByRecursion (IsPlacedBefore slots hash objects i) s → ArePlaced objects s
  before_placed [] h = tt
  before_placed (p ∷ s) h = (own_placed slots hash objects h.0.0 p h.0.2, before_placed s h.1)

  -- a place that belongs in chain i is not among the places `done`, which belong in chains with numbers below i
  apart_from : (p : Place) → IsPlacedIn slots hash objects i p → (done : List Place) → AllByRecursion (IsPlacedBefore slots hash objects i) done → IsAbsent p done
  apart_from p own [] before = tt
  apart_from p own (q ∷ done) before = (differ, apart_from p own done before.1) where
    differ : p ≡ q → ⊥
    differ same =
        let there : slot_of slots (hash own.0) ≡ before.0.0 = own_belongs slots hash objects before.0.0 q before.0.2 own.0 (subst (λ x. object_at objects x ≡ Some own.0) same own.1) in
        absurd (omega (arith, before.0.1, there, own.2))

  all_apart : (chain : List Place) → AllByRecursion (IsPlacedIn slots hash objects i) chain → (done : List Place) → AllByRecursion (IsPlacedBefore slots hash objects i) done → IsDisjoint chain done
  all_apart [] own done before = tt
  all_apart (p ∷ chain) own done before = (apart_from p own.0 done before, all_apart chain own.1 done before)

-- the walk along a represented chain has come to `current`, and all members before `current` satisfy `Own`
module _ {E : Type 0} (between : E → Option Place → Option Place → Type 0) (Own : Place → Type 0) where
  pub record Owns (t : Table E) (chain : List Place) (current : Option Place) : Type 0 where
    pub walk : Releases between t t chain current
    pub own : AllByRecursion Own walk.done

module _ {E : Type 0} {between : E → Option Place → Option Place → Type 0} {Own : Place → Type 0} {t : Table E} {chain : List Place} where
  pub owns_none : {current : Option Place} → IsChain between t.entry None chain None → current ≡ first chain → Owns between Own t chain current
  unfolding releases_none
  owns_none linked starts = record { walk = releases_none linked starts; own = tt }

  module _ {p : Place} (k : Owns between Own t chain (Some p)) where
    -- if the member p, to which the walk has come, satisfies `Own`, the walk goes on to the next place
    pub owns_more : {next : Option Place} → IsDistinct chain → Own p → next ≡ first (drop 1 k.walk.rest) → (more : Owns between Own t chain next) × (k.walk.rest ≡ p ∷ more.walk.rest)
    owns_more distinct own is_next =
        let m = releases_more distinct k.walk (λ q n. refl) is_next in
        (record { walk = m.0; own = subst (AllByRecursion Own) (sym m.2) (all_both Own k.walk.done (p ∷ []) k.own (own, tt)) }, m.1)

    -- if all members of the chain satisfy `Own`, the member that the walk has come to satisfies it
    pub owns_there : AllByRecursion Own chain → Own p
    owns_there all = (subst (AllByRecursion Own) (first_is k.walk.rest k.walk.at) (all_back Own k.walk.done k.walk.rest (subst (AllByRecursion Own) k.walk.parts all))).0

  -- if the walk has ended, all members of the chain satisfy `Own`
  pub owns_all : {current : Option Place} (k : Owns between Own t chain current) → current ≡ None → AllByRecursion Own chain
  owns_all k over =
      let none = nothing_first k.walk.rest (sym over ∙ k.walk.at) in
      subst (AllByRecursion Own) (sym (k.walk.parts ∙ ap (λ l. k.walk.done ++ l) none ∙ append-nil k.walk.done)) k.own

module _ {E A B V : Type 0} (successor : E → Successor) (hash : A → V → ℕ) (fronts : B → List (Option Place)) (t : Table E) (table : HashTable A B) (objects : Objects V) where
  -- the chains with numbers below i are checked: their `count` members are `done`, and no place occurs twice in `done`. `rest` has the first members of the
  -- other chains
  pub record ChecksChains (i : ℕ) (rest : List (Option Place)) (count : ℕ) : Type 0 where
    pub done : List Place
    pub counted : count ≡ length done
    pub distinct : IsDistinct done
    pub before : AllByRecursion (IsPlacedBefore table.slots (hash table.adapter) objects i) done
    pub builds : (s : List Place) → AreChained successor (BelongsIn table.slots (hash table.adapter) objects) t i rest s
        → AreChained successor (BelongsIn table.slots (hash table.adapter) objects) t 0 (fronts table.buckets) (done ++ s)
    pub leads : (s : List Place) → AreChained successor (BelongsIn table.slots (hash table.adapter) objects) t 0 (fronts table.buckets) s
        → (back : List Place) × AreChained successor (BelongsIn table.slots (hash table.adapter) objects) t i rest back × (s ≡ done ++ back)

module _ {E A B V : Type 0} {successor : E → Successor} {hash : A → V → ℕ} {fronts : B → List (Option Place)} {t : Table E} {table : HashTable A B} {objects : Objects V} where
  -- at the beginning no chain is checked
  pub chains_none : ChecksChains successor hash fronts t table objects 0 (fronts table.buckets) 0
  chains_none = record { done = []; counted = refl; distinct = tt; before = tt; builds = λ s h. h; leads = λ s h. (s, h, refl) }

  module _ {i count : ℕ} (k : ChecksChains successor hash fronts t table objects i (drop i (fronts table.buckets)) count) where
    -- if i is below the number of buckets, the buckets from i on are bucket i and the buckets from i + 1 on
    at_next : i < length (fronts table.buckets) → drop i (fronts table.buckets) ≡ slice_index_or (fronts table.buckets) i None ∷ drop (suc i) (fronts table.buckets)
    at_next in_bounds = drop-cons (fronts table.buckets) i None in_bounds

    both_distinct : (chain : List Place) → RepresentsOwn successor hash fronts t table objects i chain → IsDistinct (k.done ++ chain)
    both_distinct chain c = distinct_both k.done chain k.distinct c.shown.distinct (all_apart table.slots (hash table.adapter) objects i chain c.own k.done k.before)

    -- the checked chains and chain i together have at most 8,589,934,591 members
    pub few_checked : {n : ℕ} → IsRepresented (RepresentsOwn successor hash fronts t table objects i) n → count + n ≤ 8589934591
    few_checked (chain, c, many) = omega (arith, few_places (k.done ++ chain) (both_distinct chain c), k.counted, many, length-append k.done chain)

    -- if the table represents chain i, and its members belong in chain i, the chains with numbers below i + 1 are checked
    chains_one_more : {n more : ℕ} → i < length (fronts table.buckets) → IsRepresented (RepresentsOwn successor hash fronts t table objects i) n → more ≡ count + n
        → ChecksChains successor hash fronts t table objects (suc i) (drop (suc i) (fronts table.buckets)) more
    chains_one_more {n} {more} in_bounds (chain, c, many) counts = record {
      done = k.done ++ chain;
      counted = omega (arith, counts, k.counted, many, length-append k.done chain);
      distinct = both_distinct chain c;
      before = all_both (IsPlacedBefore table.slots (hash table.adapter) objects (suc i)) k.done chain (all_before table.slots (hash table.adapter) objects i k.done k.before)
          (own_before table.slots (hash table.adapter) objects i chain c.own);
      builds = λ s chained.
          subst (AreChained successor (BelongsIn table.slots (hash table.adapter) objects) t 0 (fronts table.buckets)) (sym (append_assoc k.done chain s))
          (k.builds (chain ++ s) (rw (at_next in_bounds) (chain, s, refl, c.shown, all_belong table.slots (hash table.adapter) objects i chain c.own, chained)));
      leads = λ s chained.
          let l = k.leads s chained in
          let h = subst (λ (fs : List (Option Place)). AreChained successor (BelongsIn table.slots (hash table.adapter) objects) t i fs l.0) (at_next in_bounds) l.1 in
          (h.1, h.5, l.2 ∙ ap (λ (x : List Place). k.done ++ x) (h.2 ∙ ap (λ (x : List Place). x ++ h.1) (chain_one h.3 c.shown)) ∙ sym (append_assoc k.done chain h.1));
    }

    pub chains_more : {n more next : ℕ} → i < length (fronts table.buckets) → IsRepresented (RepresentsOwn successor hash fronts t table objects i) n → more ≡ count + n → suc i ≡ next
        → ChecksChains successor hash fronts t table objects next (drop next (fronts table.buckets)) more
    chains_more {more = more} in_bounds shown counts is_next =
        subst (λ (j : ℕ). ChecksChains successor hash fronts t table objects j (drop j (fronts table.buckets)) more) is_next (chains_one_more in_bounds shown counts)

    -- if the table does not represent chain i with members that belong in chain i, the hash table holds no sequence
    pub not_held : i < length (fronts table.buckets) → RepresentsNone (RepresentsOwn successor hash fronts t table objects i) → HoldsSome successor hash fronts t table objects → ⊥
    not_held in_bounds never (s, held) =
        let l = k.leads s held.chained in
        let h = subst (λ (fs : List (Option Place)). AreChained successor (BelongsIn table.slots (hash table.adapter) objects) t i fs l.0) (at_next in_bounds) l.1 in
        let left : ArePlaced objects l.0 = all_back (λ q. IsSome (object_at objects q)) k.done l.0 (subst (ArePlaced objects) l.2 held.placed) in
        let placed : ArePlaced objects h.0 = all_front (λ q. IsSome (object_at objects q)) h.0 h.1 (subst (ArePlaced objects) h.2 left) in
        never h.0 (record { shown = h.3; own = all_own table.slots (hash table.adapter) objects i h.0 placed h.4 })

    -- if all chains are checked, each sequence that the hash table holds is the list of the checked members
    all_held : drop i (fronts table.buckets) ≡ [] → (s : List Place) → Holds successor hash fronts t table objects s → s ≡ k.done
    all_held none s held =
        let l = k.leads s held.chained in
        let last = subst (λ (fs : List (Option Place)). AreChained successor (BelongsIn table.slots (hash table.adapter) objects) t i fs l.0) none l.1 in
        l.2 ∙ ap (λ (x : List Place). k.done ++ x) last ∙ append-nil k.done

    -- if all chains are checked, the table holds a sequence exactly if the number of checked members is the number that the table has counted
    pub held_exactly : {len : ℕ} → length (fronts table.buckets) ≤ i → HasChains fronts table → len ≡ table.len → Decides (eqb count len) (HoldsSome successor hash fronts t table objects)
    held_exactly {len} over chains many =
        let none : drop i (fronts table.buckets) ≡ [] = drop_none (fronts table.buckets) i over in (
          (λ yes. (
            k.done,
            record {
              distinct = k.distinct;
              chained = subst (AreChained successor (BelongsIn table.slots (hash table.adapter) objects) t 0 (fronts table.buckets)) (append-nil k.done) (k.builds [] (rw none refl));
              placed = before_placed table.slots (hash table.adapter) objects i k.done k.before;
              counted = sym many ∙ sym (eqb-true count len yes) ∙ k.counted;
              well_formed = chains.well_formed;
              enough = chains.enough;
            },
          )),
          λ some. eq-eqb count len (k.counted ∙ ap length (sym (all_held none some.0 some.1)) ∙ sym some.1.counted ∙ sym many),
        )
