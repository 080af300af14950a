-- These lemmas are about steps from one member to the next, through all chains.
use Rattle.std.proofs.Common.{◌≡◌, ℕ, zero, suc, ◌/◌, ◌<◌, ◌≤◌, Option, Some, None, is_some, IsSome, Bool, true, false, true≢false, List, [], ◌∷◌, ◌++◌, drop, length, slice_index_or, refl, sym, ap, ◌∙◌, subst, arith, append_assoc}
use Rattle.std.specs.Bool.{⊤}
use Rattle.std.specs.List.{AllByRecursion}
use Rattle.std.proofs.Math.Seq.{drop-cons}
use Rattle.ic_link_ops.specs.Prelude.{Place, Objects, object_at, Cut, join, first, last, but_last, IsDistinct, IsAbsent, IsMember, Table, ArePlaced, Successor, IsFollowed}
use Rattle.ic_link_ops.proofs.Prelude.{split_last, nothing_first, all_front, all_map, all_back, represents_middle, absent_both, member_split, split_member, some_same}
use Rattle.ic_hash_table.specs.declared.slots.Slots.{Slots}
use Rattle.ic_hash_table.specs.Prelude.{slot_of, AreChained, RepresentsFrom, BelongsIn, Holds, matches, Finds, StopsAt}
use Rattle.ic_hash_table.proofs.SlotLemmas.{slot_used}
use Rattle.ic_hash_table.specs.declared.table.HashTable.{HashTable}
use Rattle.ic_hash_table.proofs.Chains.{Elsewhere, chains_weakened}
use Rattle.ic_hash_table.proofs.ChainParts.{represents_after}
use Rattle.ic_hash_table.proofs.FoundMembers.{chain_of, finds_among, none_elsewhere, place_absent, place_elsewhere}
use Rattle.ic_hash_table.proofs.HeldTables.{one_cut}

module _ {E : Type 0} (successor : E → Successor) (t : Table E) where
  -- if there is a chain `at`, the chains from number `at` on are this chain and the chains after it
  at_next : (at : ℕ) (fronts : List (Option Place)) (s : List Place) → at < length fronts → AreChained successor (λ i p. ⊤) t at (drop at fronts) s
      → AreChained successor (λ i p. ⊤) t at (slice_index_or fronts at None ∷ drop (suc at) fronts) s
  at_next at fronts s in_bounds chained = subst (λ l. AreChained successor (λ i p. ⊤) t at l s) (drop-cons fronts at None in_bounds) chained

  -- AFTER AN EMPTY CHAIN the chains that follow have all members that are left
  pub past_empty : (at : ℕ) (fronts : List (Option Place)) (s : List Place) → at < length fronts → slice_index_or fronts at None ≡ None → AreChained successor (λ i p. ⊤) t at (drop at fronts) s
      → AreChained successor (λ i p. ⊤) t (suc at) (drop (suc at) fronts) s
  past_empty at fronts s in_bounds none chained = by (at_next at fronts s in_bounds chained) where
    by : AreChained successor (λ i p. ⊤) t at (slice_index_or fronts at None ∷ drop (suc at) fronts) s → AreChained successor (λ i p. ⊤) t (suc at) (drop (suc at) fronts) s
    by (chain, rest, is, shown, own, more) =
        subst (AreChained successor (λ i p. ⊤) t (suc at) (drop (suc at) fronts)) (sym (is ∙ ap (λ c. c ++ rest) (nothing_first chain (sym none ∙ shown.head)))) more

  -- if chain `at` has a first member, this is the first member of all chains from `at` on
  pub at_first : (at : ℕ) (fronts : List (Option Place)) (s : List Place) → at < length fronts → is_some (slice_index_or fronts at None) ≡ true → AreChained successor (λ i p. ⊤) t at (drop at fronts) s
      → slice_index_or fronts at None ≡ first s
  at_first at fronts s in_bounds some chained = by (at_next at fronts s in_bounds chained) where
    first_ahead : (chain rest : List Place) (f : Option Place) → f ≡ first chain → is_some f ≡ true → f ≡ first (chain ++ rest)
    first_ahead [] rest f is some = absurd (true≢false (sym some ∙ ap is_some is))
    first_ahead (x ∷ chain) rest f is some = is

    by : AreChained successor (λ i p. ⊤) t at (slice_index_or fronts at None ∷ drop (suc at) fronts) s → slice_index_or fronts at None ≡ first s
    by (chain, rest, is, shown, own, more) = first_ahead chain rest (slice_index_or fronts at None) shown.head some ∙ ap first (sym is)

  -- after the last chain no member is left
  pub at_end : (at : ℕ) (fronts : List (Option Place)) (s : List Place) → length fronts ≤ at → AreChained successor (λ i p. ⊤) t at (drop at fronts) s → None ≡ first s
  at_end at fronts s over chained = sym (ap first (nothing_left (subst (λ l. AreChained successor (λ i p. ⊤) t at l s) (drop_all fronts at over) chained))) where
    drop_all : (l : List (Option Place)) (n : ℕ) → length l ≤ n → drop n l ≡ []
    drop_all [] zero h = refl
    drop_all [] (suc n) h = refl
    drop_all (x ∷ l) zero h = absurd (omega (arith, h))
    drop_all (x ∷ l) (suc n) h = drop_all l n (omega (arith, h))

    nothing_left : AreChained successor (λ i p. ⊤) t at [] s → s ≡ []
    nothing_left h = h

-- the members that a table holds are the members of all its chains, from chain 0 on
pub all_chained : {E A B V : Type 0} {successor : E → Successor} {hash : A → V → ℕ} {fronts : B → List (Option Place)} {t : Table E} {table : HashTable A B} {objects : Objects V} {s : List Place}
    → Holds successor hash fronts t table objects s → AreChained successor (λ i p. ⊤) t 0 (drop 0 (fronts table.buckets)) s
all_chained {successor = successor} {hash = hash} {fronts = fronts} {t = t} {table = table} {objects = objects} {s = s} held =
    chains_weakened successor (BelongsIn table.slots (hash table.adapter) objects) (λ i p. ⊤) (λ i p b. tt) t 0 (fronts table.buckets) s held.chained

-- each member of the table is a member of the chain where it belongs
module _ {E A B V : Type 0} {successor : E → Successor} {hash : A → V → ℕ} {fronts : B → List (Option Place)} {t : Table E} {table : HashTable A B} {objects : Objects V} {s : List Place}
    (held : Holds successor hash fronts t table objects s) (k : ℕ) (used : k < table.slots.used) where
  -- the members after chain k are the members of the chains from number k + 1 on
  pub after_chained : AreChained successor (λ i p. ⊤) t (suc k) (drop (suc k) (fronts table.buckets)) (chain_of held k used).after
  after_chained =
      chains_weakened successor (BelongsIn table.slots (hash table.adapter) objects) (λ i p. ⊤) (λ i p b. tt) t (suc k) (drop (suc k) (fronts table.buckets)) (chain_of held k used).after (chain_of held k used).more

  module _ (place : Place) (placed : IsSome (object_at objects place)) (belongs : BelongsIn table.slots (hash table.adapter) objects k place) where
    none_aside : (q : List Place) → AllByRecursion (Elsewhere (BelongsIn table.slots (hash table.adapter) objects) k) q → IsAbsent place q
    none_aside q all = place_absent place q (all_map (place_elsewhere table.slots (hash table.adapter) objects k place placed belongs) q all)

    pub in_chain : IsMember place s → IsMember place (chain_of held k used).chain
    in_chain member out =
        let c = chain_of held k used in
        member (subst (IsAbsent place) (sym c.parts) (absent_both place c.ahead (c.chain ++ c.after) (none_aside c.ahead c.ahead_others) (absent_both place c.chain c.after out (none_aside c.after c.after_others))))

    -- the members after a place are those that follow it in its chain, and then those of the chains after its chain
    pub after_place : (front back : List Place) → s ≡ front ++ place ∷ back → (c1 c2 : List Place) × ((chain_of held k used).chain ≡ c1 ++ place ∷ c2) × (back ≡ c2 ++ (chain_of held k used).after)
    after_place front back is =
        let c = chain_of held k used in
        let m = member_split place c.chain (in_chain (λ out. split_member front place back (subst (IsAbsent place) is out))) in
        let whole : front ++ place ∷ back ≡ (c.ahead ++ m.0) ++ place ∷ (m.1 ++ c.after) =
        sym is ∙ c.parts ∙ ap (λ l. c.ahead ++ (l ++ c.after)) m.2 ∙ ap (λ l. c.ahead ++ l) (append_assoc m.0 (place ∷ m.1) c.after) ∙ sym (append_assoc c.ahead m.0 (place ∷ m.1 ++ c.after)) in
        (m.0, m.1, m.2, (one_cut front back (c.ahead ++ m.0) (m.1 ++ c.after) place (subst IsDistinct is held.distinct) whole).1)

-- a gap directly after a place cuts the sequence into the members before the place, the place itself, and the members after the place
pub gap_after : (gap : Cut) (place : Place) → Some place ≡ last gap.front → join gap ≡ but_last gap.front ++ place ∷ gap.back
gap_after gap place after = ap (λ l. l ++ gap.back) (split_last gap.front (sym after)) ∙ append_assoc (but_last gap.front) (place ∷ []) gap.back

-- if a member has a next member in its chain, this is the next member in the whole sequence. If it has none, the next member is the first of the following
-- chains
pub first_is_chains : (next : Option Place) (c2 after : List Place) → next ≡ first c2 → is_some next ≡ true → next ≡ first (c2 ++ after)
first_is_chains next [] after is some = absurd (true≢false (sym some ∙ ap is_some is))
first_is_chains next (x ∷ c2) after is some = is

pub first_is_others : (next : Option Place) (c2 after : List Place) → next ≡ first c2 → is_some next ≡ false → first after ≡ first (c2 ++ after)
first_is_others next [] after is none = refl
first_is_others next (x ∷ c2) after is none = absurd (true≢false (sym (ap is_some is) ∙ none))

-- each object belongs in a chain that is in use
module _ {V : Type 0} (slots : Slots) (hash : V → ℕ) (objects : Objects V) (half : slots.mask / 2 < slots.used) where
  own_slot : (p : Place) (o : Option V) → object_at objects p ≡ o → IsSome o → (k : ℕ) × (k < slots.used) × BelongsIn slots hash objects k p
  own_slot p None there placed = absurd (true≢false (sym placed))
  own_slot p (Some v) there placed =
      (slot_of slots (hash v), slot_used slots.used slots.mask half (hash v), λ w e. ap (λ x. slot_of slots (hash x)) (some_same (sym e ∙ there)))

  pub slot_of_place : (p : Place) → IsSome (object_at objects p) → (k : ℕ) × (k < slots.used) × BelongsIn slots hash objects k p
  slot_of_place p placed = own_slot p (object_at objects p) refl placed

-- the entry of the member `place` names the next member of its chain
module _ {E A B V : Type 0} {successor : E → Successor} {hash : A → V → ℕ} {fronts : B → List (Option Place)} {t : Table E} {table : HashTable A B} {objects : Objects V}
    (gap : Cut) (held : Holds successor hash fronts t table objects (join gap)) (place : Place) (after : Some place ≡ last gap.front) where
  pub place_placed : IsSome (object_at objects place)
  place_placed =
      let all = subst (AllByRecursion (λ p. IsSome (object_at objects p))) (gap_after gap place after) held.placed in
      (all_back (λ p. IsSome (object_at objects p)) (but_last gap.front) (place ∷ gap.back) all).0

  module _ (k : ℕ) (used : k < table.slots.used) (belongs : BelongsIn table.slots (hash table.adapter) objects k place) where
    pub stands_in : (c2 : List Place) × IsFollowed successor (t.entry place) None (first c2) × (gap.back ≡ c2 ++ (chain_of held k used).after)
    stands_in =
        let b = after_place held k used place place_placed belongs (but_last gap.front) gap.back (gap_after gap place after) in
        let e = represents_middle b.0 b.1 ((subst (RepresentsFrom successor t (slice_index_or (fronts table.buckets) k None)) b.2 (chain_of held k used).shown)) in
        (b.1, record { linked = e.linked; next = e.next }, b.3)

-- after the member p come first the members of the rest of its chain, and then other members. No other member belongs in this chain
pub record RestOfChain {E A B V : Type 0} (successor : E → Successor) (hash : A → V → ℕ) (t : Table E) (table : HashTable A B) (objects : Objects V) (p : Place) (back : List Place) : Type 0 where
  pub slot : ℕ
  pub rest : List Place
  pub others : List Place
  pub linked : (successor (t.entry p)).linked ≡ true
  pub belongs : BelongsIn table.slots (hash table.adapter) objects slot p
  pub parts : back ≡ rest ++ others
  pub shown : RepresentsFrom successor t (successor (t.entry p)).next rest
  pub placed : ArePlaced objects rest
  pub elsewhere : AllByRecursion (Elsewhere (BelongsIn table.slots (hash table.adapter) objects) slot) others

pub rest_of_chain : {E A B V : Type 0} {successor : E → Successor} {hash : A → V → ℕ} {fronts : B → List (Option Place)} {t : Table E} {table : HashTable A B} {objects : Objects V} (front back : List Place) (p : Place)
    → Holds successor hash fronts t table objects (front ++ p ∷ back) → RestOfChain successor hash t table objects p back
rest_of_chain {successor = successor} {hash = hash} {fronts = fronts} {t = t} {table = table} {objects = objects} front back p held =
    let placed = all_back (λ q. IsSome (object_at objects q)) front (p ∷ back) held.placed in
    let k = slot_of_place table.slots (hash table.adapter) objects (omega (arith, held.well_formed.half)) p placed.0 in
    let c = chain_of held k.0 k.1 in
    let b = after_place held k.0 k.1 p placed.0 k.2 front back refl in
    let shown = subst (RepresentsFrom successor t (slice_index_or (fronts table.buckets) k.0 None)) b.2 c.shown in
    record {
      slot = k.0;
      rest = b.1;
      others = c.after;
      linked = (represents_middle b.0 b.1 shown).linked;
      belongs = k.2;
      parts = b.3;
      shown = represents_after b.0 b.1 p shown refl;
      placed = all_front (λ q. IsSome (object_at objects q)) b.1 c.after (subst (AllByRecursion (λ q. IsSome (object_at objects q))) b.3 placed.1);
      elsewhere = c.after_others;
    }

-- a walk along the rest of a chain after the member p finds the first of all members after p whose object passes the test `equal`
pub finds_after : {E A B V : Type 0} {successor : E → Successor} {hash : A → V → ℕ} {t : Table E} {table : HashTable A B} {objects : Objects V} {p : Place} {back : List Place} {equal : V → Bool}
    → (r : RestOfChain successor hash t table objects p back) → ((v : V) → equal v ≡ true → slot_of table.slots (hash table.adapter v) ≡ r.slot)
    → {before : Option Place} (at : Option Place) → StopsAt (matches equal objects) r.rest before at → Finds (matches equal objects) back at
finds_after {hash = hash} {table = table} {objects = objects} {equal = equal} r alike at stop =
    subst (λ l. Finds (matches equal objects) l at) (sym r.parts)
    (finds_among [] r.rest r.others tt (all_map (none_elsewhere table.slots (hash table.adapter) objects alike) r.others r.elsewhere) at stop)
