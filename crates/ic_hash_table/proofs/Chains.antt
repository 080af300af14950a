-- These lemmas say that most edits keep the chains of a hash table, that chains have one sequence, and that one chain is between the others.
use Rattle.std.proofs.Common.{◌≡◌, ◌≢◌, ℕ, zero, suc, ◌+◌, ◌<◌, Bool, false, Option, None, List, [], ◌∷◌, ◌++◌, drop, length, slice_index_or, slice_set, refl, sym, ap, ◌∙◌, subst, arith, append_assoc}
use Rattle.std.specs.List.{AllByRecursion}
use Rattle.ic_link_ops.specs.Prelude.{Place, IsAbsent, IsDisjoint, Table}
use Rattle.ic_link_ops.specs.SinglyLinkedList.{Front, Represents, Successor}
use Rattle.ic_link_ops.proofs.Prelude.{all_both, all_map, absent_both, nothing_first}
use Rattle.ic_link_ops.proofs.RepresentedLists.{free_absent, represents_frame, represents_one}
use Rattle.ic_link_ops.proofs.SinglyLists.{followed_linked, followed_one}
use Rattle.ic_hash_table.specs.Chains.{AreChained, RepresentsFrom}

module _ {E : Type 0} {successor : E → Successor} {t : Table E} where
  -- if a chain represents both s and u, these sequences are equal
  pub chain_one : {front : Option Place} {s u : List Place} → RepresentsFrom successor t front s → RepresentsFrom successor t front u → s ≡ u
  chain_one shown other = represents_one (followed_one {s = successor}) shown other

  -- if a table represents a sequence for a list, it represents the sequence for the chain that begins with the list's first member
  pub chain_of_list : {list : Front} {s : List Place} → Represents successor t list s → RepresentsFrom successor t list.head s
  chain_of_list shown = record { distinct = shown.distinct; chain = shown.chain; head = shown.head; tail = refl }

-- if a sequence shares no member with t, no part of this sequence shares a member with t
pub disjoint_ahead : (s r t : List Place) → IsDisjoint (s ++ r) t → IsDisjoint s t
disjoint_ahead [] r t d = tt
disjoint_ahead (x ∷ s) r t d = (d.0, disjoint_ahead s r t d.1)

pub disjoint_after : (s r t : List Place) → IsDisjoint (s ++ r) t → IsDisjoint r t
disjoint_after [] r t d = d
disjoint_after (x ∷ s) r t d = disjoint_after s r t d.1

module _ {E : Type 0} (successor : E → Successor) (Belongs : ℕ → Place → Type 0) where
  -- if an edit changes only entries at the places `touched`, and no member of a chain is in `touched`, the chains stay as they are
  pub chains_frame : (old new : Table E) (touched : List Place) (i : ℕ) (fronts : List (Option Place)) (s : List Place) → AreChained successor Belongs old i fronts s
      → IsDisjoint s touched → ((q : Place) → IsAbsent q touched → new.entry q ≡ old.entry q) → AreChained successor Belongs new i fronts s
  chains_frame old new touched i [] s h apart same = h
  chains_frame old new touched i (f ∷ fs) s (chain, rest, is, shown, own, more) apart same =
      let d = subst (λ l. IsDisjoint l touched) is apart in (
        chain,
        rest,
        is,
        represents_frame touched shown (disjoint_ahead chain rest touched d) same,
        own,
        chains_frame old new touched (suc i) fs rest more (disjoint_after chain rest touched d) same,
      )

  -- a place that is not linked is no member of any chain
  pub chains_free : {linked : E → Bool} → ((e : E) → (successor e).linked ≡ linked e) → (t : Table E) (i : ℕ) (fronts : List (Option Place)) (s : List Place) (p : Place)
      → AreChained successor Belongs t i fronts s → linked (t.entry p) ≡ false → IsAbsent p s
  chains_free alike t i [] s p h off = subst (IsAbsent p) (sym h) tt
  chains_free alike t i (f ∷ fs) s p (chain, rest, is, shown, own, more) off =
      subst (IsAbsent p) (sym is)
      (absent_both p chain rest (free_absent (followed_linked alike) shown off) (chains_free alike t (suc i) fs rest p more off))

  -- if all chains together have the members s, and also the members u, these sequences are equal
  pub chains_one : (t : Table E) (i : ℕ) (fronts : List (Option Place)) (s u : List Place) → AreChained successor Belongs t i fronts s → AreChained successor Belongs t i fronts u → s ≡ u
  chains_one t i [] s u h k = h ∙ sym k
  chains_one t i (f ∷ fs) s u (chain, rest, is, shown, own, more) (chain', rest', is', shown', own', more') =
      is ∙ ap (λ c. c ++ rest) (chain_one shown shown') ∙ ap (λ r. chain' ++ r) (chains_one t (suc i) fs rest rest' more more') ∙ sym is'

  -- EMPTY CHAINS have no members
  pub chains_nothing : (t : Table E) (i : ℕ) (fronts : List (Option Place)) → AllByRecursion (λ f. f ≡ None) fronts → AreChained successor Belongs t i fronts []
  chains_nothing t i [] none = refl
  chains_nothing t i (f ∷ fs) none = ([], [], refl, record { distinct = tt; chain = tt; head = none.0; tail = refl }, tt, chains_nothing t (suc i) fs none.1)

-- if each member belongs in its chain by the rule `Belongs`, and `Belongs` implies the rule `Weaker`, each member belongs there by `Weaker`
pub chains_weakened : {E : Type 0} (successor : E → Successor) (Belongs Weaker : ℕ → Place → Type 0) → ((i : ℕ) (p : Place) → Belongs i p → Weaker i p)
    → (t : Table E) (i : ℕ) (fronts : List (Option Place)) (s : List Place) → AreChained successor Belongs t i fronts s → AreChained successor Weaker t i fronts s
chains_weakened successor Belongs Weaker weaken t i [] s h = h
chains_weakened successor Belongs Weaker weaken t i (f ∷ fs) s (chain, rest, is, shown, own, more) =
    (chain, rest, is, shown, all_map (weaken i) chain own, chains_weakened successor Belongs Weaker weaken t (suc i) fs rest more)

-- the place p belongs in a chain with another number than n
abbrev pub Elsewhere : (ℕ → Place → Type 0) → ℕ → Place → Type 0
Elsewhere Belongs n p = (j : ℕ) × (j ≢ n) × Belongs j p

-- `Below`: the place p belongs in a chain with a number less than n. `Above`: p belongs in a chain with a number greater than n
abbrev pub Below : (ℕ → Place → Type 0) → ℕ → Place → Type 0
Below Belongs n p = (j : ℕ) × (j < n) × Belongs j p

abbrev pub Above : (ℕ → Place → Type 0) → ℕ → Place → Type 0
Above Belongs n p = (j : ℕ) × (n < j) × Belongs j p

module _ {E : Type 0} (successor : E → Successor) (Belongs : ℕ → Place → Type 0) where
  -- the chain with the number n is between the chains before it and the chains after it. If this chain is replaced by a chain with the members `instead`, all
  -- chains together have `ahead`, then `instead`, then `after` (`put`)
  pub record Between (t : Table E) (i k n : ℕ) (fronts : List (Option Place)) (s : List Place) : Type 1 where
    pub ahead : List Place
    pub chain : List Place
    pub after : List Place
    pub parts : s ≡ ahead ++ (chain ++ after)
    pub shown : RepresentsFrom successor t (slice_index_or fronts k None) chain
    pub own : AllByRecursion (Belongs n) chain
    pub ahead_others : AllByRecursion (Elsewhere Belongs n) ahead
    pub after_others : AllByRecursion (Elsewhere Belongs n) after
    pub ahead_below : AllByRecursion (Below Belongs n) ahead
    pub after_above : AllByRecursion (Above Belongs n) after
    pub put : {new : Table E} (Other : ℕ → Place → Type 0) → ((j : ℕ) (p : Place) → j ≢ n → Belongs j p → Other j p) → (front : Option Place) (instead touched : List Place)
        → RepresentsFrom successor new front instead → AllByRecursion (Other n) instead
        → IsDisjoint ahead touched → IsDisjoint after touched → ((q : Place) → IsAbsent q touched → new.entry q ≡ t.entry q)
        → AreChained successor Other new i (slice_set fronts k front) (ahead ++ (instead ++ after))
    -- the members after the chain are the members of all chains with a greater number
    pub more : AreChained successor Belongs t (suc n) (drop (suc k) fronts) after
    -- if all chains before the chain are empty, there is no member before the chain
    pub none_ahead : ((j : ℕ) → j < k → slice_index_or fronts j None ≡ None) → ahead ≡ []

module _ {E : Type 0} (successor : E → Successor) (Belongs : ℕ → Place → Type 0) where
  -- the members of the chains after chain n belong in other chains than n
  after_elsewhere : (t : Table E) (n i : ℕ) (fronts : List (Option Place)) (s : List Place) → AreChained successor Belongs t i fronts s → n < i → AllByRecursion (Elsewhere Belongs n) s
  after_elsewhere t n i [] s h less = subst (AllByRecursion (Elsewhere Belongs n)) (sym h) tt
  after_elsewhere t n i (f ∷ fs) s (chain, rest, is, shown, own, more) less =
      subst (AllByRecursion (Elsewhere Belongs n)) (sym is)
      (all_both (Elsewhere Belongs n) chain rest (all_map (λ p b. (i, (λ e. absurd (omega (arith, less, e))), b)) chain own) (after_elsewhere t n (suc i) fs rest more (omega (arith, less))))

  after_beyond : (t : Table E) (n i : ℕ) (fronts : List (Option Place)) (s : List Place) → AreChained successor Belongs t i fronts s → n < i → AllByRecursion (Above Belongs n) s
  after_beyond t n i [] s h less = subst (AllByRecursion (Above Belongs n)) (sym h) tt
  after_beyond t n i (f ∷ fs) s (chain, rest, is, shown, own, more) less =
      subst (AllByRecursion (Above Belongs n)) (sym is)
      (all_both (Above Belongs n) chain rest (all_map (λ p b. (i, less, b)) chain own) (after_beyond t n (suc i) fs rest more (omega (arith, less))))

  -- if `Belongs` implies `Other` for each chain except chain n, the chains after chain n have the same members by the rule `Other`
  chains_above : (t : Table E) (n : ℕ) (Other : ℕ → Place → Type 0) → ((j : ℕ) (p : Place) → j ≢ n → Belongs j p → Other j p)
      → (i : ℕ) (fronts : List (Option Place)) (s : List Place) → n < i → AreChained successor Belongs t i fronts s → AreChained successor Other t i fronts s
  chains_above t n Other other i [] s less h = h
  chains_above t n Other other i (f ∷ fs) s less (chain, rest, is, shown, own, more) =
      (chain, rest, is, shown, all_map (λ p b. other i p (λ e. absurd (omega (arith, less, e))) b) chain own, chains_above t n Other other (suc i) fs rest (omega (arith, less)) more)

  empty_chain : {t : Table E} {f : Option Place} (chain : List Place) → f ≡ None → RepresentsFrom successor t f chain → chain ≡ []
  empty_chain chain none shown = nothing_first chain (sym none ∙ shown.head)

  pub chain_at : (t : Table E) (i k n : ℕ) (fronts : List (Option Place)) (s : List Place) → n ≡ i + k → k < length fronts → AreChained successor Belongs t i fronts s
      → Between successor Belongs t i k n fronts s
  chain_at t i k n [] s is_n in_bounds h = absurd (omega (arith, in_bounds))
  chain_at t i zero n (f ∷ fs) s is_n in_bounds (chain, rest, is, shown, own, more) =
      let here : i ≡ n = omega (arith, is_n) in record {
        ahead = [];
        chain = chain;
        after = rest;
        parts = is;
        shown = shown;
        own = subst (λ j. AllByRecursion (Belongs j) chain) here own;
        ahead_others = tt;
        after_others = after_elsewhere t n (suc i) fs rest more (omega (arith, here));
        ahead_below = tt;
        after_above = after_beyond t n (suc i) fs rest more (omega (arith, here));
        more = subst (λ j. AreChained successor Belongs t (suc j) fs rest) here more;
        none_ahead = λ none. refl;
        put = λ {new} Other other front instead touched shows belongs _ apart same. (
          instead,
          rest,
          refl,
          shows,
          subst (λ j. AllByRecursion (Other j) instead) (sym here) belongs,
          chains_above new n Other other (suc i) fs rest (omega (arith, here)) (chains_frame successor Belongs t new touched (suc i) fs rest more apart same),
        );
      }
  chain_at t i (suc k) n (f ∷ fs) s is_n in_bounds (chain, rest, is, shown, own, more) =
      let r = chain_at t (suc i) k n fs rest (omega (arith, is_n)) (omega (arith, in_bounds)) more in record {
        ahead = chain ++ r.ahead;
        chain = r.chain;
        after = r.after;
        parts = is ∙ ap (λ l. chain ++ l) r.parts ∙ sym (append_assoc chain r.ahead (r.chain ++ r.after));
        shown = r.shown;
        own = r.own;
        ahead_others = all_both (Elsewhere Belongs n) chain r.ahead (all_map (λ p b. (i, (λ e. absurd (omega (arith, is_n, e))), b)) chain own) r.ahead_others;
        after_others = r.after_others;
        ahead_below = all_both (Below Belongs n) chain r.ahead (all_map (λ p b. (i, (omega (arith, is_n)), b)) chain own) r.ahead_below;
        after_above = r.after_above;
        more = r.more;
        none_ahead = λ none. ap (λ l. l ++ r.ahead) (empty_chain chain (none 0 (omega arith)) shown) ∙ r.none_ahead (λ j less. none (suc j) (omega (arith, less)));
        put = λ {new} Other other front instead touched shows belongs apart_ahead apart_after same. (
          chain,
          r.ahead ++ (instead ++ r.after),
          append_assoc chain r.ahead (instead ++ r.after),
          represents_frame touched shown (disjoint_ahead chain r.ahead touched apart_ahead) same,
          all_map (λ p b. other i p (λ e. absurd (omega (arith, is_n, e))) b) chain own,
          r.put Other other front instead touched shows belongs (disjoint_after chain r.ahead touched apart_ahead) apart_after same,
        );
      }
