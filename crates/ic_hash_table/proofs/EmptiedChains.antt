-- These lemmas are about a hash table whose chains are emptied one after the other.
use Rattle.std.proofs.Common.{◌≡◌, ℕ, ◌+◌, ◌<◌, Option, None, List, [], ◌∷◌, ◌++◌, length, slice_index_or, slice_set, refl, sym, ap, ◌∙◌, subst, arith, append_assoc, append-nil, inl, inr, suc, eq-or-lt_of_le, get_or-set_same, get_or-set_other}
use Rattle.std.specs.Bool.{⊤}
use Rattle.std.specs.List.{AllByRecursion}
use Rattle.ic_link_ops.specs.Prelude.{Place, IsAbsent, IsDistinct, IsDisjoint, Table, ChangesOnlyIn, LinkStep, releases_each, Successor}
use Rattle.ic_link_ops.proofs.Prelude.{absent_left, absent_right, disjoint_sym, distinct_disjoint, distinct_right, releases_append}
use Rattle.ic_hash_table.specs.Chains.{AreChained}
use Rattle.ic_hash_table.proofs.Chains.{Between, chain_at, chains_one, chains_nothing}

module _ {L E : Type 0} (successor : E → Successor) (table : L → Table E) (Trace : L → L → List LinkStep → Type 0) where
  -- the chains with numbers below `at` are empty. The first members of s were unlinked, in their order, and the rest of s is in the other chains
  pub record Empties (old new : L) (at : ℕ) (fronts : List (Option Place)) (s : List Place) : Type 0 where
    pub done : List Place
    pub rest : List Place
    pub parts : s ≡ done ++ rest
    pub chained : AreChained successor (λ i p. ⊤) (table new) 0 fronts rest
    pub steps : Trace old new (releases_each done)
    pub frame : ChangesOnlyIn (table old) (table new) s

  -- at first no member is unlinked
  pub empties_none : (does_nothing : (t : L) → Trace t t []) (t : L) (fronts : List (Option Place)) (s : List Place) → AreChained successor (λ i p. ⊤) (table t) 0 fronts s → Empties t t 0 fronts s
  empties_none does_nothing t fronts s chained = record {
    done = [];
    rest = s;
    parts = refl;
    chained = chained;
    steps = does_nothing t;
    frame = record { extent = refl; others = λ q out. refl };
  }

  module _ {old mid : L} {at : ℕ} {fronts : List (Option Place)} {s : List Place} (in_bounds : at < length fronts) (k : Empties old mid at fronts s) where
    -- chain `at` is the next chain to be emptied
    pub next_chain : Between successor (λ i p. ⊤) (table mid) 0 at at fronts k.rest
    next_chain = chain_at successor (λ i p. ⊤) (table mid) 0 at at fronts k.rest (omega arith) in_bounds k.chained

    -- one chain more is emptied, and its members are unlinked
    pub empties_more : (does_on : (a b c : L) (r u : List LinkStep) → Trace a b r → Trace b c u → Trace a c (r ++ u)) (new : L) (none : (j : ℕ) → j < at → slice_index_or fronts j None ≡ None) → IsDistinct s
        → Trace mid new (releases_each next_chain.chain) → ChangesOnlyIn (table mid) (table new) next_chain.chain → Empties old new (at + 1) (slice_set fronts at None) s
    empties_more does_on new none distinct steps frame =
        let c = next_chain in
        let rest : k.rest ≡ c.chain ++ c.after = c.parts ∙ ap (λ l. l ++ (c.chain ++ c.after)) (c.none_ahead none) in
        let d : IsDistinct (c.chain ++ c.after) = subst IsDistinct rest (distinct_right k.done k.rest (subst IsDistinct k.parts distinct)) in
        record {
          done = k.done ++ c.chain;
          rest = c.after;
          parts = k.parts ∙ ap (λ l. k.done ++ l) rest ∙ sym (append_assoc k.done c.chain c.after);
          chained = subst (λ l. AreChained successor (λ i p. ⊤) (table new) 0 (slice_set fronts at None) (l ++ c.after)) (c.none_ahead none)
              (c.put (λ i p. ⊤) (λ j p n b. tt) None [] c.chain (record { distinct = tt; chain = tt; head = refl; tail = refl }) tt (subst (λ l. IsDisjoint l c.chain) (sym (c.none_ahead none)) tt) (disjoint_sym c.chain c.after (distinct_disjoint c.chain c.after d)) frame.others);
          steps = subst (Trace old new) (sym (releases_append k.done c.chain)) (does_on old mid new (releases_each k.done) (releases_each c.chain) k.steps steps);
          frame = record {
            extent = frame.extent ∙ k.frame.extent;
            others = λ q out. frame.others q (absent_left q c.chain c.after (subst (IsAbsent q) rest (absent_right q k.done k.rest (subst (IsAbsent q) k.parts out)))) ∙ k.frame.others q out;
          };
        }

-- if chain `at` is emptied after all chains before it, all chains up to `at` are empty
pub none_below : (at : ℕ) (fronts : List (Option Place)) → at < length fronts → ((j : ℕ) → j < at → slice_index_or fronts j None ≡ None)
    → (j : ℕ) → j < at + 1 → slice_index_or (slice_set fronts at None) j None ≡ None
none_below at fronts in_bounds none j less = elim (eq-or-lt_of_le {n = j} {m = at} (omega (arith, less))) [
  | inl e ↦ rw e (get_or-set_same fronts at None None in_bounds)
  | inr l ↦ get_or-set_other fronts at j None None (λ e. absurd (omega (arith, l, e))) ∙ none j l
]

-- if the first member at each index of a row is none, all first members of the row are none
pub all_none : (fronts : List (Option Place)) → ((j : ℕ) → j < length fronts → slice_index_or fronts j None ≡ None) → AllByRecursion (λ front. front ≡ None) fronts
all_none [] none = tt
all_none (f ∷ fs) none = (none 0 (omega arith), all_none fs (λ j less. none (suc j) (omega (arith, less))))

-- if all chains are empty, every member of s was unlinked
module _ {L E : Type 0} {successor : E → Successor} {table : L → Table E} {Trace : L → L → List LinkStep → Type 0} {old new : L} {at : ℕ} {fronts : List (Option Place)} {s : List Place} where
  pub all_done : (k : Empties successor table Trace old new at fronts s) → AllByRecursion (λ front. front ≡ None) fronts → Trace old new (releases_each s)
  all_done k none =
      subst (λ l. Trace old new (releases_each l)) (sym (k.parts ∙ ap (λ l. k.done ++ l) (no_members (table new) 0 fronts k.rest none k.chained) ∙ append-nil k.done)) k.steps
    where
      no_members : (t : Table E) (i : ℕ) (fronts : List (Option Place)) (s : List Place) → AllByRecursion (λ front. front ≡ None) fronts → AreChained successor (λ i p. ⊤) t i fronts s → s ≡ []
      no_members t i fronts s none chained = chains_one successor (λ i p. ⊤) t i fronts s [] chained (chains_nothing successor (λ i p. ⊤) t i fronts none)
