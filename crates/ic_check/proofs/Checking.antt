-- Lemmas on a walk along a list whose words may contain anything. Each sequence that the table represents begins with the members that the walk has passed. At
-- the end of the walk, the passed members are all members.
use Rattle.std.proofs.Common.{◌≡◌, ℕ, ◌+◌, ◌<◌, ◌⊎◌, inl, inr, Option, Some, None, List, [], ◌∷◌, ◌++◌, drop, length, length-append, refl, sym, ◌∙◌, ap, subst, arith, append_assoc, append-nil}
use Rattle.ic_link_ops.specs.Prelude.{Place, IsAbsent, IsMember, IsDistinct, first_or, last_or, first, last, Table, IsCovered}
use Rattle.ic_link_ops.proofs.Prelude.{same_or_not, first_or-append, last_or-append, first_is, nothing_first, some_same, none_not, member_split, chain_cut, chain_glue, stretch_length}
use Rattle.ic_link_ops.specs.Chains.{IsChain}

-- a place is absent from a list, or it is a member of the list
pub absent_or : (q : Place) (s : List Place) → IsAbsent q s ⊎ IsMember q s
absent_or q [] = inl tt
absent_or q (x ∷ s) = elim (same_or_not q x) [
  | inl e ↦ inr (λ out. out.0 e)
  | inr n ↦ elim (absent_or q s) [ inl out ↦ inl (n, out) | inr member ↦ inr (λ out. member out.1) ]
]

module _ {E : Type 0} (between : E → Option Place → Option Place → Type 0) where
  -- a walk that began at `head` has passed `count` members, the last of them `before`, and has come to the place `current`. Every sequence that the table
  -- represents begins with the passed members
  pub record Checks (t : Table E) (head before current : Option Place) (count : ℕ) : Type 0 where
    pub done : List Place
    pub chain : IsChain between t.entry None done current
    pub starts : head ≡ first_or done current
    pub ends : before ≡ last done
    pub counted : count ≡ length done
    pub leads : (s : List Place) → IsChain between t.entry None s None → head ≡ first s → (rest : List Place) × (s ≡ done ++ rest) × (current ≡ first rest)

-- `law` says that an entry and the place before it determine the place after it
module _ {E : Type 0} {between : E → Option Place → Option Place → Type 0} (step : E → Option Place → Option Place) (law : (e : E) (b a : Option Place) → between e b a → step e b ≡ a) where
  module _ {t : Table E} {head before current : Option Place} {count : ℕ} where
    -- at the beginning of the walk no member is passed
    unfoldable pub checks_none : head ≡ current → before ≡ None → count ≡ 0 → Checks between t head before current count
    checks_none e n z = record {
      done = [];
      chain = tt;
      starts = e;
      ends = n;
      counted = z;
      leads = λ s chain starts. (s, refl, sym e ∙ starts);
    }

  -- each sequence s that the table represents consists of the passed members, the place p that the walk has come to, and some further members
  pub checks_stands : {t : Table E} {head before current : Option Place} {p : Place} {count : ℕ} (k : Checks between t head before current count) → current ≡ Some p
      → (s : List Place) → IsChain between t.entry None s None → head ≡ first s
      → (rest : List Place) × (s ≡ k.done ++ p ∷ rest) × between (t.entry p) before (first rest)
  checks_stands {t} {head} {before} {current} {p} k is s chain starts =
      let l = k.leads s chain starts in
      let r : l.0 ≡ p ∷ drop 1 l.0 = first_is l.0 (sym is ∙ l.2) in
      let parts : s ≡ k.done ++ p ∷ drop 1 l.0 = l.1 ∙ ap (λ (m : List Place). k.done ++ m) r in
      let cut = chain_cut between t.entry None k.done (p ∷ drop 1 l.0) None (subst (λ (m : List Place). IsChain between t.entry None m None) parts chain) in
      (drop 1 l.0, parts, rw k.ends cut.1.0)

  -- the walk goes on to the place `ahead` if the entry of the place p says that p is between `before` and `ahead`
  unfoldable pub checks_more : {t : Table E} {head before current ahead : Option Place} {p : Place} {count more : ℕ} → Checks between t head before current count → current ≡ Some p
      → between (t.entry p) before ahead → more ≡ count + 1 → Checks between t head (Some p) ahead more
  checks_more {t} {head} {before} {current} {ahead} {p} {count} {more} k is stands counts = record {
    done = k.done ++ p ∷ [];
    chain = chain_glue between t.entry None k.done (p ∷ []) ahead (rw is at k.chain) (rw k.ends at stands, tt);
    starts = k.starts ∙ ap (first_or k.done) is ∙ sym (first_or-append k.done (p ∷ []) ahead);
    ends = sym (last_or-append None k.done (p ∷ []));
    counted = omega (arith, counts, k.counted, length-append k.done (p ∷ []));
    leads = λ s chain starts.
        let l = checks_stands k is s chain starts in
        (l.0, l.1 ∙ sym (append_assoc k.done (p ∷ []) l.0), sym (law (t.entry p) before ahead stands) ∙ law (t.entry p) before (first l.0) l.2);
  }

  -- if the walk has ended, the last passed member is the last member of each represented sequence
  pub checks_whole : {t : Table E} {head before current : Option Place} {count : ℕ} (k : Checks between t head before current count) → current ≡ None
      → (s : List Place) → IsChain between t.entry None s None → head ≡ first s → before ≡ last s
  checks_whole k over s chain starts =
      let l = k.leads s chain starts in
      let none : l.0 ≡ [] = nothing_first l.0 (sym over ∙ l.2) in
      let whole : s ≡ k.done = l.1 ∙ ap (λ (m : List Place). k.done ++ m) none ∙ append-nil k.done in
      k.ends ∙ ap last (sym whole)

  -- if the table represents a sequence and the walk has come to a member, the walk has passed fewer members than the table covers places
  pub checks_few : {t : Table E} {head before current : Option Place} {p : Place} {count : ℕ} → ((q : Place) (b a : Option Place) → between (t.entry q) b a → IsCovered t q)
      → (k : Checks between t head before current count) → current ≡ Some p
      → (s : List Place) → IsDistinct s → IsChain between t.entry None s None → head ≡ first s → count < t.extent.places
  checks_few {t} {p = p} covered k is s distinct chain starts =
      let l = checks_stands k is s chain starts in
      let few = stretch_length {between = between} t covered {b = None} {from = first s} {to = last s} {a = None} {w = s} (record { distinct = distinct; chain = chain; starts = refl; ends = refl }) in
      omega (arith, few, k.counted, ap length l.1, length-append k.done (p ∷ l.0))

-- `law` says that an entry alone determines the place after it
module _ {E : Type 0} {between : E → Option Place → Option Place → Type 0} (next : E → Option Place) (law : (e : E) (b a : Option Place) → between e b a → next e ≡ a) where
  -- two chains that begin with the same place are equal, whatever places are before them
  one_chain : (t : Place → E) (b c : Option Place) (s r : List Place) → first s ≡ first r → IsChain between t b s None → IsChain between t c r None → s ≡ r
  one_chain t b c [] [] e h k = refl
  one_chain t b c [] (y ∷ r) e h k = absurd (none_not y e)
  one_chain t b c (x ∷ s) [] e h k = absurd (none_not x (sym e))
  one_chain t b c (x ∷ s) (y ∷ r) e h k =
      let same : y ≡ x = some_same (sym e) in
      let k' = rw same at k in
      rw same (ap (λ (l : List Place). x ∷ l) (one_chain t (Some x) (Some x) s r (sym (law (t x) b (first s) h.0) ∙ law (t x) c (first r) k'.0) h.1 k'.1))

  -- a chain that ends contains no place twice
  pub chain_distinct : (t : Place → E) (b : Option Place) (s : List Place) → IsChain between t b s None → IsDistinct s
  chain_distinct t b [] h = tt
  chain_distinct t b (x ∷ s) h = (once (absent_or x s), chain_distinct t (Some x) s h.1) where
    once : IsAbsent x s ⊎ IsMember x s → IsAbsent x s
    once (inl out) = out
    once (inr member) =
        let parts = member_split x s member in
        let cut = chain_cut between t (Some x) parts.0 (x ∷ parts.1) None (subst (λ (l : List Place). IsChain between t (Some x) l None) parts.2 h.1) in
        let same : x ∷ s ≡ x ∷ parts.1 = one_chain t b (last_or (Some x) parts.0) (x ∷ s) (x ∷ parts.1) refl h cut.1 in
        absurd (omega (arith, ap length same, ap length parts.2, length-append parts.0 (x ∷ parts.1)))

  -- if the walk has ended, the passed members are a chain that begins with the list's first member, ends, and contains no place twice
  pub checks_all : {t : Table E} {head before current : Option Place} {count : ℕ} (k : Checks between t head before current count) → current ≡ None
      → IsDistinct k.done × IsChain between t.entry None k.done None × (head ≡ first k.done)
  checks_all {t} k over = let chain = rw over at k.chain in (chain_distinct t.entry None k.done chain, chain, k.starts ∙ ap (first_or k.done) over)

-- the place after an entry, for kinds of lists in which the place before does not matter
abbrev pub next_of : {E : Type 0} → (E → Option Place → Option Place) → E → Option Place
next_of step e = step e None

module _ {E : Type 0} {between : E → Option Place → Option Place → Type 0} {step : E → Option Place → Option Place} where
  pub leads_on : ((e : E) (b c : Option Place) → step e b ≡ step e c) → ((e : E) (b a : Option Place) → between e b a → step e b ≡ a)
      → (e : E) (b a : Option Place) → between e b a → next_of step e ≡ a
  leads_on blind leads e b a h = blind e None b ∙ leads e b a h

  -- if the entry e is between b and a, e is also between b and the place to which e leads from b
  pub stands_after : ((e : E) (b a : Option Place) → between e b a → step e b ≡ a) → {e : E} {b a : Option Place} → between e b a → between e b (step e b)
  stands_after leads {e} {b} {a} h = subst (between e b) (sym (leads e b a h)) h
