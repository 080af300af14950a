-- How the set of the linked places of a table changes with the entries of the table.
use Rattle.std.proofs.Common.{◌≡◌, ◌≢◌, ℕ, zero, suc, ◌<◌, ◌+◌, ◌*◌, Option, Some, None, ◌≤◌, ◌⊎◌, inl, inr, Bool, true, false, cond, not, ◌&&◌, ◌||◌, nat_eq, List, [], ◌∷◌, refl, sym, ap, ◌∙◌, subst, arith, eq-eqb, ne_eqb, nat_cmp}
use Rattle.std.specs.List.{list_any}
use Rattle.std.specs.Cmp.{nat_cmp_total, unsigned_tied}
use Rattle.std.specs.FinSet as set
use Rattle.std.specs.FinSet.{contains-from_list_nat, contains-insert, contains-remove, same_set, nat_cmp-IsAntisymmetric}
use Rattle.std.proofs.lemmas.Bool.{cases_eq}
use Rattle.ic_link_ops.specs.Prelude.{Place, index_of, place_at, IsAbsent, Table, with_extent, IsCovered, LinksAlso, Unlinks}
use Rattle.ic_unsafe_ref.proofs.PlaceLemmas.{index_small, place_with, same_index, place_at_word, index_at}
use Rattle.ic_any_collection.specs.declared.entry.Entry.{Entry}
use Rattle.ic_any_collection.specs.Entries.{is_linked}
use Rattle.ic_any_collection.proofs.AllKinds.{IsLawful}
use Rattle.ic_world.specs.Prelude.{unlinked, no_table}
use Rattle.ic_world.specs.LinkedSets.{linked_there, linked_index, linked_below, linked_in}

-- `linked_index` at the index of a place says whether the entry of the place is linked. An index past all places is not linked
linked_index_is : (t : Table Entry) (p : Place) → linked_index t (index_of p) ≡ is_linked (t.entry p)
linked_index_is t p = ap (linked_there t) (place_at_word (Some p))

linked_index_past : (t : Table Entry) (i : ℕ) → 8589934591 ≤ i → (o : Option Place) → place_at (8 * (i + 1)) ≡ o → linked_there t o ≡ false
linked_index_past t i h None e = refl
linked_index_past t i h (Some p) e = absurd (omega (arith, h, index_at i p e, index_small p))

-- a place that is not covered is unlinked
unlinked_past : (t : Table Entry) → IsLawful t → (p : Place) → t.extent.places ≤ index_of p → (b : Bool) → is_linked (t.entry p) ≡ b → is_linked (t.entry p) ≡ false
unlinked_past t law p h true e = absurd (omega (arith, h, law p e))
unlinked_past t law p h false e = e

pub side : (m n : ℕ) → (m ≤ n) ⊎ (n < m)
side zero n = inl (omega arith)
side (suc m) zero = inr (omega arith)
side (suc m) (suc n) = elim (side m n) [ inl h ↦ inl (omega (arith, h)) | inr h ↦ inr (omega (arith, h)) ]

-- the list `linked_below t n` has exactly the linked indexes below n
above : (t : Table Entry) (n i : ℕ) → n ≤ i → list_any (λ y. nat_eq y i) (linked_below t n) ≡ false
above t zero i h = refl
above t (suc n) i h =
    elim (linked_index t n) as (λ b. list_any (λ y. nat_eq y i) (cond b (n ∷ linked_below t n) (linked_below t n)) ≡ false) [
      | true ↦ rw (ne_eqb n i (λ e. omega (arith, h, e))) (above t n i (omega (arith, h)))
      | false ↦ above t n i (omega (arith, h))
    ]

below : (t : Table Entry) (n i : ℕ) → i < n → list_any (λ y. nat_eq y i) (linked_below t n) ≡ linked_index t i
below t zero i h = absurd (omega (arith, h))
below t (suc n) i h =
    elim (cases_eq n i) [
      | inl e ↦
          let at_n : list_any (λ y. nat_eq y n) (linked_below t (suc n)) ≡ linked_index t n =
          elim (linked_index t n) as (λ b. list_any (λ y. nat_eq y n) (cond b (n ∷ linked_below t n) (linked_below t n)) ≡ b) [
            | true ↦ rw (eq-eqb n n refl) refl
            | false ↦ above t n n (omega arith)
          ] in
          let P : ℕ → Type 0 = λ j. list_any (λ y. nat_eq y j) (linked_below t (suc n)) ≡ linked_index t j in
          subst P e at_n
      | inr d ↦
          let rest = below t n i (omega (arith, h, d)) in
          elim (linked_index t n) as (λ b. list_any (λ y. nat_eq y i) (cond b (n ∷ linked_below t n) (linked_below t n)) ≡ linked_index t i) [
            | true ↦ rw (ne_eqb n i d) rest
            | false ↦ rest
          ]
    ]

-- a place is in the linked set exactly if its entry is linked
pub in_linked : (t : Table Entry) → IsLawful t → (p : Place) → set.contains (linked_in t) (index_of p) ≡ is_linked (t.entry p)
unfolding linked_in
in_linked t law p =
    let n = t.extent.places in
    contains-from_list_nat (linked_below t n) (index_of p)
    ∙ elim (side n (index_of p)) [
      | inl h ↦ above t n (index_of p) h ∙ sym (unlinked_past t law p h (is_linked (t.entry p)) refl)
      | inr h ↦ below t n (index_of p) h ∙ linked_index_is t p
    ]

-- an index past the indexes of all places is not in the linked set
beyond : (t : Table Entry) (i : ℕ) → 8589934591 ≤ i → set.contains (linked_in t) i ≡ false
unfolding linked_in
beyond t i h =
    let n = t.extent.places in
    contains-from_list_nat (linked_below t n) i
    ∙ elim (side n i) [
      | inl k ↦ above t n i k
      | inr k ↦ below t n i k ∙ linked_index_past t i h (place_at (8 * (i + 1))) refl
    ]

-- if the set s has the indexes of all linked places of t, and no other index, then s is the linked set of t
is_linked_set : (t : Table Entry) → IsLawful t → (s : set.FinSet nat_cmp) → ((p : Place) → set.contains s (index_of p) ≡ is_linked (t.entry p))
    → ((i : ℕ) → 8589934591 ≤ i → set.contains s i ≡ false) → linked_in t ≡ s
is_linked_set t law s in_bounds past =
    same_set nat_cmp_total nat_cmp-IsAntisymmetric _ _ (λ i.
    elim (side 8589934591 i) [
      | inl h ↦ beyond t i h ∙ sym (past i h)
      | inr h ↦
          let p = place_with i h in
          let P : ℕ → Type 0 = λ j. set.contains (linked_in t) j ≡ set.contains s j in
          subst P p.1 (in_linked t law p.0 ∙ sym (in_bounds p.0))
    ])

pub linked_empty : linked_in no_table ≡ set.empty
unfolding linked_in
linked_empty = refl

-- if the same places are linked in both tables, both tables have the same linked set
pub linked_same : (old new : Table Entry) → IsLawful old → IsLawful new → ((q : Place) → is_linked (new.entry q) ≡ is_linked (old.entry q)) → linked_in new ≡ linked_in old
linked_same old new law law' same = is_linked_set new law' (linked_in old) (λ p. in_linked old law p ∙ sym (same p)) (beyond old)

-- if p is linked in the new table, and all other places are linked as in the old one, the new linked set is the old one with p
pub linked_gains : (old new : Table Entry) → IsLawful old → IsLawful new → (p : Place) → is_linked (new.entry p) ≡ true
    → ((q : Place) → q ≢ p → is_linked (new.entry q) ≡ is_linked (old.entry q)) → linked_in new ≡ set.insert (linked_in old) (index_of p)
linked_gains old new law law' p now same =
    is_linked_set new law' (set.insert (linked_in old) (index_of p))
    (λ q. contains-insert nat_cmp_total (linked_in old) (index_of p) (index_of q)
    ∙ elim (cases_eq (index_of q) (index_of p)) [
      | inl e ↦ ap (λ b. b || set.contains (linked_in old) (index_of q)) (unsigned_tied (index_of q) (index_of p) ∙ eq-eqb _ _ e)
          ∙ sym (ap (λ r. is_linked (new.entry r)) (same_index q p e) ∙ now)
      | inr d ↦ ap (λ b. b || set.contains (linked_in old) (index_of q)) (unsigned_tied (index_of q) (index_of p) ∙ ne_eqb _ _ d)
          ∙ in_linked old law q ∙ sym (same q (λ e. d (ap index_of e)))
    ])
    (λ i h. contains-insert nat_cmp_total (linked_in old) (index_of p) i
    ∙ ap (λ b. b || set.contains (linked_in old) i) (unsigned_tied i (index_of p) ∙ ne_eqb i (index_of p) (λ e. omega (arith, e, h, index_small p)))
    ∙ beyond old i h)

-- if p is unlinked in the new table, and all other places are linked as in the old one, the new linked set is the old one without p
pub linked_loses : (old new : Table Entry) → IsLawful old → IsLawful new → (p : Place) → is_linked (new.entry p) ≡ false
    → ((q : Place) → q ≢ p → is_linked (new.entry q) ≡ is_linked (old.entry q)) → linked_in new ≡ set.remove (linked_in old) (index_of p)
linked_loses old new law law' p now same =
    is_linked_set new law' (set.remove (linked_in old) (index_of p))
    (λ q. contains-remove nat_cmp_total (linked_in old) (index_of p) (index_of q)
    ∙ elim (cases_eq (index_of q) (index_of p)) [
      | inl e ↦ ap (λ b. not b && set.contains (linked_in old) (index_of q)) (unsigned_tied (index_of q) (index_of p) ∙ eq-eqb _ _ e)
          ∙ sym (ap (λ r. is_linked (new.entry r)) (same_index q p e) ∙ now)
      | inr d ↦ ap (λ b. not b && set.contains (linked_in old) (index_of q)) (unsigned_tied (index_of q) (index_of p) ∙ ne_eqb _ _ d)
          ∙ in_linked old law q ∙ sym (same q (λ e. d (ap index_of e)))
    ])
    (λ i h. contains-remove nat_cmp_total (linked_in old) (index_of p) i
    ∙ ap (λ b. not b && set.contains (linked_in old) i) (unsigned_tied i (index_of p) ∙ ne_eqb i (index_of p) (λ e. omega (arith, e, h, index_small p)))
    ∙ beyond old i h)

-- a place q is absent from the sequence s, or is a member of it
pub absent_or : (s : List Place) (q : Place) → IsAbsent q s ⊎ (IsAbsent q s → ⊥)
absent_or [] q = inl tt
absent_or (x ∷ s) q =
    elim (cases_eq (index_of q) (index_of x)) [
      | inl e ↦ inr (λ out. out.0 (same_index q x e))
      | inr d ↦ elim (absent_or s q) [
        | inl out ↦ inl ((λ e. d (ap index_of e)), out)
        | inr there ↦ inr (λ out. there out.1)
      ]
    ]

-- let the places of s be unlinked in the new table, and all other places be linked as in the old one. Then the new linked set is the old one without
-- the places of s
pub linked_unlinks : (old new : Table Entry) → IsLawful old → IsLawful new → (s : List Place) → ((q : Place) → (IsAbsent q s → ⊥) → is_linked (new.entry q) ≡ false)
    → ((q : Place) → IsAbsent q s → is_linked (new.entry q) ≡ is_linked (old.entry q)) → linked_in new ≡ unlinked (linked_in old) s
linked_unlinks old new law law' s now same =
    is_linked_set new law' (unlinked (linked_in old) s)
    (λ q. elim (absent_or s q) [
      | inl out ↦ out_of s q out ∙ in_linked old law q ∙ sym (same q out)
      | inr there ↦ gone s q there ∙ sym (now q there)
    ])
    (past s)
  where
    step : (s : List Place) (x : Place) (i : ℕ) → i ≢ index_of x → set.contains (unlinked (linked_in old) (x ∷ s)) i ≡ set.contains (unlinked (linked_in old) s) i
    step s x i d =
        contains-remove nat_cmp_total (unlinked (linked_in old) s) (index_of x) i
        ∙ ap (λ b. not b && set.contains (unlinked (linked_in old) s) i) (unsigned_tied i (index_of x) ∙ ne_eqb _ _ d)

    out_of : (s : List Place) (q : Place) → IsAbsent q s → set.contains (unlinked (linked_in old) s) (index_of q) ≡ set.contains (linked_in old) (index_of q)
    out_of [] q out = refl
    out_of (x ∷ s) q out = step s x (index_of q) (λ e. out.0 (same_index q x e)) ∙ out_of s q out.1

    gone : (s : List Place) (q : Place) → (IsAbsent q s → ⊥) → set.contains (unlinked (linked_in old) s) (index_of q) ≡ false
    gone [] q there = absurd (there tt)
    gone (x ∷ s) q there =
        elim (cases_eq (index_of q) (index_of x)) [
          | inl e ↦ contains-remove nat_cmp_total (unlinked (linked_in old) s) (index_of x) (index_of q)
              ∙ ap (λ b. not b && set.contains (unlinked (linked_in old) s) (index_of q)) (unsigned_tied (index_of q) (index_of x) ∙ eq-eqb _ _ e)
          | inr d ↦ step s x (index_of q) d ∙ gone s q (λ out. there ((λ e. d (ap index_of e)), out))
        ]

    past : (s : List Place) (i : ℕ) → 8589934591 ≤ i → set.contains (unlinked (linked_in old) s) i ≡ false
    past [] i h = beyond old i h
    past (x ∷ s) i h = step s x i (λ e. omega (arith, e, h, index_small x)) ∙ past s i h

-- if first p is linked and then `out` is unlinked, p is added to the linked set and `out` is removed from it
pub linked_swaps : (old mid new : Table Entry) → IsLawful old → IsLawful new → (p out : Place) → IsCovered old p → LinksAlso is_linked old mid p → Unlinks is_linked mid new out
    → linked_in new ≡ set.remove (set.insert (linked_in old) (index_of p)) (index_of out)
linked_swaps old mid new law law' p out covered gains loses =
    let between = with_extent old.extent mid in
    let law_between : IsLawful between = λ q h. elim (cases_eq (index_of q) (index_of p)) [
      | inl e ↦ omega (arith, e, covered)
      | inr d ↦ law q (sym (gains.others q (λ e. d (ap index_of e))) ∙ h)
    ] in
    linked_loses between new law_between law' out loses.is loses.others
    ∙ ap (λ s. set.remove s (index_of out)) (linked_gains old between law law_between p gains.is gains.others)
