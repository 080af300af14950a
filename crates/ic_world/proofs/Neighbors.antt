-- What `is_among`, `before_or` and `after_of` return for a member of a sequence, if the sequence is cut at a gap beside the member.
use Rattle.std.proofs.Common.{◌≡◌, ◌≢◌, ◌↔◌, IsTrue, inl, inr, Bool, true, false, cond, Option, Some, None, List, [], ◌∷◌, ◌++◌, refl, sym, ap, ◌∙◌, subst, drop, append_assoc, eq-eqb, ne_eqb}
use Rattle.std.proofs.lemmas.Bool.{false_from_ne_true}
use Rattle.ic_link_ops.specs.Prelude.{Place, index_of, Cut, join, first, last, last_or, but_last, IsAfter, IsBefore, IsAbsent, IsMember, IsDistinct}
use Rattle.ic_link_ops.proofs.Prelude.{same_index, absent_left, distinct_middle, first_is, nothing_last, split_last, member_split}
use Rattle.ic_world.specs.Family.{same_place, is_among, before_or, after_of, next_of}
use Rattle.ic_world.proofs.Linked.{absent_or}

same_here : (p : Place) → same_place p p ≡ true
same_here p = eq-eqb (index_of p) (index_of p) refl

other_there : (x p : Place) → p ≢ x → same_place x p ≡ false
other_there x p n = ne_eqb (index_of x) (index_of p) (λ e. n (sym (same_index x p e)))

-- in the sequence of f, p and b, the test `is_among` finds that p is a member. If p is not in f, its neighbors are the last place of f and the first
-- place of b
among_at : (f b : List Place) (p : Place) → is_among p (f ++ p ∷ b) ≡ true
among_at [] b p = rw (same_here p) refl
among_at (x ∷ f) b p = elim (same_place x p) as (λ c. cond c true (is_among p (f ++ p ∷ b)) ≡ true) [ true ↦ refl | false ↦ among_at f b p ]

before_at : (f b : List Place) (p : Place) (o : Option Place) → IsAbsent p f → before_or o (f ++ p ∷ b) p ≡ last_or o f
before_at [] b p o out = rw (same_here p) refl
before_at (x ∷ f) b p o out = rw (other_there x p out.0) (before_at f b p (Some x) out.1)

after_at : (f b : List Place) (p : Place) → IsAbsent p f → after_of (f ++ p ∷ b) p ≡ first b
after_at [] b p out = rw (same_here p) refl
after_at (x ∷ f) b p out = rw (other_there x p out.0) (after_at f b p out.1)

pub not_among : (s : List Place) (p : Place) → IsAbsent p s → is_among p s ≡ false
not_among [] p out = refl
not_among (x ∷ s) p out = rw (other_there x p out.0) (not_among s p out.1)

-- a sequence can be cut at the gap directly before a member p
pub member_gap : (s : List Place) (p : Place) → IsMember p s → (gap : Cut) × (join gap ≡ s) × IsBefore gap (Some p)
member_gap s p member = let e = member_split p s member in (record { front = e.0; back = p ∷ e.1 }, sym e.2, refl)

module _ (gap : Cut) {s : List Place} {p : Place} (cut : join gap ≡ s) (is : IsBefore gap (Some p)) where
  whole : s ≡ gap.front ++ p ∷ drop 1 gap.back
  whole = sym cut ∙ ap (λ b. gap.front ++ b) (first_is gap.back is)

  pub among_gap : is_among p s ≡ true
  among_gap = ap (is_among p) whole ∙ among_at gap.front (drop 1 gap.back) p

  module _ (distinct : IsDistinct s) where
    in_front : IsAbsent p gap.front
    in_front = absent_left p gap.front (drop 1 gap.back) (distinct_middle gap.front (drop 1 gap.back) p (subst IsDistinct whole distinct))

    pub before_gap : before_or None s p ≡ last gap.front
    before_gap = ap (λ t. before_or None t p) whole ∙ before_at gap.front (drop 1 gap.back) p None in_front

    pub after_gap : after_of s p ≡ first (drop 1 gap.back)
    after_gap = ap (λ t. after_of t p) whole ∙ after_at gap.front (drop 1 gap.back) p in_front

-- the member after a cursor is the first member after the gap that is after the cursor
pub next_gap : (gap : Cut) (cursor : Option Place) {s : List Place} → IsDistinct s → join gap ≡ s → IsAfter gap cursor → next_of s cursor ≡ first gap.back
next_gap gap None distinct cut is = ap first (sym cut) ∙ ap (λ f. first (f ++ gap.back)) (nothing_last gap.front is)
next_gap gap (Some p) {s} distinct cut is =
    let front : gap.front ≡ but_last gap.front ++ p ∷ [] = split_last gap.front (sym is) in
    let here : s ≡ (but_last gap.front ++ p ∷ []) ++ gap.back = sym cut ∙ ap (λ f. f ++ gap.back) front in
    let all : s ≡ but_last gap.front ++ p ∷ gap.back = here ∙ append_assoc (but_last gap.front) (p ∷ []) gap.back in
    let out = absent_left p (but_last gap.front) gap.back (distinct_middle (but_last gap.front) gap.back p (subst IsDistinct all distinct)) in
    ap (λ t. after_of t p) all ∙ after_at (but_last gap.front) gap.back p out

-- if b is true exactly if p is a member of s, then b is the result of `is_among`
pub contains_tells : (s : List Place) (p : Place) (b : Bool) → IsTrue b ↔ IsMember p s → is_among p s ≡ b
contains_tells s p b tells = elim (absent_or s p) [
  | inl out ↦ not_among s p out ∙ sym (false_from_ne_true b (λ h. tells.0 h out))
  | inr there ↦ let gap = member_gap s p there in among_gap gap.0 gap.1 gap.2 ∙ sym (tells.1 there)
]
