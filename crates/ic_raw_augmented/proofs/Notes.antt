-- Lemmas on how a place is recorded, and on when a record stays complete while children are written.
use Rattle.std.proofs.Common.{◌≡◌, ◌≢◌, ◌≤◌, ◌<◌, ◌||◌, ℕ, zero, suc, Bool, true, false, cond, Option, Some, None, List, [], ◌∷◌, length, drop, slice_index_or, slice_set, refl, sym, ap, ◌∙◌, subst, inl, inr, arith, eq-eqb}
use Rattle.ic_link_ops.specs.Prelude.{Place, index_of, word_of, Table, ChangesOnly, is_end}
use Rattle.ic_unsafe_ref.proofs.PlaceLemmas.{same_or_not}
use Rattle.ic_raw.specs.declared.nodes.Seen.{Seen}
use Rattle.ic_raw.specs.declared.words.RawThree.{RawThree}
use Rattle.ic_raw.specs.Prelude.{also, seen, seen_node, place_in}
use Rattle.ic_raw.proofs.Entries.{place_kept}
use Rattle.ic_raw_augmented.specs.declared.written.Written.{Written}
use Rattle.ic_raw_augmented.specs.Written.{KeepsChildren, Notes, is_among, is_noted}

-- let q be in T if q is in S. Then q is in T or is the place o, if q is in S or is the place o
also_still : (o : Option Place) (S T : Place → Bool) (q : Place) → (S q ≡ true → T q ≡ true) → also o S q ≡ true → also o T q ≡ true
also_still o S T q more = pick (is_end o q) where
  pick : (b : Bool) → cond b true (S q) ≡ true → cond b true (T q) ≡ true
  pick true e = refl
  pick false e = more e

also_there : (o : Option Place) (S : Place → Bool) (q : Place) → S q ≡ true → also o S q ≡ true
also_there o S q h = pick (is_end o q) where
  pick : (b : Bool) → cond b true (S q) ≡ true
  pick true = refl
  pick false = h

also_one : (o : Option Place) (S : Place → Bool) (p : Place) → o ≡ Some p → also o S p ≡ true
also_one o S p e = ap (λ (b : Bool). cond b true (S p)) (ap (λ (x : Option Place). is_end x p) e ∙ eq-eqb (index_of p) (index_of p) refl)

-- after a word is written into the record, the place of this word is among the recorded places
pub among_here : (ws : List ℕ) (i w : ℕ) (p : Place) → i < length ws → w ≡ word_of (Some p) → is_among (slice_set ws i w) p ≡ true
among_here [] i w p less is = absurd (omega (arith, less))
among_here (x ∷ ws) zero w p less is = also_one (place_in w) (is_among ws) p (ap place_in is ∙ place_kept (Some p))
among_here (x ∷ ws) (suc i) w p less is = also_there (place_in x) (is_among (slice_set ws i w)) p (among_here ws i w p (omega (arith, less)) is)

-- if a word is written where the record had the word 0, each place that was recorded is still recorded
pub among_still : (ws : List ℕ) (i w : ℕ) → slice_index_or ws i 0 ≡ 0 → (q : Place) → is_among ws q ≡ true → is_among (slice_set ws i w) q ≡ true
among_still [] i w none q h = h
among_still (x ∷ ws) zero w none q h =
    let rest : is_among ws q ≡ true = subst (λ (o : Option Place). also o (is_among ws) q ≡ true) (ap place_in none ∙ place_kept None) h in
    also_there (place_in w) (is_among ws) q rest
among_still (x ∷ ws) (suc i) w none q h = also_still (place_in x) (is_among ws) (is_among (slice_set ws i w)) q (among_still ws i w none q) h

pub or_more : (b x y : Bool) → (x ≡ true → y ≡ true) → b || x ≡ true → b || y ≡ true
or_more true x y more e = refl
or_more false x y more e = more e

pub or_there : (b x : Bool) → x ≡ true → b || x ≡ true
or_there true x e = refl
or_there false x e = e

-- the places of the words from the index i on are the place of the word at i and the places of the words after i
pub among_drop : (ws : List ℕ) (i : ℕ) → i < length ws → (q : Place) → is_among (drop i ws) q ≡ also (place_in (slice_index_or ws i 0)) (is_among (drop (suc i) ws)) q
among_drop [] i less q = absurd (omega (arith, less))
among_drop (x ∷ ws) zero less q = refl
among_drop (x ∷ ws) (suc i) less q = among_drop ws i (omega (arith, less)) q

-- if the index i is at least the number of words, no place is recorded from i on
pub among_past : (ws : List ℕ) (i : ℕ) → length ws ≤ i → (q : Place) → is_among (drop i ws) q ≡ false
among_past [] zero less q = refl
among_past [] (suc i) less q = refl
among_past (x ∷ ws) zero less q = absurd (omega (arith, less))
among_past (x ∷ ws) (suc i) less q = among_past ws i (omega (arith, less)) q

-- if only the place p changes, and p is recorded, the record is complete
pub write_noted : (was is : Written) (old new : Table RawThree) (p : Place) → is_noted is p ≡ true → ((q : Place) → is_noted was q ≡ true → is_noted is q ≡ true)
    → ChangesOnly (seen old) (seen new) p → Notes was is old new
write_noted was is old new p here noted only = record {
  noted = noted;
  children = λ q off.
      let apart : q ≢ p = λ e. let k : true ≡ false = sym here ∙ (sym (ap (is_noted is) e) ∙ off) in cc in
      let same = only.others q apart in
      record { left = ap (λ (e : Seen). (seen_node e).left) same; right = ap (λ (e : Seen). (seen_node e).right) same };
}

-- if only the place p changes, and p keeps its children, the record stays complete
pub write_beside : (w : Written) (old new : Table RawThree) (p : Place) → KeepsChildren old new p → ChangesOnly (seen old) (seen new) p → Notes w w old new
write_beside w old new p kept only = record {
  noted = λ q h. h;
  children = λ q off. elim (same_or_not q p) [
    | inl e ↦ subst (λ (y : Place). KeepsChildren old new y) (sym e) kept
    | inr n ↦ record { left = ap (λ (e : Seen). (seen_node e).left) (only.others q n); right = ap (λ (e : Seen). (seen_node e).right) (only.others q n) }
  ];
}
