-- Lemmas about the first and the last member of a sequence from which a member is removed, or into which a member is inserted.
use Rattle.std.proofs.Common.{◌≡◌, ◌≢◌, true, false, cond, Option, Some, None, List, [], ◌∷◌, ◌++◌, refl, sym, ap, ◌∙◌, subst, append-nil, append_assoc, eqb-true, drop}
use Rattle.std.specs.Option.{option_or, option_and}
use Rattle.ic_link_ops.specs.Prelude.{Place, index_of, Cut, join, insert, first, last, but_last, IsAbsent, IsDistinct, Table, is_end}
use Rattle.ic_link_ops.proofs.Prelude.{same_index, none_not, some_same, absent_right, distinct_right, first_is, split_last, last_not, last_or-append, last_of_push, last_some, is_end_not}
use Rattle.ic_link_ops.specs.declared.side.Side.{Side}
use Rattle.ic_link_ops.specs.declared.side.Side.TheVariants.{Left, Right}
use Rattle.ic_link_ops.specs.Frames.{across}
use Rattle.ic_link_ops.specs.RedBlackTree.{Node, Represents}
use Rattle.ic_rbtree.specs.Prelude.{end_on, IsBeside}
use Rattle.ic_rbtree.specs.Kept.{end_with, end_for, IsBelow}
use Rattle.ic_rbtree.proofs.Climbed.{is_end_there}

-- if the comparison of an end with p is true, the end is p
ends_there : (end : Option Place) (p : Place) → is_end end p ≡ true → end ≡ Some p
ends_there None p e = cc
ends_there (Some q) p e = ap (λ (z : Place). Some z) (same_index q p (eqb-true (index_of q) (index_of p) e))

-- in a sequence of distinct places, no member is before the first member, and no member is after the last member
none_before : (front back : List Place) (p : Place) → IsDistinct (front ++ p ∷ back) → Some p ≡ first (front ++ p ∷ back) → front ≡ []
none_before [] back p d e = refl
none_before (x ∷ front) back p d e = absurd ((absent_right x front (p ∷ back) d.0).0 (sym (some_same e)))

none_after : (front back : List Place) (p : Place) → IsDistinct (front ++ p ∷ back) → Some p ≡ last (front ++ p ∷ back) → back ≡ []
none_after front [] p d e = refl
none_after front (y ∷ back) p d e =
    let out : IsAbsent p (y ∷ back) = (distinct_right front (p ∷ y ∷ back) d).0 in
    absurd (last_not (Some y) back p (λ k. out.0 (sym (some_same k))) out.1 (sym (last_or-append None front (p ∷ y ∷ back)) ∙ sym e))

-- THE END IS REMOVED: if the removed member p was the end on side d, a step inwards from p leads to the new end
pub end_steps : {E : Type 0} {n : E → Node} {v : Table E} {root : Option Place} (d : Side) (front back : List Place) (p : Place) {end result : Option Place}
    → Represents n v root (front ++ p ∷ back) → end ≡ end_on d (front ++ p ∷ back) → is_end end p ≡ true
    → ((gap : Cut) → Represents n v root (join gap) → IsBeside (across d) gap (Some p) → IsBeside (across (across d)) gap result) → result ≡ end_on d (front ++ back)
end_steps {n = n} {v} {root} Left front back p {end} h is there leads =
    let none : front ≡ [] = none_before front back p h.held.distinct (sym (ends_there end p there) ∙ is) in
    leads (record { front = front ++ p ∷ []; back = back }) (subst (λ s. Represents n v root s) (sym (append_assoc front (p ∷ []) back)) h) (sym (last_of_push front p))
    ∙ ap (λ f. first (f ++ back)) (sym none)
end_steps {n = n} {v} {root} Right front back p {end} h is there leads =
    let none : back ≡ [] = none_after front back p h.held.distinct (sym (ends_there end p there) ∙ is) in
    leads (record { front = front; back = p ∷ back }) h refl ∙ ap (λ s. last s) (sym (append-nil front)) ∙ ap (λ b. last (front ++ b)) (sym none)

-- if the removed member p was not the end on side d, the end stays
pub end_stays : (d : Side) (front back : List Place) (p : Place) {end : Option Place} → end ≡ end_on d (front ++ p ∷ back) → is_end end p ≡ false → end ≡ end_on d (front ++ back)
end_stays Left [] back p is not_there = let k : true ≡ false = sym (is_end_there is) ∙ not_there in cc
end_stays Left (x ∷ front) back p is not_there = is
end_stays Right front [] p is not_there = let k : true ≡ false = sym (is_end_there (is ∙ last_of_push front p)) ∙ not_there in cc
end_stays Right front (y ∷ back) p is not_there = is ∙ last_or-append None front (p ∷ y ∷ back) ∙ sym (last_or-append None front (y ∷ back))

-- A PLACE IS INSERTED right before the member q: the place is the new first member if q was the first member, otherwise the first member stays
first_left : (front back : List Place) (q p : Place) {end : Option Place} → Some q ≡ first back → IsDistinct (front ++ back) → end ≡ first (front ++ back)
    → cond (is_end end q) (Some p) end ≡ first (front ++ p ∷ back)
first_left [] back q p {end} at d is = ap (λ b. cond b (Some p) end) (is_end_there (is ∙ sym at))
first_left (x ∷ front) back q p {end} at d is =
    let out : IsAbsent x (q ∷ drop 1 back) = subst (IsAbsent x) (first_is back at) (absent_right x front back d.0) in
    ap (λ b. cond b (Some p) end) (is_end_not end q (λ e. out.0 (some_same (sym is ∙ e)))) ∙ is

-- a place that is inserted after a member q is not the first member, so the first member stays
first_right : (front back : List Place) (q p : Place) {end : Option Place} → Some q ≡ last front → end ≡ first (front ++ back) → end ≡ first (front ++ p ∷ back)
first_right [] back q p at is = absurd (none_not q (sym at))
first_right (x ∷ front) back q p at is = is

pub comes_first : (parent : Option Place) (below : Side) (gap : Cut) (p : Place) {end : Option Place} → IsBelow parent below gap → IsDistinct (join gap) → end ≡ first (join gap)
    → end_with Left parent below p end ≡ first (insert gap p)
comes_first None below gap p at d is = ap (λ f. first (f ++ p ∷ gap.back)) (sym at.0)
comes_first (Some q) Left gap p at d is = first_left gap.front gap.back q p at d is
comes_first (Some q) Right gap p at d is = first_right gap.front gap.back q p at is

-- if a place is inserted right after the member q, it is the new last member if q was the last member, otherwise the last member stays
last_right : (front back : List Place) (q p : Place) {end : Option Place} → Some q ≡ last front → IsDistinct (front ++ back) → end ≡ last (front ++ back)
    → cond (is_end end q) (Some p) end ≡ last (front ++ p ∷ back)
last_right front [] q p {end} at d is =
    ap (λ b. cond b (Some p) end) (is_end_there (is ∙ ap (λ s. last s) (append-nil front) ∙ sym at)) ∙ sym (last_of_push front p)
last_right front (y ∷ back) q p {end} at d is =
    let same : front ++ y ∷ back ≡ but_last front ++ q ∷ y ∷ back = ap (λ s. s ++ y ∷ back) (split_last front (sym at)) ∙ append_assoc (but_last front) (q ∷ []) (y ∷ back) in
    let out : IsAbsent q (y ∷ back) = (distinct_right (but_last front) (q ∷ y ∷ back) (subst IsDistinct same d)).0 in
    let there : end ≡ last (y ∷ back) = is ∙ last_or-append None front (y ∷ back) in
    ap (λ b. cond b (Some p) end) (is_end_not end q (λ e. last_not (Some y) back q (λ k. out.0 (sym (some_same k))) out.1 (sym there ∙ e)))
    ∙ (is ∙ last_or-append None front (y ∷ back) ∙ sym (last_or-append None front (p ∷ y ∷ back)))

-- a place that is inserted before a member q is not the last member, so the last member stays
last_left : (front back : List Place) (q p : Place) {end : Option Place} → Some q ≡ first back → end ≡ last (front ++ back) → end ≡ last (front ++ p ∷ back)
last_left front [] q p at is = absurd (none_not q (sym at))
last_left front (y ∷ back) q p at is = is ∙ last_or-append None front (y ∷ back) ∙ sym (last_or-append None front (p ∷ y ∷ back))

pub comes_last : (parent : Option Place) (below : Side) (gap : Cut) (p : Place) {end : Option Place} → IsBelow parent below gap → IsDistinct (join gap) → end ≡ last (join gap)
    → end_with Right parent below p end ≡ last (insert gap p)
comes_last None below gap p at d is = sym (last_of_push gap.front p) ∙ ap (λ b. last (gap.front ++ p ∷ b)) (sym at.1)
comes_last (Some q) Left gap p at d is = last_left gap.front gap.back q p at is
comes_last (Some q) Right gap p at d is = last_right gap.front gap.back q p at d is

-- THE PLACE p REPLACES THE MEMBER `out`: if `out` was an end of the sequence, p is the new end
for_here : {end : Option Place} {out : Place} (p : Place) → end ≡ Some out → end_for out p end ≡ Some p
for_here {end} p e = ap (λ b. cond b (Some p) end) (is_end_there e)

for_other : {end : Option Place} {out : Place} (p : Place) → end ≢ Some out → end_for out p end ≡ end
for_other {end} {out} p k = ap (λ b. cond b (Some p) end) (is_end_not end out k)

pub first_replaced : (front back : List Place) (out p : Place) {end : Option Place} → IsDistinct (front ++ out ∷ back) → end ≡ first (front ++ out ∷ back) → end_for out p end ≡ first (front ++ p ∷ back)
first_replaced [] back out p d e = for_here p e
first_replaced (x ∷ front) back out p d e = for_other p (λ k. (absent_right x front (out ∷ back) d.0).0 (some_same (sym e ∙ k))) ∙ e

pub last_replaced : (front back : List Place) (out p : Place) {end : Option Place} → IsDistinct (front ++ out ∷ back) → end ≡ last (front ++ out ∷ back) → end_for out p end ≡ last (front ++ p ∷ back)
last_replaced front [] out p d e = for_here p (e ∙ last_of_push front out) ∙ sym (last_of_push front p)
last_replaced front (y ∷ back) out p {end} d e =
    let there : end ≡ last (y ∷ back) = e ∙ last_or-append None front (out ∷ y ∷ back) in
    let gone : IsAbsent out (y ∷ back) = (distinct_right front (out ∷ y ∷ back) d).0 in
    for_other p (λ k. last_not (Some y) back out (λ same. gone.0 (sym (some_same same))) gone.1 (sym there ∙ k)) ∙ (there ∙ sym (last_or-append None front (p ∷ y ∷ back)))

-- TWO SEQUENCES ARE JOINED with the member p between them. The first member is that of the first sequence, or p if the first sequence is empty. The last member
-- is that of the second sequence, or p if the second sequence is empty
pub first_around : (s t : List Place) (p : Place) {a : Option Place} → a ≡ first s → option_or a (Some p) ≡ first (s ++ p ∷ t)
first_around [] t p e = ap (λ z. option_or z (Some p)) e
first_around (x ∷ s) t p e = ap (λ z. option_or z (Some p)) e

-- the last member of a sequence that is not empty is a place, so the alternative o is not used
or_last : (y : Place) (t : List Place) (o : Option Place) → option_or (last (y ∷ t)) o ≡ last (y ∷ t)
or_last y t o = by (last (y ∷ t)) refl where
  by : (k : Option Place) → last (y ∷ t) ≡ k → option_or k o ≡ k
  by None e = absurd (last_some y t e)
  by (Some q) e = refl

pub last_around : (s t : List Place) (p : Place) {a : Option Place} → a ≡ last t → option_or a (Some p) ≡ last (s ++ p ∷ t)
last_around s [] p e = ap (λ z. option_or z (Some p)) e ∙ sym (last_of_push s p)
last_around s (y ∷ t) p e = ap (λ z. option_or z (Some p)) e ∙ (or_last y t (Some p) ∙ sym (last_or-append None s (p ∷ y ∷ t)))

-- A SEQUENCE IS SPLIT before the member p: the first part begins with the old first member, unless this part is empty. The second part ends with the old last
-- member
first_kept : (s t : List Place) (p : Place) → option_and (last s) (first (s ++ p ∷ t)) ≡ first s
first_kept [] t p = refl
first_kept (x ∷ s) t p = by (last (x ∷ s)) refl where
  by : (k : Option Place) → last (x ∷ s) ≡ k → option_and k (Some x) ≡ Some x
  by None e = absurd (last_some x s e)
  by (Some q) e = refl

pub first_before : (s t : List Place) (p : Place) {a b : Option Place} → a ≡ last s → b ≡ first (s ++ p ∷ t) → option_and a b ≡ first s
first_before s t p {a} {b} e f = ap (λ z. option_and z b) e ∙ ap (λ z. option_and (last s) z) f ∙ first_kept s t p

pub last_handed : (s t : List Place) (p : Place) → last (s ++ p ∷ t) ≡ last (p ∷ t)
last_handed s t p = last_or-append None s (p ∷ t)
