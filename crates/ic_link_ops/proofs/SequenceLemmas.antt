-- This file proves facts about sequences of places: about their ends, and about sequences that are cut, joined or edited.
use Rattle.std.proofs.Common.{◌≡◌, ◌≢◌, ◌<◌, Option, Some, None, List, [], ◌∷◌, ◌++◌, drop, length, reverse, refl, sym, ◌∙◌, ap, subst, arith, append_assoc, append-nil, inl, inr}
use Rattle.std.proofs.lemmas.List.{reverse-append}
use Rattle.ic_link_ops.specs.Base.{Place, Cut, join, at_front, at_back, first, last, but_last, IsAfter, IsBefore, IsAbsent, IsMember, IsDistinct, IsDisjoint, first_or, last_or}
use Rattle.ic_unsafe_ref.proofs.PlaceLemmas.{same_or_not}
use Rattle.ic_link_ops.specs.Chains.{end_of}

-- The end is none, or it is a place that is no member of the sequence s.
abbrev pub IsOutside : Option Place → List Place → Type 0
IsOutside None s = Unit {0}
IsOutside (Some q) s = IsAbsent q s

pub first_or-append : (s t : List Place) (a : Option Place) → first_or (s ++ t) a ≡ first_or s (first_or t a)
first_or-append [] t a = refl
first_or-append (x ∷ s) t a = refl

pub last_or-append : (b : Option Place) (s t : List Place) → last_or b (s ++ t) ≡ last_or (last_or b s) t
last_or-append b [] t = refl
last_or-append b (x ∷ s) t = last_or-append (Some x) s t

pub absent_left : (q : Place) (s t : List Place) → IsAbsent q (s ++ t) → IsAbsent q s
absent_left q [] t h = tt
absent_left q (x ∷ s) t h = (h.0, absent_left q s t h.1)

pub absent_right : (q : Place) (s t : List Place) → IsAbsent q (s ++ t) → IsAbsent q t
absent_right q [] t h = h
absent_right q (x ∷ s) t h = absent_right q s t h.1

pub absent_both : (q : Place) (s t : List Place) → IsAbsent q s → IsAbsent q t → IsAbsent q (s ++ t)
absent_both q [] t h k = k
absent_both q (x ∷ s) t h k = (h.0, absent_both q s t h.1 k)

-- If the place q is absent from a sequence and is not p, q is still absent after p is inserted (`absent_with`). If q is absent
-- from a sequence, q is still absent after p is removed (`absent_without`).
pub absent_with : (s t : List Place) (p q : Place) → q ≢ p → IsAbsent q (s ++ t) → IsAbsent q (s ++ p ∷ t)
absent_with [] t p q n h = (n, h)
absent_with (x ∷ s) t p q n h = (h.0, absent_with s t p q n h.1)

pub absent_without : (s t : List Place) (p q : Place) → IsAbsent q (s ++ p ∷ t) → IsAbsent q (s ++ t)
absent_without [] t p q h = h.1
absent_without (x ∷ s) t p q h = (h.0, absent_without s t p q h.1)

pub distinct_disjoint : (s t : List Place) → IsDistinct (s ++ t) → IsDisjoint s t
distinct_disjoint [] t d = tt
distinct_disjoint (x ∷ s) t d = (absent_right x s t d.0, distinct_disjoint s t d.1)

pub distinct_left : (s t : List Place) → IsDistinct (s ++ t) → IsDistinct s
distinct_left [] t d = tt
distinct_left (x ∷ s) t d = (absent_left x s t d.0, distinct_left s t d.1)

pub distinct_right : (s t : List Place) → IsDistinct (s ++ t) → IsDistinct t
distinct_right [] t d = d
distinct_right (x ∷ s) t d = distinct_right s t d.1

pub distinct_insert : (s t : List Place) (p : Place) → IsDistinct (s ++ t) → IsAbsent p (s ++ t) → IsDistinct (s ++ p ∷ t)
distinct_insert [] t p d h = (h, d)
distinct_insert (x ∷ s) t p d h =
    (absent_both x s (p ∷ t) (absent_left x s t d.0) ((λ e. h.0 (sym e)), absent_right x s t d.0), distinct_insert s t p d.1 h.1)

pub distinct_remove : (s t : List Place) (p : Place) → IsDistinct (s ++ p ∷ t) → IsDistinct (s ++ t)
distinct_remove [] t p d = d.1
distinct_remove (x ∷ s) t p d =
    (absent_both x s t (absent_left x s (p ∷ t) d.0) (absent_right x s (p ∷ t) d.0).1, distinct_remove s t p d.1)

-- If p is replaced by a place r that was no member, the members are still distinct.
pub distinct_replace : (s t : List Place) (p r : Place) → IsDistinct (s ++ p ∷ t) → IsAbsent r (s ++ p ∷ t) → IsDistinct (s ++ r ∷ t)
distinct_replace s t p r d out = distinct_insert s t r (distinct_remove s t p d) (absent_without s t p r out)

-- The member p of a list with distinct members is at no other position of the list.
pub distinct_middle : (s t : List Place) (p : Place) → IsDistinct (s ++ p ∷ t) → IsAbsent p (s ++ t)
distinct_middle [] t p d = d.0
distinct_middle (x ∷ s) t p d =
    ((λ e. (absent_right x s (p ∷ t) d.0).0 (sym e)), distinct_middle s t p d.1)

-- If s and t share no member, the last member of s is not in t.
pub last_outside : (b : Option Place) (s t : List Place) → IsOutside b t → IsDisjoint s t → IsOutside (last_or b s) t
last_outside b [] t h d = h
last_outside b (x ∷ s) t h d = last_outside (Some x) s t d.0 d.1

-- If s and t share no member, the first member of t is not in s.
pub first_outside : (s t : List Place) → IsDisjoint s t → IsOutside (first_or t None) s
first_outside s [] d = tt
first_outside [] (y ∷ t) d = tt
first_outside (x ∷ s) (y ∷ t) d = ((λ e. d.0.0 (sym e)), first_outside s (y ∷ t) d.1)

-- A place that is absent from s is not the last member of s.
pub last_not : (b : Option Place) (s : List Place) (q : Place) → b ≢ Some q → IsAbsent q s → last_or b s ≢ Some q
last_not b [] q n h e = n e
last_not b (x ∷ s) q n h e = last_not (Some x) s q (λ k. h.0 (cc)) h.1 e

-- A place that is absent from s is not the first member of s.
pub first_not : (s : List Place) (a : Option Place) (q : Place) → a ≢ Some q → IsAbsent q s → first_or s a ≢ Some q
first_not [] a q n h e = n e
first_not (x ∷ s) a q n h e = h.0 (cc)

pub none_not : {A : Type 0} (q : A) → None ≢ Some q
none_not q e = cc

-- A place that is no member is neither before nor after a gap, so it is no neighbor of a member.
pub gap_not : (front back : List Place) {q : Place} {before after : Option Place} → before ≡ last front → after ≡ first back → IsAbsent q (front ++ back)
    → (before ≢ Some q) × (after ≢ Some q)
gap_not front back {q} e k out = (
  (λ h. last_not None front q (none_not q) (absent_left q front back out) (sym e ∙ h)),
  (λ h. first_not back None q (none_not q) (absent_right q front back out) (sym k ∙ h)),
)

pub beside_not : (front back : List Place) (p : Place) {q : Place} {before after : Option Place} → before ≡ last front → after ≡ first back
    → IsAbsent q (front ++ p ∷ back) → (before ≢ Some q) × (after ≢ Some q)
beside_not front back p {q} e k out = gap_not front back e k (absent_without front back p q out)

end_of-last : (x : Place) (s : List Place) (fresh old : Option Place) → end_of (last_or (Some x) s) fresh old ≡ old
end_of-last x [] fresh old = refl
end_of-last x (y ∷ s) fresh old = end_of-last y s fresh old

-- In a sequence the part after `front` is replaced: it is `was` before the change, and `rest` afterwards. If `old` is the first
-- member of the old sequence, and `new` is computed from `old` by `end_of`, `new` is the first member of the new sequence.
pub new_head : (front was rest : List Place) {before fresh old new : Option Place} → before ≡ last front → fresh ≡ first rest → old ≡ first (front ++ was)
    → new ≡ end_of before fresh old → new ≡ first (front ++ rest)
new_head [] was rest {before} {fresh} {old} e k h is = is ∙ ap (λ b. end_of b fresh old) e ∙ k
new_head (x ∷ front) was rest {before} {fresh} {old} e k h is = is ∙ ap (λ b. end_of b fresh old) e ∙ end_of-last x front fresh old ∙ h

-- The last member of three joined parts is the last member of the last part that is not empty.
last_of_parts : (front mid back : List Place) → last (front ++ (mid ++ back)) ≡ last_or (last_or (last front) mid) back
last_of_parts front mid back = last_or-append None front (mid ++ back) ∙ last_or-append (last front) mid back

-- In a sequence the part between `front` and `back` is replaced: it is `was` before the change, and `mid` afterwards. If `old` is
-- the last member of the old sequence, and `new` is computed from `old` by `end_of`, `new` is the last member of the new
-- sequence.
pub new_tail : (front was mid back : List Place) {after fresh old new : Option Place} → after ≡ first back → fresh ≡ last_or (last front) mid
    → old ≡ last (front ++ (was ++ back)) → new ≡ end_of after fresh old → new ≡ last (front ++ (mid ++ back))
new_tail front was mid [] {after} {fresh} {old} e k h is =
    is ∙ ap (λ a. end_of a fresh old) e ∙ k ∙ sym (last_of_parts front mid [])
new_tail front was mid (x ∷ back) {after} {fresh} {old} e k h is =
    is ∙ ap (λ a. end_of a fresh old) e ∙ h ∙ last_of_parts front was (x ∷ back) ∙ sym (last_of_parts front mid (x ∷ back))

pub some_same : {X : Type 0} {x y : X} → Some x ≡ Some y → x ≡ y
some_same {X} {x} {y} e = cc

pub disjoint_cons : (p : Place) (t s : List Place) → IsAbsent p t → IsDisjoint t s → IsDisjoint t (p ∷ s)
disjoint_cons p [] s h d = tt
disjoint_cons p (x ∷ t) s h d = (((λ e. h.0 (sym e)), d.0), disjoint_cons p t s h.1 d.1)

pub last_some : (x : Place) (s : List Place) → last_or (Some x) s ≢ None
last_some x [] e = cc
last_some x (y ∷ s) e = last_some y s e

-- A sequence with the last member p consists of the other members, followed by p.
pub split_last : (s : List Place) {p : Place} → last s ≡ Some p → s ≡ but_last s ++ p ∷ []
split_last [] {p} e = absurd (none_not p e)
split_last (x ∷ []) e = ap (λ (z : Place). z ∷ []) (some_same e)
split_last (x ∷ y ∷ s) e = ap (λ (l : List Place). x ∷ l) (split_last (y ∷ s) e)

-- If the front part is empty, the first member of the whole sequence is the first member of the back part.
pub first_of_back : (front back : List Place) → None ≡ last_or None front → first_or (front ++ back) None ≡ first_or back None
first_of_back [] back e = refl
first_of_back (x ∷ s) back e = absurd (last_some x s (sym e))

-- If two sequences of distinct members share no member, all members are distinct after the sequence `mid` is inserted at a gap of
-- the other one.
pub distinct_splice : (front mid back : List Place) → IsDistinct (front ++ back) → IsDistinct mid → IsDisjoint mid (front ++ back) → IsDistinct (front ++ (mid ++ back))
distinct_splice front [] back d m j = d
distinct_splice front (x ∷ mid) back d m j =
    distinct_insert front (mid ++ back) x (distinct_splice front mid back d m.1 j.1)
    (absent_both x front (mid ++ back) (absent_left x front back j.0) (absent_both x mid back m.0 (absent_right x front back j.0)))

-- If s and t share no member, s shares no member with any sequence whose members are all members of t.
pub absent_swap : (s t : List Place) → IsDisjoint s t → (u : List Place) → ((q : Place) → IsAbsent q t → IsAbsent q u) → IsDisjoint s u
absent_swap [] t d u h = tt
absent_swap (x ∷ s) t d u h = (h x d.0, absent_swap s t d.1 u h)

absent_before : (y : Place) (s t : List Place) → IsDisjoint s (y ∷ t) → IsAbsent y s
absent_before y [] t d = tt
absent_before y (x ∷ s) t d = ((λ e. d.0.0 (sym e)), absent_before y s t d.1)

disjoint_rest : (y : Place) (s t : List Place) → IsDisjoint s (y ∷ t) → IsDisjoint s t
disjoint_rest y [] t d = tt
disjoint_rest y (x ∷ s) t d = (d.0.1, disjoint_rest y s t d.1)

-- If s and t share no member, t and s share no member.
pub disjoint_sym : (s t : List Place) → IsDisjoint s t → IsDisjoint t s
disjoint_sym s [] d = tt
disjoint_sym s (y ∷ t) d = (absent_before y s t d, disjoint_sym s t (disjoint_rest y s t d))

-- Every sequence shares no member with the empty sequence. `disjoint_left` and `disjoint_right` say that if s shares no member
-- with a joined sequence, s shares none with either part.
pub disjoint_nothing : (s : List Place) → IsDisjoint s []
disjoint_nothing [] = tt
disjoint_nothing (x ∷ s) = (tt, disjoint_nothing s)

pub disjoint_left : (s t r : List Place) → IsDisjoint s (t ++ r) → IsDisjoint s t
disjoint_left s t r d = absent_swap s (t ++ r) d t (λ q h. absent_left q t r h)

pub disjoint_right : (s t r : List Place) → IsDisjoint s (t ++ r) → IsDisjoint s r
disjoint_right s t r d = absent_swap s (t ++ r) d r (λ q h. absent_right q t r h)

-- If s and t each share no member with u, the sequence of s followed by t shares no member with u.
pub disjoint_both : (s t u : List Place) → IsDisjoint s u → IsDisjoint t u → IsDisjoint (s ++ t) u
disjoint_both [] t u h k = k
disjoint_both (x ∷ s) t u h k = (h.0, disjoint_both s t u h.1 k)

-- Let a sequence share no member with u. The sequence still shares no member with u after p is removed from it, or after p is
-- inserted into it, if p is absent from u.
pub disjoint_insert : (s t u : List Place) (p : Place) → IsDisjoint (s ++ t) u → IsAbsent p u → IsDisjoint (s ++ p ∷ t) u
disjoint_insert [] t u p d out = (out, d)
disjoint_insert (x ∷ s) t u p d out = (d.0, disjoint_insert s t u p d.1 out)

pub disjoint_remove : (s t u : List Place) (p : Place) → IsDisjoint (s ++ p ∷ t) u → IsDisjoint (s ++ t) u
disjoint_remove [] t u p d = d.1
disjoint_remove (x ∷ s) t u p d = (d.0, disjoint_remove s t u p d.1)

-- If a sequence is reversed, its ends are exchanged, and it has the same members.
pub reverse_cons : (x : Place) (s : List Place) → reverse (x ∷ s) ≡ reverse s ++ x ∷ []
reverse_cons x s = reverse-append (x ∷ []) s

pub last_of_reverse : (b : Option Place) (s : List Place) → last_or b (reverse s) ≡ first_or s b
last_of_reverse b [] = refl
last_of_reverse b (x ∷ s) = ap (last_or b) (reverse_cons x s) ∙ last_or-append b (reverse s) (x ∷ [])

pub first_of_reverse : (s : List Place) (a : Option Place) → first_or (reverse s) a ≡ last_or a s
first_of_reverse [] a = refl
first_of_reverse (x ∷ s) a =
    ap (λ (l : List Place). first_or l a) (reverse_cons x s) ∙ first_or-append (reverse s) (x ∷ []) a ∙ first_of_reverse s (Some x)

pub absent_reverse : (q : Place) (s : List Place) → IsAbsent q s → IsAbsent q (reverse s)
absent_reverse q [] h = tt
absent_reverse q (x ∷ s) h = rw (reverse_cons x s) (absent_both q (reverse s) (x ∷ []) (absent_reverse q s h.1) (h.0, tt))

pub distinct_reverse : (s : List Place) → IsDistinct s → IsDistinct (reverse s)
distinct_reverse [] d = tt
distinct_reverse (x ∷ s) d =
    rw (reverse_cons x s) (distinct_insert (reverse s) [] x (rw append-nil (distinct_reverse s d.1)) (rw append-nil (absent_reverse x s d.0)))

-- A cursor that has a gap before it also has a gap of the same sequence after it.
pub gap_after : (gap : Cut) (cursor : Option Place) → IsBefore gap cursor → (next : Cut) × (join next ≡ join gap) × IsAfter next cursor
gap_after gap cursor before = after gap.front gap.back cursor before where
  after : (front back : List Place) (cursor : Option Place) → cursor ≡ first back → (next : Cut) × (join next ≡ front ++ back) × IsAfter next cursor
  after front [] cursor before = (at_front front, sym (append-nil front), before)
  after front (x ∷ back) cursor before =
      (record { front = front ++ x ∷ []; back = back }, append_assoc front (x ∷ []) back, before ∙ sym (last_or-append None front (x ∷ [])))

-- A cursor that has a gap after it also has a gap of the same sequence before it.
pub gap_before : (gap : Cut) (cursor : Option Place) → IsAfter gap cursor → (prev : Cut) × (join prev ≡ join gap) × IsBefore prev cursor
gap_before gap cursor after = before gap.front gap.back cursor after where
  before : (front back : List Place) (cursor : Option Place) → cursor ≡ last front → (prev : Cut) × (join prev ≡ front ++ back) × IsBefore prev cursor
  before [] back cursor after = (at_back back, append-nil back, after)
  before (x ∷ front) back None after = absurd (last_some x front (sym after))
  before (x ∷ front) back (Some p) after = (
    record { front = but_last (x ∷ front); back = p ∷ back },
    sym (ap (λ (l : List Place). l ++ back) (split_last (x ∷ front) (sym after)) ∙ append_assoc (but_last (x ∷ front)) (p ∷ []) back),
    refl,
  )

-- If no member is after the gap, the last member of the whole sequence is the last member before the gap.
pub last_of_front : (front back : List Place) → None ≡ first back → last (front ++ back) ≡ last front
last_of_front front [] e = ap last (append-nil front)
last_of_front front (x ∷ s) e = absurd (none_not x e)

-- A sequence with the first member p begins with p, followed by the other members.
pub first_is : (s : List Place) {p : Place} → Some p ≡ first s → s ≡ p ∷ drop 1 s
first_is [] {p} e = absurd (none_not p (sym e))
first_is (x ∷ s) e = ap (λ (q : Place). q ∷ s) (sym (some_same e))

-- A sequence without a last member is empty, so `but_last` does not change the sequence.
pub but_last_of_none : (s : List Place) → last s ≡ None → but_last s ≡ s
but_last_of_none [] e = refl
but_last_of_none (x ∷ s) e = absurd (last_some x s e)

-- If p is inserted at the back of a sequence, p is the last member, and the other members are those that the sequence had before.
pub last_of_push : (s : List Place) (p : Place) → last (s ++ p ∷ []) ≡ Some p
last_of_push s p = last_or-append None s (p ∷ [])

pub but_last_of_push : (s : List Place) (p : Place) → but_last (s ++ p ∷ []) ≡ s
but_last_of_push [] p = refl
but_last_of_push (x ∷ []) p = refl
but_last_of_push (x ∷ y ∷ s) p = ap (λ (l : List Place). x ∷ l) (but_last_of_push (y ∷ s) p)

-- A sequence that is not empty becomes shorter if its first member (`fewer`) or its last member (`fewer_back`) is removed.
pub fewer : (s : List Place) (p : Place) → Some p ≡ first s → length (drop 1 s) < length s
fewer [] p e = absurd (none_not p (sym e))
fewer (x ∷ s) p e = omega arith

pub fewer_back : (s : List Place) (p : Place) → Some p ≡ last s → length (but_last s) < length s
fewer_back [] p e = absurd (none_not p (sym e))
fewer_back (x ∷ []) p e = omega arith
fewer_back (x ∷ y ∷ s) p e = omega (arith, fewer_back (y ∷ s) p e)

-- A place that is absent from t followed by s is absent from s followed by t.
pub absent_turned : (q : Place) (s t : List Place) → IsAbsent q (t ++ s) → IsAbsent q (s ++ t)
absent_turned q s t h = absent_both q s t (absent_right q t s h) (absent_left q t s h)

-- In a sequence of distinct members only one gap is after each member.
last_inside : (b : Option Place) (y : Place) (s t : List Place) → IsOutside b (y ∷ s ++ t) → b ≢ last_or (Some y) s
last_inside None y s t out e = last_some y s (sym e)
last_inside (Some q) y s t out e = last_not (Some y) s q (λ h. out.0 (sym (some_same h))) (absent_left q s t out.1) (sym e)

same_front : (b : Option Place) (s t u v : List Place) → IsOutside b (s ++ t) → IsDistinct (s ++ t) → s ++ t ≡ u ++ v → last_or b s ≡ last_or b u
    → (s ≡ u) × (t ≡ v)
same_front b [] t [] v out d e k = (refl, e)
same_front b [] t (y ∷ u) v out d e k = absurd (last_inside b y u v (subst (IsOutside b) e out) k)
same_front b (x ∷ s) t [] v out d e k = absurd (last_inside b x s t out (sym k))
same_front b (x ∷ s) t (y ∷ u) v out d e k =
    let h : x ≡ y = cc in
    let r : s ++ t ≡ u ++ v = cc in
    let rest = same_front (Some x) s t u v d.0 d.1 r (rw (← h) at k) in
    (rw h (ap (λ (l : List Place). y ∷ l) rest.0), rest.1)

pub same_gap : (gap other : Cut) → IsDistinct (join gap) → join gap ≡ join other → last gap.front ≡ last other.front
    → (gap.front ≡ other.front) × (gap.back ≡ other.back)
same_gap gap other d e k = same_front None gap.front gap.back other.front other.back tt d e k

-- If q is a member of the sequence s, s consists of the members before q, q itself, and the members after q.
pub member_split : (q : Place) (s : List Place) → IsMember q s → (front : List Place) × (back : List Place) × (s ≡ front ++ q ∷ back)
member_split q [] member = absurd (member tt)
member_split q (x ∷ s) member = elim (same_or_not q x) [
  | inl e ↦ ([], s, ap (λ (y : Place). y ∷ s) (sym e))
  | inr n ↦ let r = member_split q s (λ out. member (n, out)) in (x ∷ r.0, r.1, ap (λ (t : List Place). x ∷ t) r.2)
]

pub split_member : (front : List Place) (q : Place) (back : List Place) → IsMember q (front ++ q ∷ back)
split_member front q back out = (absent_right q front (q ∷ back) out).0 refl

-- A sequence with no first member, or with no last member, is empty.
pub nothing_first : (s : List Place) → None ≡ first s → s ≡ []
nothing_first [] h = refl
nothing_first (x ∷ s) h = absurd (none_not x h)

pub nothing_last : (s : List Place) → None ≡ last s → s ≡ []
nothing_last [] h = refl
nothing_last (x ∷ s) h = absurd (last_some x s (sym h))
