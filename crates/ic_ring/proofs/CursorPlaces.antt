-- Lemmas about the place of a cursor in its ring: the gaps right before and after the cursor, and the ring read from this place.
use Rattle.std.proofs.Common.{◌≡◌, ◌≢◌, Some, None, Result, Ok, Err, OnOk, OnErr, List, [], ◌∷◌, ◌++◌, drop, true, refl, sym, ap, ◌∙◌, subst, append_assoc, append-nil, inl, inr, eqb, eq-eqb}
use Rattle.ic_link_ops.specs.Prelude.{Place, Cut, join, IsAbsent, IsMember, IsDisjoint, first_or, last_or, first, last, but_last, Table, IsCovered, ChangesOnlyIn, Neighbors}
use Rattle.ic_link_ops.proofs.Prelude.{same_or_not, first_is, first_or-append, last_or-append, split_last, some_same, absent_left, absent_right, absent_both, member_split}
use Rattle.ic_ring.specs.Rings.{IsCircle, Represents, InRing, IsRingOf, OthersStay}
use Rattle.ic_ring.specs.RingCursors.{IsAfter, IsBefore, IsValidCursor}
use Rattle.ic_ring.proofs.Circles.{rotated, seen_from, seen_at, circles_apart}
use Rattle.ic_ring.proofs.JoinedRings.{last_member}
use Rattle.ic_ring.proofs.OtherRings.{others_from}
use Rattle.ic_ring.proofs.RingWalks.{one_ring_is_represented}

-- if a gap is right before a cursor, there is a gap right after the cursor in the same sequence. `gap_ahead` finds the gap before a cursor from the
-- gap after it
pub gap_after : (head : Place) (front back : List Place) {at : Place} → Some at ≡ first_or back (Some head)
    → (next : Cut) × (join next ≡ front ++ back) × IsAfter head next at
gap_after head front [] e = (record { front = []; back = front }, sym (append-nil front), e)
gap_after head front (x ∷ b) e =
    (record { front = front ++ x ∷ []; back = b }, append_assoc front (x ∷ []) b, e ∙ sym (last_or-append (Some head) front (x ∷ [])))

pub gap_ahead : (head : Place) (front back : List Place) {at : Place} → Some at ≡ last_or (Some head) front
    → (prev : Cut) × (join prev ≡ front ++ back) × IsBefore head prev at
gap_ahead head [] back e = (record { front = back; back = [] }, append-nil back, e)
gap_ahead head (x ∷ s) back {at} e = (
  record { front = but_last (x ∷ s); back = at ∷ back },
  sym (append_assoc (but_last (x ∷ s)) (at ∷ []) back) ∙ ap (λ (l : List Place). l ++ back) (sym (split_last (x ∷ s) (sym e))),
  refl,
)

-- if a gap is right after the cursor, then the head followed by the members before the gap ends with the cursor's place
pub ends_at : (head : Place) (front : List Place) {at : Place} → Some at ≡ last_or (Some head) front → head ∷ front ≡ but_last (head ∷ front) ++ at ∷ []
ends_at head front e = split_last (head ∷ front) (sym e)

-- if a gap is right before the cursor, then the members after the gap, followed by the head, begin with the cursor's place
pub begins_at : (head : Place) (front back : List Place) {at : Place} → Some at ≡ first_or back (Some head)
    → back ++ head ∷ front ≡ at ∷ drop 1 (back ++ head ∷ front)
begins_at head front back e = first_is (back ++ head ∷ front) (e ∙ sym (first_or-append back (head ∷ front) None))

-- if the cursor is right after a gap and not on the head, then its place is the first member after the gap
pub on_member : (head : Place) (back : List Place) {at : Place} → at ≢ head → Some at ≡ first_or back (Some head) → back ≡ at ∷ drop 1 back
on_member head [] other e = absurd (other (some_same e))
on_member head (x ∷ b) other e = ap (λ (y : Place). y ∷ b) (sym (some_same e))

-- if s and r share no place, then a member of s is not in r
absent_of : (s r : List Place) (q : Place) → IsDisjoint s r → IsMember q s → IsAbsent q r
absent_of [] r q d member = absurd (member tt)
absent_of (x ∷ s) r q d member = elim (same_or_not q x) [
  | inl e ↦ subst (λ z. IsAbsent z r) (sym e) d.0
  | inr other ↦ absent_of s r q d.1 (λ out. member (other, out))
]

-- two places that are the same have equal words by the test
pub same_tested : (p q : Place) → p ≡ q → eqb p.word q.word ≡ true
same_tested p q e = eq-eqb _ _ (ap (λ (r : Place). r.word) e)

-- if P implies Q, and P holds if the result r is `Ok`, then Q holds if r is `Ok`. `either_way` proves a goal from the case `Ok` and the case `Err`
pub on_ok : {A X P Q : Type 0} (r : Result A X) → (P → Q) → OnOk r P → OnOk r Q
on_ok (Ok a) follows holds = follows holds
on_ok (Err e) follows holds = tt

pub either_way : {A X P Q Goal : Type 0} (r : Result A X) → OnOk r P → OnErr r Q → (P → Goal) → (Q → Goal) → Goal
either_way (Ok a) holds refused accepts refuses = accepts holds
either_way (Err e) holds refused accepts refuses = refuses refused

module _ {E : Type 0} {n : E → Neighbors} where
  -- THE RING READ FROM THE CURSOR, if a gap is right after the cursor. `turned_back` reads the ring from the head again
  pub seen_after : {t : Place → E} {head at : Place} (front back : List Place) → Some at ≡ last_or (Some head) front → IsCircle n t (head ∷ (front ++ back))
      → IsCircle n t (at ∷ (back ++ but_last (head ∷ front)))
  seen_after {t} {head} {at} front back e c =
      let w = but_last (head ∷ front) in
      let turned : IsCircle n t (back ++ (w ++ at ∷ [])) = subst (λ l. IsCircle n t (back ++ l)) (ends_at head front e) (rotated (head ∷ front) back c) in
      rotated (back ++ w) (at ∷ []) (subst (IsCircle n t) (sym (append_assoc back w (at ∷ []))) turned)

  pub turned_back : {t : Place → E} {head at : Place} (front back : List Place) → Some at ≡ last_or (Some head) front → IsCircle n t (at ∷ (back ++ but_last (head ∷ front)))
      → IsCircle n t (head ∷ (front ++ back))
  turned_back {t} {head} {at} front back e c =
      let w = but_last (head ∷ front) in
      let turned : IsCircle n t (w ++ at ∷ back) = rotated (at ∷ back) w c in
      subst (λ l. IsCircle n t (l ++ back)) (sym (ends_at head front e)) (subst (IsCircle n t) (sym (append_assoc w (at ∷ []) back)) turned)

  -- the ring read from the cursor, if a gap is right before the cursor
  pub seen_ahead : {t : Place → E} {head at : Place} (front back : List Place) → Some at ≡ first_or back (Some head) → IsCircle n t (head ∷ (front ++ back))
      → IsCircle n t (at ∷ drop 1 (back ++ head ∷ front))
  seen_ahead {t} {head} front back e c = subst (IsCircle n t) (begins_at head front back e) (rotated (head ∷ front) back c)

  -- the cursor is valid, if there is a gap right before it in the members of the ring
  pub stands_ahead : (t : Table E) (head : Place) (front back : List Place) {at : Place} → IsCircle n t.entry (head ∷ (front ++ back)) → Some at ≡ first_or back (Some head)
      → IsValidCursor n t head at
  stands_ahead t head front back c e =
      let k = gap_after head front back e in (k.0, subst (λ s. IsCircle n t.entry (head ∷ s)) (sym k.1) c, k.2)

  module _ (t : Table E) {head at : Place} (stands : IsValidCursor n t head at) where
    -- the place of a valid cursor is in a ring of the table
    pub in_ring : InRing n t at
    in_ring = (stands.0.back ++ but_last (head ∷ stands.0.front), seen_after stands.0.front stands.0.back stands.2 stands.1)

    -- if each ring without the cursor's place stays as it was, then each ring without the head stays as it was. Only one ring contains either place, and it
    -- contains both
    pub others_without : {new : Table E} → OthersStay n t new (at ∷ []) → OthersStay n t new (head ∷ [])
    others_without k =
        let gap = stands.0 in
        others_from
        (λ r circle out. absent_of (head ∷ join gap) r at (circles_apart r head (join gap) circle stands.1 out) (last_member head gap.front gap.back stands.2)) k

    module _ (covered : (q : Place) → (n (t.entry q)).linked ≡ true → IsCovered t q) where
      -- whichever sequence is represented for the ring, it has a gap right after the cursor
      pub gap_of : (s : List Place) → Represents n t head s → (gap : Cut) × (s ≡ join gap) × IsAfter head gap at
      gap_of s shown = (stands.0, one_ring_is_represented t covered head s (join stands.0) shown stands.1, stands.2)

      -- whichever sequence is represented for the ring, the cursor's place is in the circle of the head and this sequence
      pub ring_at : (s : List Place) → Represents n t head s → IsRingOf n t at (head ∷ s)
      ring_at s shown =
          let gap = stands.0 in (
            shown,
            λ out. last_member head gap.front gap.back stands.2 (subst (λ s. IsAbsent at (head ∷ s)) (one_ring_is_represented t covered head s (join gap) shown stands.1) out),
          )

  -- the next place of the cursor's place is the first member after the gap right after the cursor, or the head if no member is after the gap. `moved_back`
  -- finds the previous place by the gap right before the cursor
  pub moved_on : (t : Table E) {head at next : Place} → (n (t.entry at)).next ≡ Some next → (front back : List Place) → IsCircle n t.entry (head ∷ (front ++ back))
      → Some at ≡ last_or (Some head) front → Some next ≡ first_or back (Some head)
  moved_on t {head} {at} leads front back c e =
      let w = but_last (head ∷ front) in
      sym leads ∙ (seen_after front back e c).chain.0.next ∙ first_or-append back w (Some at)
      ∙ ap (first_or back) (sym (first_or-append w (at ∷ []) None) ∙ ap first (sym (ends_at head front e)))

  pub moved_back : (t : Table E) {head at prev : Place} → ((n (t.entry at)).prev ≡ Some prev) → (front back : List Place) → IsCircle n t.entry (head ∷ (front ++ back))
      → Some at ≡ first_or back (Some head) → Some prev ≡ last_or (Some head) front
  moved_back t {head} {at} leads front back c e =
      sym leads ∙ (seen_ahead front back e c).chain.0.prev ∙ ap last (sym (begins_at head front back e)) ∙ last_or-append None back (head ∷ front)

  -- a valid cursor is valid after a move to the next place of its place. `stands_back` says the same of a move to the previous place
  pub stands_on : (t : Table E) {head at next : Place} → IsValidCursor n t head at → (n (t.entry at)).next ≡ Some next → IsValidCursor n t head next
  stands_on t {head} k leads = stands_ahead t head k.0.front k.0.back k.1 (moved_on t leads k.0.front k.0.back k.1 k.2)

  pub stands_back : (t : Table E) {head at prev : Place} → IsValidCursor n t head at → (n (t.entry at)).prev ≡ Some prev → IsValidCursor n t head prev
  stands_back t {head} k leads =
      let gap = gap_ahead head k.0.front k.0.back k.2 in
      let shown = subst (Represents n t head) (sym gap.1) k.1 in
      (gap.0, shown, moved_back t leads gap.0.front gap.0.back shown gap.2)

  -- if the ring read from the cursor ends with the place p, then p is the member right before the cursor
  pub put_ahead : {t : Place → E} {head at : Place} (p : Place) (front back : List Place) → Some at ≡ first_or back (Some head)
      → IsCircle n t (at ∷ (drop 1 (back ++ head ∷ front) ++ p ∷ [])) → IsCircle n t (head ∷ (front ++ p ∷ back))
  put_ahead {t} {head} {at} p front back e c =
      let u = at ∷ drop 1 (back ++ head ∷ front) in
      let turned : IsCircle n t (p ∷ u) = rotated u (p ∷ []) c in
      rotated (p ∷ back) (head ∷ front) (subst (λ u. IsCircle n t (p ∷ u)) (sym (begins_at head front back e)) turned)

  -- the cursor stays valid after p was inserted right before it, and is still before the same members
  pub stands_still : (t : Table E) (head : Place) (front : List Place) (p : Place) (back : List Place) {at : Place} → IsCircle n t.entry (head ∷ (front ++ p ∷ back))
      → Some at ≡ first_or back (Some head) → IsValidCursor n t head at
  stands_still t head front p back c e =
      stands_ahead t head (front ++ p ∷ []) back (subst (λ s. IsCircle n t.entry (head ∷ s)) (sym (append_assoc front (p ∷ []) back)) c) e

  -- the member that the cursor is on is a member of the ring, after `front` and before the members after it
  pub member_represented : {t : Place → E} {head at : Place} (front back : List Place) → at ≢ head → Some at ≡ first_or back (Some head) → IsCircle n t (head ∷ (front ++ back))
      → IsCircle n t (head ∷ (front ++ at ∷ drop 1 back))
  member_represented {t} {head} front back other e c = subst (λ b. IsCircle n t (head ∷ (front ++ b))) (on_member head back other e) c

  -- if the member that the cursor is on leaves its circle, the ring has the other members. `gone_on` says that the member's next place is then right after
  -- the gap
  pub taken_out : {t0 t1 : Place → E} {head at : Place} (front back : List Place) → at ≢ head → Some at ≡ first_or back (Some head) → IsCircle n t0 (head ∷ (front ++ back))
      → ((r : List Place) → IsCircle n t0 (at ∷ r) → IsCircle n t1 r) → IsCircle n t1 (head ∷ (front ++ drop 1 back))
  taken_out {t0} {t1} {head} {at} front back other e c taken =
      let rest = drop 1 back in
      let here : IsCircle n t0 (head ∷ (front ++ at ∷ rest)) = member_represented front back other e c in
      rotated rest (head ∷ front) (taken (rest ++ head ∷ front) (seen_from front at rest here))

  pub gone_on : (t : Table E) {head at next : Place} (front back : List Place) → at ≢ head → Some at ≡ first_or back (Some head) → IsCircle n t.entry (head ∷ (front ++ back))
      → (n (t.entry at)).next ≡ Some next → Some next ≡ first_or (drop 1 back) (Some head)
  gone_on t {head} {at} front back other e c leads =
      let rest = drop 1 back in
      let here : IsCircle n t.entry (head ∷ (front ++ at ∷ rest)) = member_represented front back other e c in
      sym leads ∙ (seen_from front at rest here).chain.0.next ∙ first_or-append rest (head ∷ front) (Some at)

  -- if the cursor is on the head, no member is after the gap right before it, so a removal of the member after this gap removes nothing
  pub null_after : {t : Place → E} (head : Place) (front back : List Place) {at : Place} → IsCircle n t (head ∷ (front ++ back)) → at ≡ head → Some at ≡ first_or back (Some head)
      → Some at ≡ first_or (drop 1 back) (Some head)
  null_after head front [] c same e = e
  null_after head front (x ∷ b) c same e = absurd ((absent_right head front (x ∷ b) c.distinct.0).0 (sym same ∙ some_same e))

  -- if the members `mid` come first in the ring read from the cursor, they are right after the cursor in the ring read from the head
  pub spliced_back : {t : Place → E} {head at : Place} (front back mid : List Place) → Some at ≡ last_or (Some head) front
      → IsCircle n t (at ∷ (mid ++ (back ++ but_last (head ∷ front)))) → IsCircle n t (head ∷ (front ++ (mid ++ back)))
  spliced_back {t} {head} {at} front back mid e c =
      turned_back front (mid ++ back) e (subst (λ s. IsCircle n t (at ∷ s)) (sym (append_assoc mid back (but_last (head ∷ front)))) c)

  module _ (t : Table E) {head at : Place} (stands : IsValidCursor n t head at) where
    -- a ring that does not contain the head does not contain the cursor's place
    pub given_apart : {given : Place} (u : List Place) → Represents n t given u → IsAbsent head (given ∷ u) → IsAbsent at (given ∷ u)
    given_apart {given} u shown out =
        let gap = stands.0 in
        absent_of (head ∷ join gap) (given ∷ u) at (circles_apart (given ∷ u) head (join gap) shown stands.1 out) (last_member head gap.front gap.back stands.2)

    pub others_without_both : {new : Table E} {given : Place} → OthersStay n t new (at ∷ given ∷ []) → OthersStay n t new (head ∷ given ∷ [])
    others_without_both k =
        let gap = stands.0 in record {
          rings = λ r circle out.
              k.rings r circle (absent_of (head ∷ join gap) r at (circles_apart r head (join gap) circle stands.1 out.0) (last_member head gap.front gap.back stands.2), out.1);
          lists = k.lists;
        }

  -- if an edit changes only entries of the ring read from `at` and of the places v, it changes only entries of the places r and v. r is the same ring, read
  -- from any of its places
  pub frame_both : {t0 t1 : Table E} {at : Place} {r v : List Place} → IsRingOf n t0 at r → ((s : List Place) → Represents n t0 at s → ChangesOnlyIn t0 t1 ((at ∷ s) ++ v))
      → ChangesOnlyIn t0 t1 (r ++ v)
  frame_both {at = at} {r} {v} ring frame =
      let seen = seen_at ring.0 ring.1 in
      let f = frame seen.0 seen.1 in record {
        extent = f.extent;
        others = λ q out. f.others q (absent_both q (at ∷ seen.0) v (seen.2 q (absent_left q r v out)) (absent_right q r v out));
      }

  -- the cursor stays valid after members were spliced in right before it, and is still before the same members
  pub stands_spliced : (t : Table E) (head : Place) (front mid back : List Place) {at : Place} → IsCircle n t.entry (head ∷ (front ++ (mid ++ back)))
      → Some at ≡ first_or back (Some head) → IsValidCursor n t head at
  stands_spliced t head front mid back c e =
      stands_ahead t head (front ++ mid) back (subst (λ s. IsCircle n t.entry (head ∷ s)) (sym (append_assoc front mid back)) c) e

  -- a cursor on the place before a valid cursor is valid for the same ring
  pub prev_stands_too : (t : Table E) {head at prev : Place} → IsValidCursor n t head at → (n (t.entry at)).prev ≡ Some prev → IsValidCursor n t head prev
  prev_stands_too t {head} k leads =
      let gap = gap_ahead head k.0.front k.0.back k.2 in
      let shown = subst (λ s. IsCircle n t.entry (head ∷ s)) (sym gap.1) k.1 in
      (gap.0, shown, moved_back t leads gap.0.front gap.0.back shown gap.2)

  -- a cursor on each place of a ring is valid
  pub stands_at : (t : Table E) {head at : Place} (s : List Place) → IsCircle n t.entry (head ∷ s) → IsMember at (head ∷ s) → IsValidCursor n t head at
  stands_at t {head} {at} s c member = elim (same_or_not at head) [
    | inl e ↦ (record { front = []; back = s }, c, ap Some e)
    | inr other ↦
        let m = member_split at s (λ out. member (other, out)) in
        stands_ahead t head m.0 (at ∷ m.1) (subst (λ s. IsCircle n t.entry (head ∷ s)) m.2 c) refl
  ]
