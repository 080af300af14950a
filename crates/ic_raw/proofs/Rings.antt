-- These lemmas say what the calls of rings test, and that the words of each circle pass these tests.
use Rattle.std.proofs.Common.{◌≡◌, ◌≢◌, append_assoc, subst, Option, Some, None, IsSome, List, [], ◌∷◌, ◌++◌, refl, sym, ap, ◌∙◌, inl, inr, true, false, append-nil}
use Rattle.ic_link_ops.specs.Prelude.{Place, IsAbsent, IsDisjoint, first, last, Table, ChangesOnly, LinkStep, IsBetween}
use Rattle.ic_link_ops.proofs.Prelude.{same_or_not, last_between, absent_both, absent_left, absent_right, absent_turned, disjoint_both, last_not, last_or-append, none_not, some_same}
use Rattle.ic_ring.proofs.Circles.{circle_after_free, next_not, next_some, next_stands, prev_not, prev_some, prev_stands, rotated}
use Rattle.ic_raw.specs.declared.table.RawTable.{RawTable}
use Rattle.ic_raw.specs.declared.gap.GapSide.{GapSide}
use Rattle.ic_raw.specs.declared.gap.GapSide.TheVariants.{After, Before}
use Rattle.ic_raw.specs.LinkWords.{LinkWords, lent_table, neighbors, table_of}
use Rattle.ic_raw.specs.Ring.{IsCircle, AreLinked, Makes, MakesTwo, beside, own_on, neighbor_on, put_in, all_put_in}
use Rattle.ic_raw.specs.RingCalls.{IsAmid}
use Rattle.ic_raw.specs.Prelude.{raw_entries, Touches}
use Rattle.ic_raw.proofs.Gaps.{never}
use Rattle.ic_raw.proofs.LinkViews.{touched_back, frame_back}

-- if an option is not empty, it has a place
place_there : (o : Option Place) → IsSome o → (q : Place) × (o ≡ Some q)
place_there None h = cc
place_there (Some q) h = (q, refl)

-- an option cannot be none and have a value at once
pub some_there : {A : Type 0} {o : Option A} → o ≡ None → IsSome o → ⊥
some_there {A} none there = let no : IsSome {T = A} None = rw none at there in cc

-- a place that is not in a sequence is not its last place
pub not_last : (q one : Place) (r : List Place) → last r ≡ Some one → IsAbsent q r → q ≢ one
not_last q one r is out e = last_not None r q (none_not q) out (is ∙ ap Some (sym e))

-- `others_of` is the circle of `at` and r in which `at` is the last place for `After`, and the first place for `Before`
abbrev pub others_of : GapSide → (at : Place) → List Place → List Place
others_of After at r = r ++ at ∷ []
others_of Before at r = at ∷ r

-- a place that differs from both places of a pair of neighbors is not the place of the pair that `neighbor_on` chooses
pub neighbor_not : (side : GapSide) {q : Place} (x : Place × Place) → (q ≢ x.0) × (q ≢ x.1) → neighbor_on side x ≢ q
neighbor_not After x apart e = apart.1 (sym e)
neighbor_not Before x apart e = apart.0 (sym e)

-- `before_gap` is the circle of `at` and r, written so that its last place is before the gap on this side of `at`
abbrev pub before_gap : GapSide → (at : Place) → List Place → List Place
before_gap After at r = r ++ at ∷ []
before_gap Before at r = at ∷ r

pub disjoint_gap : (side : GapSide) (at : Place) (r s : List Place) → IsDisjoint (at ∷ r) s → IsDisjoint (before_gap side at r) s
disjoint_gap After at r s d = disjoint_both r (at ∷ []) s d.1 (d.0, tt)
disjoint_gap Before at r s d = d

pub absent_gap : (side : GapSide) (at : Place) (r : List Place) (q : Place) → IsAbsent q (at ∷ r) → IsAbsent q (before_gap side at r)
absent_gap After at r q out = absent_both q r (at ∷ []) out.1 (out.0, tt)
absent_gap Before at r q out = out

pub absent_all : (side : GapSide) (at : Place) (r s : List Place) (q : Place) → IsAbsent q (at ∷ r) → IsAbsent q s → IsAbsent q (all_put_in side at r s)
absent_all After at r s q out off = (out.0, absent_both q s r off out.1)
absent_all Before at r s q out off = (out.0, absent_both q r s out.1 off)

-- `other` is the place after `own` when `own` has replaced `at`: the place `next`, which was after `at`, or `own` if `at` was alone. A place that is
-- neither `own` nor `next` is not `other`
pub apart_without : {next at own other q : Place} → (next ≡ at → other ≡ own) → (next ≢ at → other ≡ next) → q ≢ own → q ≢ next → q ≢ other
apart_without {next} {at} alone stays off away e = elim (same_or_not next at) [
  | inl same ↦ off (e ∙ alone same)
  | inr apart ↦ away (e ∙ stays apart)
]

module _ {W : Type 0} (words : LinkWords W) where
  module _ (t : Table W) {p : Place} (s : List Place) (c : IsCircle words t (p ∷ s)) where
    -- IN A CIRCLE, each place has a neighbor on each side, and the two places name each other
    pub circle_tells : (side : GapSide) → (x : Place × Place) × AreLinked words t x.0 x.1 × (own_on side x ≡ p)
    circle_tells After =
        let b = place_there _ (next_some {n = neighbors words} s c) in
        let k = next_stands {n = neighbors words} s c b.1 in ((p, b.0), record { linked = c.chain.0.linked; next = b.1; stands = k.0; prev = k.1 }, refl)
    circle_tells Before =
        let a = place_there _ (prev_some {n = neighbors words} s c) in
        let k = prev_stands {n = neighbors words} s c a.1 in ((a.0, p), record { linked = k.0; next = k.1; stands = c.chain.0.linked; prev = a.1 }, refl)

  -- the last place of a circle and its first place name each other
  pub last_tells : (t : Table W) {one : Place} (x : Place) (r : List Place) → IsCircle words t (x ∷ r) → last (x ∷ r) ≡ Some one → AreLinked words t one x
  last_tells t x r c is =
      let stands = last_between (IsBetween (neighbors words)) t.entry (last (x ∷ r)) (x ∷ r) (Some x) c.chain (sym is) in
      record { linked = stands.linked; next = stands.next; stands = c.chain.0.linked; prev = c.chain.0.prev ∙ is }

  -- if a circle is cut into two parts, the last place of each part and the first place of the opposite part name each other
  pub part_tells : (t : Table W) {one : Place} (x : Place) (r : List Place) (y : Place) (s : List Place) → IsCircle words t (x ∷ r ++ y ∷ s) → last (x ∷ r) ≡ Some one → AreLinked words t one y
  part_tells t x r y s c is = last_tells t y (s ++ x ∷ r) (rotated {n = neighbors words} (x ∷ r) (y ∷ s) c) (last_or-append None (y ∷ s) (x ∷ r) ∙ is)

  -- a place that is not in a circle is neither p nor a neighbor of p, if p is in the circle
  pub not_beside : (side : GapSide) (t : Table W) {p : Place} (s : List Place) → IsCircle words t (p ∷ s) → (x : Place × Place) → AreLinked words t x.0 x.1 → own_on side x ≡ p
      → (q : Place) → IsAbsent q (p ∷ s) → (q ≢ x.0) × (q ≢ x.1)
  not_beside After t s c x links_back own q out = (
    (λ e. out.0 (e ∙ own)),
    next_not {n = neighbors words} s c (ap (λ z. (neighbors words (t.entry z)).next) (sym own) ∙ links_back.next) out,
  )
  not_beside Before t s c x links_back own q out = (
    prev_not {n = neighbors words} s c (ap (λ z. (neighbors words (t.entry z)).prev) (sym own) ∙ links_back.prev) out,
    (λ e. out.0 (e ∙ own)),
  )

  -- A PLACE p IS INSERTED on this side of `at`. The premise `puts` says that p can be inserted into a circle before the second place of the pair x of
  -- neighbors
  pub put_beside : (side : GapSide) (t u : Table W) {p at : Place} (s : List Place) (x : Place × Place) → own_on side x ≡ at → (neighbors words (t.entry x.0)).next ≡ Some x.1
      → IsCircle words t (at ∷ s) → IsAbsent p (at ∷ s) → ((r : List Place) → IsCircle words t (x.1 ∷ r) → IsAbsent p (x.1 ∷ r) → IsCircle words u (p ∷ x.1 ∷ r)) → IsCircle words u (put_in side at p s)
  put_beside After t u {p} s x own next c out puts = circle_after_free {n = neighbors words} s c (ap (λ z. (neighbors words (t.entry z)).next) (sym own) ∙ next) out puts
  put_beside Before t u {p} s x own next c out puts = rw own at (puts s (rw own c) (rw own out))

  -- TWO NEIGHBORS STAY NEIGHBORS if the entries of both stay as they are
  pub told_same : {t u : Table W} {x y : Place} → u.entry x ≡ t.entry x → u.entry y ≡ t.entry y → AreLinked words t x y → AreLinked words u x y
  told_same one other k = record {
    linked = ap words.is_linked one ∙ k.linked;
    next = ap (λ e. (neighbors words e).next) one ∙ k.next;
    stands = ap words.is_linked other ∙ k.stands;
    prev = ap (λ e. (neighbors words e).prev) other ∙ k.prev;
  }

  -- two neighbors stay neighbors if only the entry of an unlinked place changes
  pub told_beside : {t u : Table W} {x y p : Place} → words.is_linked (t.entry p) ≡ false → ChangesOnly t u p → AreLinked words t x y → AreLinked words u x y
  told_beside {t} {u} {x} {y} {p} free only k =
      let apart : (q : Place) → words.is_linked (t.entry q) ≡ true → q ≢ p = λ q on e. never free (rw e at on) in
      told_same (only.others x (apart x k.linked)) (only.others y (apart y k.stands)) k

  -- each place has one next place and one previous place
  pub one_next : {t : Table W} {x y z : Place} → AreLinked words t x y → AreLinked words t x z → y ≡ z
  one_next a b = some_same (sym a.next ∙ b.next)

  pub one_before : {t : Table W} {x y z : Place} → AreLinked words t x z → AreLinked words t y z → x ≡ y
  one_before a b = some_same (sym a.prev ∙ b.prev)

  -- A SETTER of a neighbor on one side keeps the neighbor on the opposite side, at each place
  module _ {old new : Table W} {p : Place} {to : Option Place} (only : ChangesOnly old new p) where
    pub keeps_next : neighbors words (new.entry p) ≡ record (neighbors words (old.entry p)) { prev = to } → (q : Place) → (neighbors words (new.entry q)).next ≡ (neighbors words (old.entry q)).next
    keeps_next set q = elim (same_or_not q p) [
      | inl e ↦ rw e (ap (λ x. x.next) set)
      | inr other ↦ ap (λ e. (neighbors words e).next) (only.others q other)
    ]

    pub keeps_prev : neighbors words (new.entry p) ≡ record (neighbors words (old.entry p)) { next = to } → (q : Place) → (neighbors words (new.entry q)).prev ≡ (neighbors words (old.entry q)).prev
    keeps_prev set q = elim (same_or_not q p) [
      | inl e ↦ rw e (ap (λ x. x.prev) set)
      | inr other ↦ ap (λ e. (neighbors words e).prev) (only.others q other)
    ]

  -- `Makes` stays true if the circle `made` is read from another of its places, and if the places `touched` are replaced by the places `named`, which
  -- include all of `touched`
  pub makes_turned : {old new : Table W} {touched named made read : List Place} → ((q : Place) → IsAbsent q named → IsAbsent q touched)
      → (IsCircle words new made → IsCircle words new read) → Makes words old new touched made → Makes words old new named read
  makes_turned among turned m = record { circle = turned m.circle; frame = record { extent = m.frame.extent; others = λ q out. m.frame.others q (among q out) } }

  -- if a setter keeps the mark of a linked place, each linked place stays linked
  pub mark_kept : {old new : Table W} {p : Place} → ChangesOnly old new p → words.is_linked (new.entry p) ≡ words.is_linked (old.entry p) → (q : Place)
      → words.is_linked (old.entry q) ≡ true → words.is_linked (new.entry q) ≡ true
  mark_kept {p = p} only same q on = elim (same_or_not q p) [
    | inl e ↦ rw e (same ∙ rw e at on)
    | inr other ↦ ap words.is_linked (only.others q other) ∙ on
  ]

  -- WHAT HOLDS OF THE WORDS that the caller lent holds of a view of them, and the other way round
  pub circle_viewed : (t : RawTable W) {es : List W} {r : List Place} → raw_entries t ≡ es → IsCircle words (table_of words es) r → IsCircle words (lent_table words t) r
  circle_viewed t {r = r} e c = let same : IsCircle words (table_of words (raw_entries t)) r = rw e c in same

  pub told_back : (t : RawTable W) {es : List W} {x y : Place} → raw_entries t ≡ es → AreLinked words (lent_table words t) x y → AreLinked words (table_of words es) x y
  told_back t {x = x} {y = y} e k =
      let back : AreLinked words (table_of words (raw_entries t)) x y = record { linked = k.linked; next = k.next; stands = k.stands; prev = k.prev } in rw (← e) back

  -- a place has the neighbors in a view that it has in the words that the caller lent
  pub beside_back : (side : GapSide) (t : RawTable W) {es : List W} (p : Place) → raw_entries t ≡ es → beside words side (table_of words es) p ≡ beside words side (lent_table words t) p
  beside_back After t p e = ap (λ es. beside words After (table_of words es) p) (sym e)
  beside_back Before t p e = ap (λ es. beside words Before (table_of words es) p) (sym e)

  module _ (a b : RawTable W) {es fs : List W} (e : raw_entries a ≡ es) (f : fs ≡ raw_entries b) where
    pub makes_back : {touched made : List Place} → Makes words (lent_table words a) (lent_table words b) touched made → Makes words (table_of words es) (table_of words fs) touched made
    makes_back {touched} {made} m =
        let back : Makes words (table_of words (raw_entries a)) (table_of words (raw_entries b)) touched made = record { circle = m.circle; frame = frame_back words a b m.frame } in
        rw (← e, f) back

    pub makes_two_back : {touched made other : List Place} → MakesTwo words (lent_table words a) (lent_table words b) touched made other → MakesTwo words (table_of words es) (table_of words fs) touched made other
    makes_two_back {touched} {made} {other} m =
        let back : MakesTwo words (table_of words (raw_entries a)) (table_of words (raw_entries b)) touched made other =
        record { circle = m.circle; beside = m.beside; frame = frame_back words a b m.frame } in
        rw (← e, f) back

    pub changes_back : {p : Place} → ChangesOnly (lent_table words a) (lent_table words b) p → ChangesOnly (table_of words es) (table_of words fs) p
    changes_back {p} only =
        let back : ChangesOnly (table_of words (raw_entries a)) (table_of words (raw_entries b)) p =
        record { extent = ap (λ e. record { places = e.places; identity = [] }) only.extent; others = only.others } in
        rw (← e, f) back

    pub touched_words : {steps : List LinkStep} {places places' : List (Option Place)} → places' ≡ places → Touches words.is_linked (lent_table words a) (lent_table words b) steps places
        → Touches words.is_linked (table_of words es) (table_of words fs) steps places'
    touched_words same touched = touched_back words a b e f same touched

    pub closed_back : {r : List Place} → IsCircle words (lent_table words b) r → IsCircle words (table_of words fs) r
    closed_back {r} c = let back : IsCircle words (table_of words (raw_entries b)) r = c in rw f back

  -- THE FIRST TWO PLACES of a circle name each other
  pub first_tells : {t : Table W} {x y : Place} (r : List Place) → IsCircle words t (x ∷ y ∷ r) → AreLinked words t x y
  first_tells r c = record { linked = c.chain.0.linked; next = c.chain.0.next; stands = c.chain.1.0.linked; prev = c.chain.1.0.prev }

  -- AFTER A PLACE p IS INSERTED beside `at`, the two places name each other. The next lemmas say how the circle reads from p and from `at`, and that
  -- p differs from `at`
  pub put_tells : (side : GapSide) (t : Table W) (at p : Place) (r : List Place) → IsCircle words t (put_in side at p r)
      → (x : Place × Place) × AreLinked words t x.0 x.1 × (own_on side x ≡ at) × (neighbor_on side x ≡ p)
  put_tells After t at p r c = ((at, p), first_tells r c, refl, refl)
  put_tells Before t at p r c = ((p, at), first_tells r c, refl, refl)

  pub from_put : (side : GapSide) (t : Table W) (at p : Place) (r : List Place) → IsCircle words t (put_in side at p r) → IsCircle words t (p ∷ others_of side at r)
  from_put After t at p r c = rotated {n = neighbors words} (at ∷ []) (p ∷ r) c
  from_put Before t at p r c = c

  pub put_apart : (side : GapSide) (t : Table W) (at p : Place) (r : List Place) → IsCircle words t (put_in side at p r) → p ≢ at
  put_apart After t at p r c = λ e. c.distinct.0.0 (sym e)
  put_apart Before t at p r c = c.distinct.0.0

  pub without_put : (side : GapSide) {old new : Table W} (at p : Place) (r : List Place) → Makes words old new (p ∷ others_of side at r) (others_of side at r)
      → Makes words old new (put_in side at p r) (at ∷ r)
  without_put After at p r m = makes_turned (λ q out. absent_turned q (p ∷ r) (at ∷ []) out) (λ c. rotated {n = neighbors words} r (at ∷ []) c) m
  without_put Before at p r m = m

  -- a place that is alone in its circle is its own neighbor on each side
  pub alone_tells : (side : GapSide) {t : Table W} {p : Place} → IsCircle words t (p ∷ [])
      → (x : Place × Place) × AreLinked words t x.0 x.1 × (own_on side x ≡ p) × (neighbor_on side x ≡ p)
  alone_tells After {t} {p} c = ((p, p), last_tells t p [] c refl, refl, refl)
  alone_tells Before {t} {p} c = ((p, p), last_tells t p [] c refl, refl, refl)

  -- p REPLACES `at`. The place `next` after p is the place n that was after `at`, or p itself if `at` was alone
  pub next_first : {t : Table W} {at n p next : Place} (r : List Place) → IsCircle words t (at ∷ r) → AreLinked words t at n → (n ≡ at → next ≡ p) → (n ≢ at → next ≡ n)
      → Some next ≡ first (r ++ p ∷ [])
  next_first [] c links_back alone other = ap Some (alone (some_same (sym links_back.next ∙ c.chain.0.next)))
  next_first {t} {at} {n} (x ∷ r) c links_back alone other =
      let is : n ≡ x = some_same (sym links_back.next ∙ c.chain.0.next) in ap Some (other (λ e. c.distinct.0.0 (sym e ∙ is)) ∙ is)

  -- A PLACE THAT IS ALREADY on this side of `at` is at the position to which a move would bring it
  pub put_already : (side : GapSide) (t : Table W) (at p : Place) (r s : List Place) → IsCircle words t (p ∷ r ++ at ∷ s) → (x : Place × Place) → AreLinked words t x.0 x.1
      → own_on side x ≡ at → neighbor_on side x ≡ p → IsCircle words t (put_in side at p (s ++ r))
  put_already After t at p r [] c x links_back own beside = rotated {n = neighbors words} (p ∷ r) (at ∷ []) c
  put_already After t at p r (y ∷ s) c x links_back own beside =
      let turned = rotated {n = neighbors words} (p ∷ r) (at ∷ y ∷ s) c in
      let next : y ≡ x.1 = some_same (sym turned.chain.0.next ∙ ap (λ z. (neighbors words (t.entry z)).next) (sym own) ∙ links_back.next) in
      absurd ((absent_right p r (at ∷ y ∷ s) c.distinct.0).1.0 (sym (next ∙ beside)))
  put_already Before t at p [] s c x links_back own beside = rw append-nil c
  put_already Before t at p (y ∷ r) s c x links_back own beside =
      let turned = rotated {n = neighbors words} (p ∷ y ∷ r) (at ∷ s) c in
      let out = absent_left p (y ∷ r) (at ∷ s) c.distinct.0 in
      let prev = ap (λ z. (neighbors words (t.entry z)).prev) (sym own) ∙ links_back.prev ∙ ap Some beside in
      absurd (last_not (Some y) r p (λ e. out.0 (sym (some_same e))) out.1 (sym (last_or-append None (at ∷ s) (p ∷ y ∷ r)) ∙ sym turned.chain.0.prev ∙ prev))

  -- a place p leaves its ring, in which it is between the places of the pair `from`. If p is not in the pair `to` of neighbors, the first places of
  -- the two pairs differ, and so do the second places. THE TWO NEIGHBORS `to` THEREFORE STAY NEIGHBORS
  pub stays_told : (side : GapSide) {t : Table W} {p at : Place} (from to : Place × Place) → AreLinked words t from.0 p → AreLinked words t p from.1 → AreLinked words t to.0 to.1
      → own_on side to ≡ at → at ≢ p → (neighbor_on side to ≢ p) → (to.0 ≢ from.0) × (to.1 ≢ from.1)
  stays_told After from to before after links_back own other beside = (
    (λ e. beside (one_next links_back (rw e before))),
    (λ e. other (sym own ∙ one_before links_back (rw e after))),
  )
  stays_told Before from to before after links_back own other beside = (
    (λ e. other (sym own ∙ one_next links_back (rw e before))),
    (λ e. beside (one_before links_back (rw e after))),
  )

  -- A HEAD THAT IS ITS OWN PREVIOUS PLACE has no members
  pub stands_alone : {t : Table W} {b p : Place} (s : List Place) → IsCircle words t (p ∷ s) → AreLinked words t b p → b ≡ p → s ≡ []
  stands_alone [] c links_back same = refl
  stands_alone {p = p} (x ∷ s) c links_back same =
      absurd (last_not (Some x) s p (λ e. c.distinct.0.0 (sym (some_same e))) c.distinct.0.1 (sym c.chain.0.prev ∙ links_back.prev ∙ ap Some same))

  pub from_gap : (side : GapSide) (t : Table W) (at : Place) (r : List Place) → IsCircle words t (at ∷ r) → IsCircle words t (before_gap side at r)
  from_gap After t at r c = rotated {n = neighbors words} (at ∷ []) r c
  from_gap Before t at r c = c

  pub last_before : (side : GapSide) (t : Table W) (at : Place) (r : List Place) → IsCircle words t (at ∷ r) → (x : Place × Place) → AreLinked words t x.0 x.1 → own_on side x ≡ at
      → last (before_gap side at r) ≡ Some x.0
  last_before After t at r c x links_back own = last_or-append None r (at ∷ []) ∙ ap Some (sym own)
  last_before Before t at r c x links_back own = sym c.chain.0.prev ∙ ap (λ z. (neighbors words (t.entry z)).prev) (sym own) ∙ links_back.prev

  pub all_put : (side : GapSide) (t : Table W) (at : Place) (r s : List Place) → IsCircle words t (before_gap side at r ++ s) → IsCircle words t (all_put_in side at r s)
  all_put After t at r s c = rotated {n = neighbors words} r (at ∷ s) (rw (append_assoc r (at ∷ []) s) at c)
  all_put Before t at r s c = c

  pub none_put : (side : GapSide) (t : Table W) (at : Place) (r : List Place) → IsCircle words t (at ∷ r) → IsCircle words t (all_put_in side at r [])
  none_put After t at r c = c
  none_put Before t at r c = rw append-nil c

  -- each of two neighbors is linked
  pub own_linked : (side : GapSide) {t : Table W} {at : Place} (x : Place × Place) → AreLinked words t x.0 x.1 → own_on side x ≡ at → words.is_linked (t.entry at) ≡ true
  own_linked After x links_back own = rw (sym own) links_back.linked
  own_linked Before x links_back own = rw (sym own) links_back.stands

  -- THE NEIGHBOR OF A PLACE, as its word names it, is the second place of a pair of neighbors to which the place belongs
  pub beside_told : (side : GapSide) {t : Table W} {at : Place} (x : Place × Place) → AreLinked words t x.0 x.1 → own_on side x ≡ at → beside words side t at ≡ Some (neighbor_on side x)
  beside_told After {t} x links_back own = ap (λ z. (neighbors words (t.entry z)).next) (sym own) ∙ links_back.next
  beside_told Before {t} x links_back own = ap (λ z. (neighbors words (t.entry z)).prev) (sym own) ∙ links_back.prev

  -- a place that is neither `at` nor the neighbor of `at` on this side is neither place of the pair x of neighbors
  pub apart_beside : (side : GapSide) {t : Table W} {at q : Place} (x : Place × Place) → AreLinked words t x.0 x.1 → own_on side x ≡ at → (Some at ≢ Some q)
      → (beside words side t at ≢ Some q) → (q ≢ x.0) × (q ≢ x.1)
  apart_beside After x links_back own off away = ((λ e. off (ap Some (sym own ∙ sym e))), (λ e. away (beside_told After x links_back own ∙ ap Some (sym e))))
  apart_beside Before x links_back own off away = ((λ e. away (beside_told Before x links_back own ∙ ap Some (sym e))), (λ e. off (ap Some (sym own ∙ sym e))))

  -- x and y are the two neighbors of p. A place that differs from both neighbors that the words of p name is neither x nor y
  pub apart_around : {t : Table W} {p q x y : Place} → AreLinked words t x p → AreLinked words t p y → (beside words Before t p ≢ Some q) → (beside words After t p ≢ Some q) → (q ≢ x) × (q ≢ y)
  apart_around comes goes before after = ((λ e. before (comes.prev ∙ ap Some (sym e))), (λ e. after (goes.next ∙ ap Some (sym e))))

  -- a splice tests that the first place of the pair `to` is neither the head `given` nor the place b before the head. The place `at`, which is in the
  -- pair, is therefore not `given`
  pub splices_elsewhere : (side : GapSide) {t : Table W} {at given b : Place} (to : Place × Place) → AreLinked words t to.0 to.1 → own_on side to ≡ at → AreLinked words t b given
      → to.0 ≢ given → to.0 ≢ b → at ≢ given
  splices_elsewhere After to links_back own before other apart e = other (own ∙ e)
  splices_elsewhere Before to links_back own before other apart e = apart (one_before links_back (rw (own ∙ e) before))

  -- if a and b name each other, and p is equal to both, p is its own neighbor
  pub told_named : {t : Table W} {a b p : Place} → AreLinked words t a b → p ≡ a → p ≡ b → AreLinked words t p p
  told_named {t} {a} {p = p} k from to = subst (λ z. AreLinked words t z p) (sym from) (subst (λ z. AreLinked words t a z) (sym to) k)

  -- THE WORDS ARE AS BEFORE THE CALL if the view is as before the call
  pub same_back : (a b : RawTable W) {es fs : List W} → raw_entries a ≡ es → fs ≡ raw_entries b → b ≡ a → fs ≡ es
  same_back a b e f same = f ∙ ap raw_entries same ∙ e

  -- a place that is linked in a view is linked in the words that the caller lent
  pub linked_back : (t : RawTable W) {es : List W} (p : Place) → raw_entries t ≡ es → words.is_linked ((lent_table words t).entry p) ≡ true
      → words.is_linked ((table_of words es).entry p) ≡ true
  linked_back t p e on = let back : words.is_linked ((table_of words (raw_entries t)).entry p) ≡ true = on in rw (← e) back

  -- a place whose neighbors are confirmed in a view has confirmed neighbors in the words that the caller lent
  pub amid_back : (t : RawTable W) {es : List W} {p : Place} → raw_entries t ≡ es → (q : Place) × AreLinked words (lent_table words t) q p → (q : Place) × AreLinked words (lent_table words t) p q
      → IsAmid words es p
  amid_back t e from to = record { before = from.0; after = to.0; comes = told_back t e from.1; goes = told_back t e to.1 }
