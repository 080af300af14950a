-- Statements about sums hold for the words exactly if they hold for a view of the words. A place that a search finds is linked.
use Rattle.std.proofs.Common.{◌≡◌, ℕ, true, false, cond, List, [], ◌∷◌, ◌++◌, Bool, Option, Some, refl, sym, ap, ◌∙◌, subst, append_assoc, filter}
use Rattle.ic_link_ops.specs.Prelude.{Place, Cut, join, first, IsMember}
use Rattle.ic_link_ops.proofs.Prelude.{none_not, some_same, split_member, holds_linked}
use Rattle.ic_raw.specs.declared.table.RawTable.{RawTable}
use Rattle.ic_raw.specs.declared.words.RawThree.{RawThree}
use Rattle.ic_raw.specs.Prelude.{IsNoneOrLinked, raw_entries, is_linked_three}
use Rattle.ic_raw.specs.Tree.{Represents, lent_table, table_of}
use Rattle.ic_raw_augmented.specs.declared.sums.Kind.{Kind}
use Rattle.ic_raw_augmented.specs.declared.sums.RawSum.{RawSum}
use Rattle.ic_raw_augmented.specs.Find.{IsFirstBeyond}
use Rattle.ic_raw_augmented.specs.Sums.{IsSummed, IsSummedBut, StaysBeside}

pub summed_viewed : (kind : Kind) (t : RawTable RawThree) {es : List RawThree} (sums : List RawSum) (s : List Place) → raw_entries t ≡ es → IsSummed kind (table_of es) sums s
    → IsSummed kind (lent_table t) sums s
summed_viewed kind t sums s view h = subst (λ (ws : List RawThree). IsSummed kind (table_of ws) sums s) (sym view) h

pub summed_back : (kind : Kind) (t : RawTable RawThree) {es : List RawThree} (sums : List RawSum) (s : List Place) → raw_entries t ≡ es → IsSummed kind (lent_table t) sums s
    → IsSummed kind (table_of es) sums s
summed_back kind t sums s view h = subst (λ (ws : List RawThree). IsSummed kind (table_of ws) sums s) view h

pub but_viewed : (kind : Kind) (t : RawTable RawThree) {es : List RawThree} (sums : List RawSum) (s : List Place) (but : Place → Bool) → raw_entries t ≡ es
    → IsSummedBut kind (table_of es) sums s but → IsSummedBut kind (lent_table t) sums s but
but_viewed kind t sums s but view h = subst (λ (ws : List RawThree). IsSummedBut kind (table_of ws) sums s but) (sym view) h

pub stands_viewed : (t : RawTable RawThree) {es : List RawThree} (o : Option Place) → raw_entries t ≡ es → IsNoneOrLinked is_linked_three (table_of es) o → IsNoneOrLinked is_linked_three (lent_table t) o
stands_viewed t o view h = subst (λ (ws : List RawThree). IsNoneOrLinked is_linked_three (table_of ws) o) (sym view) h

pub beside_back : (t : RawTable RawThree) {es : List RawThree} (old new : List RawSum) (p : Place) → raw_entries t ≡ es → StaysBeside (lent_table t) old new p
    → StaysBeside (table_of es) old new p
beside_back t old new p view h =
    let back : StaysBeside (table_of (raw_entries t)) old new p = λ S closed here q off.
    h S (record { linked = closed.linked; left = closed.left; right = closed.right; parent = closed.parent; starts = tt }) here q off in
    subst (λ (ws : List RawThree). StaysBeside (table_of ws) old new p) view back

-- the place m is in the list s, between `front` and `back`. For example, the first place of s that satisfies a test is in s
record IsAmong (m : Place) (s : List Place) : Type 0 where
  front : List Place
  back : List Place
  is : s ≡ front ++ m ∷ back

among : (test : Place → Bool) (m : Place) (s : List Place) → Some m ≡ first (filter test s) → IsAmong m s
among test m [] e = absurd (none_not m (sym e))
among test m (q ∷ s) e = pick (test q) refl (λ later. among test m s later) where
  pick : (b : Bool) → test q ≡ b → (Some m ≡ first (filter test s) → IsAmong m s) → IsAmong m (q ∷ s)
  pick true k rest =
      let here : Some m ≡ Some q = e ∙ ap (λ (b : Bool). first (cond b (q ∷ filter test s) (filter test s))) k in
      record { front = []; back = s; is = ap (λ (y : Place). y ∷ s) (sym (some_same here)) }
  pick false k rest =
      let x = rest (e ∙ ap (λ (b : Bool). first (cond b (q ∷ filter test s) (filter test s))) k) in
      record { front = q ∷ x.front; back = x.back; is = ap (λ (y : List Place). q ∷ y) x.is }

-- a place that a search finds is a member of the tree, so this place is linked
module _ (t : RawTable RawThree) (root : Option Place) (cut : Cut) (shown : Represents (lent_table t) root (join cut)) where
  part_stands : (front : List Place) (m : Place) (back : List Place) → cut.back ≡ front ++ m ∷ back → is_linked_three ((lent_table t).entry m) ≡ true
  part_stands front m back is =
      let parts : join cut ≡ (cut.front ++ front) ++ m ∷ back = ap (λ (y : List Place). cut.front ++ y) is ∙ sym (append_assoc cut.front front (m ∷ back)) in
      let member = subst (λ (y : List Place). IsMember m y) (sym parts) (split_member (cut.front ++ front) m back) in
      holds_linked shown.held member

  pub beyond_linked : (kind : Kind) (value : Place → ℕ) (done : List Place) (bound : ℕ) (m : Place) → IsFirstBeyond kind value done bound cut.back (Some m)
      → is_linked_three ((lent_table t).entry m) ≡ true
  beyond_linked kind value done bound m h = part_stands h.0 m h.1 h.2

  pub first_linked : (test : Place → Bool) (m : Place) → Some m ≡ first (filter test cut.back) → is_linked_three ((lent_table t).entry m) ≡ true
  first_linked test m e = let x = among test m cut.back e in part_stands x.front m x.back x.is
