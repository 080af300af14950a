-- How calls read a collection: the member after a member, and walks from the front. In a walk over a tree a cursor moves along with the walk, and
-- each member that the cursor is on is appended to a list.
use Rattle.std.proofs.Common.{◌≡◌, ◌≢◌, ◌∙◌, ◌<◌, ◌+◌, ◌++◌, true, false, cond, Option, Some, None, List, [], ◌∷◌, drop, length, refl, sym, ap, append_assoc, arith, nat_eq, eq-eqb, eqb-true, Bool, ℕ, Result, Ok, Err, IfOk, IsSome, subst, append-nil, length-append, Vec, Ordering}
use Rattle.std.proofs.lemmas.Bool.{eqb-false, false_from_ne_true}
use Rattle.ic_link_ops.specs.Prelude.{Place, index_of, Cut, join, first, last, IsAfter, IsBefore, IsAbsent, IsDistinct, Table, CursorState, RepresentsAt, MovesOn, Objects, object_at, IsCovered, IsValidCursor, ArePlaced, values_at, is_end}
use Rattle.ic_link_ops.proofs.Prelude.{same_index, word_tells, first_is, last_of_push, some_same, none_not, is_end_yes, stands_by_gap}
use Rattle.std.specs.List.{cons_option}
use Rattle.ic_link_ops.specs.RedBlackTree.{Node, Represents}
use Rattle.ic_rbtree.specs.declared.keys.key_adapter.Bound.{Bound}
use Rattle.ic_rbtree.specs.Ranges.{IsRange}
use Rattle.ic_rbtree.specs.declared.iter.Iter.{Iter}
use Rattle.ic_rbtree.specs.Iter.{rest_of, objects_left, CanWalk}
use Rattle.ic_rbtree.proofs.Walking.{walk_members}

-- A MOVE FROM A MEMBER p leads to the member after p, or to null if p is the last
pub leads_after : {L E H : Type 0} {Represents : Table E → H → List Place → Type 0} {table : L → Table E} {old : CursorState L H} {position : Option Place} {p : Place} {s : List Place}
    → MovesOn Represents table old position → old.position ≡ Some p → RepresentsAt Represents table old s → (gap : Cut) → join gap ≡ s → IsBefore gap (Some p) → position ≡ first (drop 1 gap.back)
leads_after {Represents = Represents} {table = table} {old = old} {p = p} {s = s} moves at shown gap cut before =
    let back = drop 1 gap.back in
    let is : gap.front ++ p ∷ back ≡ s = ap (λ b. gap.front ++ b) (sym (first_is gap.back before)) ∙ cut in
    let there : RepresentsAt Represents table old ((gap.front ++ p ∷ []) ++ back) = rw (append_assoc gap.front (p ∷ []) back, is) shown in
    moves.leads (record { front = gap.front ++ p ∷ []; back = back }) there (at ∙ sym (last_of_push gap.front p))

-- two places are equal exactly if their words are equal as numbers
pub same_place : (p q : Place) → nat_eq p.word q.word ≡ true → p ≡ q
same_place p q equal = same_index p q (eqb-true _ _ (sym (word_tells p q) ∙ equal))

pub other_place : (p q : Place) → nat_eq p.word q.word ≡ false → q ≢ p
other_place p q differs same = eqb-false p.word q.word differs (ap (λ x. x.word) (sym same))

-- A WALK FROM THE FRONT of s has passed the members `done`, and the members `left` follow them. `prev` is the last member of `done`, and `current` is
-- the first member of `left`
pub record Walks (s done : List Place) (prev current : Option Place) : Type 0 where
  pub left : List Place
  pub whole : done ++ left ≡ s
  pub prev_is : prev ≡ last done
  pub current_is : current ≡ first left

-- a walk is at the gap between the members that it has passed and the members that are left
pub gap_at : {s done : List Place} {prev current : Option Place} → Walks s done prev current → (gap : Cut) × (join gap ≡ s) × (IsAfter gap prev × IsBefore gap current)
gap_at {done = done} w = (record { front = done; back = w.left }, w.whole, (w.prev_is, w.current_is))

-- `walks_first`: a walk starts at the first member of s. `walks_next`: a walk goes on to the member after the current one
pub walks_first : {s : List Place} {current : Option Place} → current ≡ first s → Walks s [] None current
walks_first {s} is = record { left = s; whole = refl; prev_is = refl; current_is = is }

pub walks_next : {s done : List Place} {prev current : Option Place} {p : Place} → Walks s done prev (Some p)
    → ((gap : Cut) → join gap ≡ s → IsAfter gap prev → IsBefore gap (Some p) → current ≡ first (drop 1 gap.back)) → Walks s (done ++ p ∷ []) (Some p) current
unfolding gap_at
walks_next {done = done} {p = p} w next =
    let gap = gap_at w in record {
      left = drop 1 w.left;
      whole = append_assoc done (p ∷ []) (drop 1 w.left) ∙ ap (λ b. done ++ b) (sym (first_is w.left w.current_is)) ∙ w.whole;
      prev_is = sym (last_of_push done p);
      current_is = next gap.0 gap.1 w.prev_is w.current_is;
    }

-- HOW FAR A WALK IS: the members of s from the given place on
unfoldable pub from : Option Place → List Place → List Place
from None s = []
from (Some p) [] = []
from (Some p) (x ∷ s) = cond (is_end (Some p) x) (x ∷ s) (from (Some p) s)

absent_not : (front : List Place) (q : Place) (back : List Place) (x : Place) → IsAbsent x (front ++ q ∷ back) → x ≢ q
absent_not [] q back x h = h.0
absent_not (z ∷ f) q back x h = absent_not f q back x h.1

from_first : (done left : List Place) → IsDistinct (done ++ left) → from (first left) (done ++ left) ≡ left
unfolding from
from_first done [] d = refl
from_first [] (y ∷ b) d = let e : is_end (Some y) y ≡ true = eq-eqb (index_of y) (index_of y) refl in rw e refl
from_first (x ∷ f) (y ∷ b) d =
    let apart : y ≢ x = λ e. absent_not f y b x d.0 (sym e) in
    let e : is_end (Some y) x ≡ false = false_from_ne_true _ (λ yes. apart (some_same (is_end_yes (Some y) x yes))) in
    rw e (from_first f (y ∷ b) d.1)

pub walks_from : {s done : List Place} {prev current : Option Place} → IsDistinct s → (w : Walks s done prev current) → from current s ≡ w.left
walks_from {done = done} distinct w = rw (w.current_is, ← w.whole) (from_first done w.left (rw w.whole distinct))

-- each step of a walk leaves fewer members to walk, so the walk ends
pub walks_fewer : {s done : List Place} {prev current : Option Place} {p : Place} → IsDistinct s → Walks s done prev (Some p)
    → Walks s (done ++ p ∷ []) (Some p) current → length (from current s) < length (from (Some p) s)
walks_fewer {s} {done} {current = current} {p = p} distinct w next =
    let before : length s ≡ length done + length w.left = ap length (sym w.whole) ∙ length-append done w.left in
    let after : length s ≡ length (done ++ p ∷ []) + length next.left = ap length (sym next.whole) ∙ length-append (done ++ p ∷ []) next.left in
    let here : length (from (Some p) s) ≡ length w.left = ap length (walks_from distinct w) in
    let there : length (from current s) ≡ length next.left = ap length (walks_from distinct next) in
    omega (arith, before, after, here, there, length-append done (p ∷ []))

-- a walk has as many objects left as members, because there is an object at the place of each member
one_more : {V : Type 0} (o : Option V) {n : ℕ} (vs : List V) → IsSome o → n ≡ length vs → n + 1 ≡ length (cons_option o vs)
one_more None vs some e = absurd (cc)
one_more (Some v) vs some e = omega (arith, e)

left_count : {V : Type 0} (objects : Objects V) (w : List Place) → ArePlaced objects w → length w ≡ length (values_at objects w)
left_count objects [] placed = refl
left_count objects (p ∷ w) placed = let e = one_more (object_at objects p) (values_at objects w) placed.0 (left_count objects w placed.1) in omega (arith, e)

pub walk_count : {A L O V K E : Type 0} (node : E → Node) (table : L → Table E) (values : O → Objects V) → ((t : L) (q : Place) → (node ((table t).entry q)).linked ≡ true → IsCovered (table t) q)
    → (walk : Iter A L O V K) → CanWalk node table values walk → length (rest_of node table walk) ≡ length (objects_left node table values walk)
walk_count node table values law walk can = rw (walk_members node (table walk.links.now) (law walk.links.now) can.1) (left_count (values walk.objects.now) can.0 can.2)

-- THE LIST DURING A WALK: `places` are the listed members of `whole`, and `rest` are the others. There are as many members in `rest` as the walk has
-- objects left. The cursor is on the first member of `rest`. If `rest` is empty, it is directly after the last listed member
pub record Lists {E V : Type 0} (node : E → Node) (t : Table E) (root : Option Place) (whole places : List Place) (position : Option Place) (left : List V) : Type 0 where
  pub front : List Place
  pub rest : List Place
  pub back : List Place
  pub shown : Represents node t root (front ++ (rest ++ back))
  pub listed : places ++ rest ≡ whole
  pub stands : position ≡ first (rest ++ back)
  pub count : length rest ≡ length left

first_joined : (w back : List Place) {p : Place} → Some p ≡ first w → Some p ≡ first (w ++ back)
first_joined [] back {p} e = absurd (none_not p (sym e))
first_joined (x ∷ w) back e = e

no_more : {V : Type 0} (rest : List Place) {left : List V} → length rest ≡ length left → left ≡ [] → rest ≡ []
no_more [] count e = refl
no_more (p ∷ rest) count e = let k = count ∙ ap length e in absurd (omega (arith, k))

some_more : {V : Type 0} (rest : List Place) {left : List V} {v : V} {vs : List V} → length rest ≡ length left → left ≡ v ∷ vs
    → (p : Place) × (r : List Place) × (rest ≡ p ∷ r) × (length r ≡ length vs)
some_more [] count e = let k = count ∙ ap length e in absurd (omega (arith, k))
some_more (p ∷ rest) count e = let k = count ∙ ap length e in (p, rest, refl, omega (arith, k))

module _ {E V : Type 0} {node : E → Node} {t : Table E} {root : Option Place} {whole : List Place} where
  pub lists_first : {position : Option Place} {left : List V} {p : Place} → (front back : List Place) × Represents node t root (front ++ (whole ++ back))
      → Some p ≡ first whole → position ≡ Some p → length whole ≡ length left → Lists node t root whole [] position left
  lists_first shown starts is count =
      record { front = shown.0; rest = whole; back = shown.1; shown = shown.2; listed = refl; stands = is ∙ first_joined whole shown.1 starts; count = count }

  module _ {places : List Place} {position : Option Place} {left : List V} (l : Lists node t root whole places position left) where
    -- if the walk has no object left, all members of `whole` are listed
    pub lists_all : left ≡ [] → places ≡ whole
    lists_all none = sym (append-nil places) ∙ sym (ap (λ r. places ++ r) (no_more l.rest l.count none)) ∙ l.listed

    module _ {v : V} {vs : List V} (more : left ≡ v ∷ vs) where
      -- if the walk has an object left, the cursor is on the next member to list
      pub next : (p : Place) × (r : List Place) × (l.rest ≡ p ∷ r) × (length r ≡ length vs)
      next = some_more l.rest l.count more

      pub position_is : position ≡ Some next.0
      position_is = l.stands ∙ ap (λ r. first (r ++ l.back)) next.2

      pub is_there : IsSome position
      is_there = subst IsSome (sym position_is) refl

      -- the member that the cursor is on is appended to the list, and the cursor moves to the next member
      pub lists_next : {q : Place} {places' : List Place} {position' : Option Place} → position ≡ Some q → places' ≡ places ++ q ∷ []
          → ((gap : Cut) → Represents node t root (join gap) → IsAfter gap position → IsBefore gap position') → Lists node t root whole places' position' vs
      lists_next is listed leads =
          let same = some_same (sym is ∙ position_is) in
          let shown : Represents node t root ((l.front ++ next.0 ∷ []) ++ (next.1 ++ l.back)) = rw (append_assoc l.front (next.0 ∷ []) (next.1 ++ l.back)) (rw next.2 at l.shown) in record {
            front = l.front ++ next.0 ∷ [];
            rest = next.1;
            back = l.back;
            shown = shown;
            listed = ap (λ s. s ++ next.1) (listed ∙ ap (λ x. places ++ x ∷ []) same) ∙ append_assoc places (next.0 ∷ []) next.1 ∙ ap (λ r. places ++ r) (sym next.2) ∙ l.listed;
            stands = leads (record { front = l.front ++ next.0 ∷ []; back = next.1 ++ l.back }) shown (position_is ∙ sym (last_of_push l.front next.0));
            count = next.3;
          }

-- the cursor that goes along with the walk is valid in the tree
pub lists_stands : {L E V : Type 0} {node : E → Node} {table : L → Table E} {at : CursorState L (Option Place)} {whole places : List Place} {left : List V}
    → Lists node (table at.links) at.head whole places at.position left → IsValidCursor (Represents node) table at
lists_stands l = stands_by_gap (record { front = l.front; back = l.rest ++ l.back }) l.shown l.stands

-- the members of a range are consecutive in s: there are members `front` before them and `back` after them. A range may be empty
pub range_represented : {min max : Bound (Place → Ordering)} {runs : Option Place → Option Place → Bool} {s w : List Place} (shows : List Place → Type 0) → IsRange min max runs s w
    → shows s → (front back : List Place) × shows (front ++ (w ++ back))
range_represented {runs = runs} {s} {w} shows x shown = by (runs x.low x.high) refl where
  by : (b : Bool) → runs x.low x.high ≡ b → (front back : List Place) × shows (front ++ (w ++ back))
  by true e = let part = x.segment e in (part.front, part.back, subst shows (sym part.same) shown)
  by false e = ([], s, subst shows (sym (ap (λ r. r ++ s) (x.nothing e))) shown)

-- if the listed places are the members that a walk had left, a statement P of these members also holds of the listed places
pub if_listed : {M E : Type 0} (P : List Place → Type 0) (walked : List Place) (listed : Result (Vec Place M) E) → IfOk listed (λ places. places.items ≡ walked) → P walked → IfOk listed (λ places. P places.items)
if_listed P walked (Ok places) all h = subst P (sym all) h
if_listed P walked (Err refusal) all h = tt
