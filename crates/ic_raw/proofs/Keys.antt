-- These lemmas say which members a search by a key finds.
use Rattle.std.proofs.Common.{◌≡◌, ◌≢◌, ℕ, ◌+◌, ◌<◌, ◌≤◌, Bool, true, false, not, cond, Option, Some, None, List, [], ◌∷◌, ◌++◌, length, refl, sym, ap, ◌∙◌, subst, arith, ltb-true, lt-ltb, le-ltb, is_eq, is_lt, is_ge, Ordering}
use Rattle.ic_link_ops.specs.Prelude.{Place, index_of, is_placed, at_indexes, Cut, join, first, Table, IsCovered, entry_at, Tree}
use Rattle.ic_unsafe_ref.proofs.IndexLemmas.{placed_in_range}
use Rattle.ic_link_ops.specs.declared.side.Side.{Side}
use Rattle.ic_link_ops.specs.declared.side.Side.TheVariants.{Left, Right}
use Rattle.ic_link_ops.proofs.SequenceLemmas.{some_same, none_not}
use Rattle.ic_link_ops.specs.Frames.{child_on}
use Rattle.ic_link_ops.specs.RedBlackTree as trees
use Rattle.ic_rbtree.specs.Prelude.{AreIn, IsClosed, IsBorder, Finds, less_at, at_most_at, if_passes, equal_at, goes_left}
use Rattle.ic_rbtree.proofs.Closed.{in_there}
use Rattle.ic_rbtree.proofs.Closed as sets
use Rattle.ic_rbtree.specs.Descents as descents
use Rattle.ic_rbtree.specs.Descents.{gap_in, passed, side_of}
use Rattle.ic_rbtree.specs.declared.keys.descent.Descent.{Descent}
use Rattle.ic_rbtree.proofs.Gaps.{gap_join, gap_border}
use Rattle.ic_rbtree.proofs.Sending.{Sent, not_ge, sent_first, sent_on, sent_ends}
use Rattle.ic_raw.specs.declared.words.RawThree.{RawThree}
use Rattle.ic_raw.specs.declared.search.InsertPos.{InsertPos}
use Rattle.ic_raw.specs.declared.search.Target.{Target}
use Rattle.ic_raw.specs.declared.search.Target.TheVariants.{Equal, AtLeast, AtMost}
use Rattle.ic_raw.specs.Prelude.{IsNoneOrLinked, seen, seen_node, has_place, raw_entries, is_linked_three, no_tree_words}
use Rattle.ic_raw.specs.Keys.{keys_fault, at_root, past, EndsBelow, EndsIn, HasTurned, IsTarget, LeadsDown, NamesTarget, SearchEnds}
use Rattle.ic_raw.specs.declared.nodes.Seen.{Seen}
use Rattle.ic_raw.specs.declared.table.RawTable.{RawTable}
use Rattle.ic_raw.specs.Tree.{Represents, IsInsertPos, lent_table, table_of}
use Rattle.ic_raw.proofs.Trees.{beside_stands, child_in, insert_pos_told, seen_represents}

-- if there are at least as many keys as places, each place of the table has a key
pub keyed : (t : Table RawThree) (keys : List ℕ) → t.extent.places ≤ length keys → (p : Place) → has_place t p ≡ true → is_placed (at_indexes keys) p ≡ true
keyed t keys enough p has = let covered = ltb-true (index_of p) t.extent.places has in placed_in_range keys p (omega (arith, covered, enough))

-- THE SEARCH HAS COME to `here`, past `looks` members. A descent of `ic_rbtree` that has the same parent, side and neighbors as `way` has also come
-- to `here`
pub record Comes (t : Table RawThree) (root : Option Place) (at : Place → Ordering) (equals : Side) (tree : Tree) (here : Option Place) (way : InsertPos) (looks : ℕ) : Type 0 where
  pub descent : Descent
  pub sent : Sent seen_node (seen t) root at equals tree here descent 0 looks
  pub parent : way.parent ≡ descent.parent
  pub side : way.side ≡ descent.side
  pub front : way.front ≡ descent.front
  pub back : way.back ≡ descent.back

module _ (t : Table RawThree) {root : Option Place} {at : Place → Ordering} {equals : Side} where
  pub comes_first : {s : List Place} {way : InsertPos} {here : Option Place} → way ≡ at_root → here ≡ root → (h : trees.Represents seen_node (seen t) root s) → Comes t root at equals h.tree here way 0
  comes_first is top h = record {
    descent = descents.at_root;
    sent = subst (λ o. Sent seen_node (seen t) root at equals h.tree o descents.at_root 0 0) (sym top) (sent_first seen_node refl 0 h);
    parent = ap (λ (w : InsertPos). w.parent) is;
    side = ap (λ (w : InsertPos). w.side) is;
    front = ap (λ (w : InsertPos). w.front) is;
    back = ap (λ (w : InsertPos). w.back) is;
  }

  module _ {tree : Tree} {way : InsertPos} {p : Place} {looks : ℕ} (x : Comes t root at equals tree (Some p) way looks) where
    -- the search goes on past one more member, to the child on the side that the comparison chooses
    pub comes_on : {next : Option Place} {way' : InsertPos} {more : ℕ} {order : Ordering} (left : Bool) → way' ≡ past way p left → order ≡ at p → left ≡ goes_left equals order
        → next ≡ child_on (side_of left) (seen_node ((seen t).entry p)) → more ≡ looks + 1 → Comes t root at equals tree next way' more
    comes_on {next} {way'} {more} {order} left is there goes below counted = by left is (sent_on seen_node x.sent refl left refl there goes refl below counted) where
      by : (left : Bool) → way' ≡ past way p left → Sent seen_node (seen t) root at equals tree next (passed x.descent p left (is_eq order)) 0 more → Comes t root at equals tree next way' more
      by true e sent = record { descent = passed x.descent p true (is_eq order); sent = sent; parent = ap (λ (w : InsertPos). w.parent) e; side = ap (λ (w : InsertPos). w.side) e; front = ap (λ (w : InsertPos). w.front) e ∙ x.front; back = ap (λ (w : InsertPos). w.back) e }
      by false e sent = record { descent = passed x.descent p false (is_eq order); sent = sent; parent = ap (λ (w : InsertPos). w.parent) e; side = ap (λ (w : InsertPos). w.side) e; front = ap (λ (w : InsertPos). w.front) e; back = ap (λ (w : InsertPos). w.back) e ∙ x.back }

  -- if the search comes to no place, its way ends in the gap to which the comparisons lead
  pub comes_to_end : {tree : Tree} {here : Option Place} {way : InsertPos} {looks : ℕ} → Comes t root at equals tree here way looks → here ≡ None → EndsIn t (gap_in (λ p. goes_left equals (at p)) tree) way
  comes_to_end {tree} x none =
      let ends = sent_ends seen_node x.sent none in
      record {
        insert_pos = rw (x.parent, x.side) ends.insert_pos;
        front_is = x.front ∙ ends.front_is;
        back_is = x.back ∙ ends.back_is;
      }

-- the way that a search returns ends in the gap to which the comparisons lead, where `side` is the side to which the search goes at equal keys
pub ends_at : {t : Table RawThree} (tree : Tree) (at : Place → Ordering) {equals side : Side} {way : InsertPos} {result : Option InsertPos}
    → (w : InsertPos) × (result ≡ Some w) × EndsIn t (gap_in (λ p. goes_left equals (at p)) tree) w → result ≡ Some way → equals ≡ side
    → EndsIn t (gap_in (λ p. goes_left side (at p)) tree) way
ends_at {t} tree at {side = side} ends is same =
    subst (λ (w : InsertPos). EndsIn t (gap_in (λ p. goes_left side (at p)) tree) w) (some_same (sym ends.1 ∙ is))
    (subst (λ (s : Side). EndsIn t (gap_in (λ p. goes_left s (at p)) tree) ends.0) same ends.2)

pub is_some : {W : Type 0} {way : W} {result : Option W} → result ≡ Some way → result ≢ None
is_some {way = way} is none = none_not way (sym none ∙ is)

-- THE FOUND MEMBER is the member after the gap, if its key is equal to the searched key
pub finds : {t : Table RawThree} {root : Option Place} {at : Place → Ordering} {s : List Place} (h : trees.Represents seen_node (seen t) root s) {way : InsertPos} → EndsIn t (gap_in (at_most_at at) h.tree) way
    → {result : Option Place} → result ≡ if_passes (equal_at at) way.back → Finds at s result
finds {at = at} h ends is = record {
  gap = gap_in (at_most_at at) h.tree;
  same = gap_join (at_most_at at) h.tree ∙ h.held.order;
  border = gap_border (at_most_at at) h.tree;
  answer = is ∙ ap (if_passes (equal_at at)) ends.back_is;
}

-- if a set has the places of a way and one more place p, it has the places of the way that has passed p
pub past_within : (S : Place → Bool) (way : InsertPos) (p : Place) (left : Bool) → S p ≡ true → AreIn S (way.parent ∷ way.front ∷ way.back ∷ [])
    → AreIn S ((past way p left).parent ∷ (past way p left).front ∷ (past way p left).back ∷ [])
past_within S way p true here ends = (here, (ends.1.0, (here, tt)))
past_within S way p false here ends = (here, (here, (ends.1.1.0, tt)))

-- A WAY GOES ON DOWN past one more place p, to the child of p on the side that `left` chooses
pub down_on : (t : Table Seen) (left : Place → Bool) (from : Option Place) (w : List Place) (p : Place) (next : Option Place) → LeadsDown t left from w (Some p)
    → child_on (side_of (left p)) (seen_node (t.entry p)) ≡ next → LeadsDown t left from (w ++ p ∷ []) next
down_on t left from [] p next way is = (way, is)
down_on t left from (x ∷ w) p next way is = (way.0, down_on t left (child_on (side_of (left x)) (seen_node (t.entry x))) w p next way.1 is)

-- a way down from the root goes on past a place at which the search has compared the keys
pub down_past : (t : Table Seen) (at : Place → Ordering) (equals : Side) {root : Option Place} {p : Place} {left : Bool} {order : Ordering} {next : Option Place}
    → (w : List Place) × LeadsDown t (λ q. goes_left equals (at q)) root w (Some p) → left ≡ goes_left equals order → order ≡ at p
    → next ≡ child_on (side_of left) (seen_node (t.entry p)) → (w : List Place) × LeadsDown t (λ q. goes_left equals (at q)) root w next
down_past t at equals {root} {p} {next = next} way goes is below = (
  way.0 ++ p ∷ [],
  down_on t (λ q. goes_left equals (at q)) root way.0 p next way.1 (ap (λ b. child_on (side_of b) (seen_node (t.entry p))) (sym (goes ∙ ap (goes_left equals) is)) ∙ sym below),
)

-- `HasTurned` holds of the way at the root. If it holds of a way, it also holds after the way has passed p on the side that the comparison chooses
pub turned_nowhere : (left : Place → Bool) {way : InsertPos} → way ≡ at_root → HasTurned left way
turned_nowhere left is = record {
  front = λ q e. absurd (none_not q (sym (ap (λ (w : InsertPos). w.front) is) ∙ e));
  back = λ q e. absurd (none_not q (sym (ap (λ (w : InsertPos). w.back) is) ∙ e));
}

pub turned_on : (left : Place → Bool) (way : InsertPos) (p : Place) (to_left : Bool) → to_left ≡ left p → HasTurned left way → HasTurned left (past way p to_left)
turned_on left way p true same was = record { front = was.front; back = λ q e. subst (λ r. left r ≡ true) (some_same e) (sym same) }
turned_on left way p false same was = record { front = λ q e. subst (λ r. left r ≡ false) (some_same e) (sym same); back = was.back }

-- A SEARCH IS AT A PLACE of the table, past `looks` members, on the way down from the root
pub record IsAt (t : Table RawThree) (root : Option Place) (at : Place → Ordering) (equals : Side) (way : InsertPos) (p : Place) (looks : ℕ) : Type 0 where
  pub each : (s : List Place) (h : trees.Represents seen_node (seen t) root s) → Comes t root at equals h.tree (Some p) way looks
  pub down : (w : List Place) × LeadsDown (seen t) (λ q. goes_left equals (at q)) root w (Some p)
  pub turned : HasTurned (λ q. goes_left equals (at q)) way
  pub here : has_place t p ≡ true
  pub inside : (S : Place → Bool) → IsClosed seen_node (seen t) root S → (S p ≡ true) × AreIn S (way.parent ∷ way.front ∷ way.back ∷ [])

-- THE WAY IS AT ITS END: the record has all facts that a search proves about its way
pub record IsDown (t : Table RawThree) (root : Option Place) (at : Place → Ordering) (equals : Side) (way : InsertPos) : Type 0 where
  pub ends : (s : List Place) (h : trees.Represents seen_node (seen t) root s) → EndsIn t (gap_in (λ q. goes_left equals (at q)) h.tree) way
  pub down : EndsBelow (seen t) (λ q. goes_left equals (at q)) root
  pub turned : HasTurned (λ q. goes_left equals (at q)) way
  pub in_closed_set : (S : Place → Bool) → IsClosed seen_node (seen t) root S → AreIn S (way.parent ∷ way.front ∷ way.back ∷ [])

module _ {t : Table RawThree} {root : Option Place} {at : Place → Ordering} {equals : Side} {way way' : InsertPos} {p : Place} {looks : ℕ} (x : IsAt t root at equals way p looks)
    (is : way' ≡ past way p (goes_left equals (at p))) where
  -- the way has passed the place p. `HasTurned` still holds of the way
  turns : HasTurned (λ q. goes_left equals (at q)) way'
  turns = rw is (turned_on (λ q. goes_left equals (at q)) way p (goes_left equals (at p)) refl x.turned)

  keeps : (S : Place → Bool) → IsClosed seen_node (seen t) root S → AreIn S (way'.parent ∷ way'.front ∷ way'.back ∷ [])
  keeps S h = let was = x.inside S h in rw is (past_within S way p (goes_left equals (at p)) was.0 was.1)

  -- the search compares the key of the place, and goes on to the child on the side that the comparison chooses
  pub at_next : {next : Place} → child_on (side_of (goes_left equals (at p))) (seen_node ((seen t).entry p)) ≡ Some next → IsAt t root at equals way' next (looks + 1)
  at_next {next} below = record {
    each = λ s h. comes_on t (x.each s h) (goes_left equals (at p)) is refl refl (sym below) refl;
    down = down_past (seen t) at equals x.down refl refl (sym below);
    turned = turns;
    here = in_there (has_place t) (child_in t (side_of (goes_left equals (at p))) p) below;
    inside = λ S h. (in_there S (sets.child_in seen_node h (side_of (goes_left equals (at p))) p (x.inside S h).0 (none_not p)) below, keeps S h);
  }

  -- the search comes to its end, if the place has no child on the side that the comparison chooses
  pub at_end : child_on (side_of (goes_left equals (at p))) (seen_node ((seen t).entry p)) ≡ None → IsDown t root at equals way'
  at_end below = record {
    ends = λ s h. comes_to_end t (comes_on t (x.each s h) (goes_left equals (at p)) is refl refl (sym below) refl) refl;
    down = down_past (seen t) at equals x.down refl refl (sym below);
    turned = turns;
    in_closed_set = keeps;
  }

-- a key that is not less than a second key is equal to it or greater
pub at_least : (order : Ordering) → is_lt order ≡ false → is_ge order ≡ true
at_least order e = pick (is_ge order) (sym (not_ge order) ∙ e) where
  pick : (b : Bool) → not b ≡ false → b ≡ true
  pick true e = refl
  pick false e = cc

-- if a number names a member that meets the target in a view, it does so in the words that the caller lent
pub target_back : {es : List RawThree} (t : RawTable RawThree) (target : Target) (keys : List ℕ) (key number : ℕ) → raw_entries t ≡ es
    → NamesTarget target keys key (lent_table t) number → NamesTarget target keys key (table_of es) number
target_back t target keys key number e names = (names.0, ap (λ es. is_linked_three (entry_at no_tree_words es names.0)) (sym e) ∙ names.1, names.2, names.3)

-- if a search comes to an end in a view, it comes to an end in the words that the caller lent
pub ends_back : {es : List RawThree} (t : RawTable RawThree) (target : Target) (keys : List ℕ) (key : ℕ) {root : Option Place} → raw_entries t ≡ es
    → SearchEnds target keys key (lent_table t) root → SearchEnds target keys key (table_of es) root
ends_back t target keys key {root} e ends =
    let back : SearchEnds target keys key (table_of (raw_entries t)) root = ends in
    subst (λ es. SearchEnds target keys key (table_of es) root) e back

-- if there are fewer keys than places, the fault of the keys is 1, the number of `OUT_OF_RANGE`. If there are enough keys, their fault is 0, the
-- number of `OK`
pub lacking : (keys : List ℕ) (places : ℕ) → length keys < places → 1 ≡ keys_fault keys places
lacking keys places few = ap (λ b. cond b 1 0) (sym (lt-ltb (length keys) places few))

pub enough : (keys : List ℕ) (places : ℕ) → places ≤ length keys → 0 ≡ keys_fault keys places
enough keys places all = ap (λ b. cond b 1 0) (sym (le-ltb (length keys) places all))

-- if `if_passes test o` is the place q, then o is also q
passes : (test : Place → Bool) (o : Option Place) (q : Place) → if_passes test o ≡ Some q → o ≡ Some q
passes test None q e = e
passes test (Some p) q e = pick (test p) e where
  pick : (b : Bool) → cond b (Some p) None ≡ Some q → Some p ≡ Some q
  pick true e = e
  pick false e = cc

-- the member that a target means is linked, or there is none
pub target_stands : {t : Table RawThree} {root : Option Place} {s : List Place} (target : Target) (at : Place → Ordering) → Represents t root s → {position : Option Place} → IsTarget target at s position
    → IsNoneOrLinked is_linked_three t position
target_stands {t} {root} Equal at shown f =
    λ q is. beside_stands Left f.gap (subst (Represents t root) (sym f.same) shown) refl q (passes (equal_at at) (first f.gap.back) q (sym f.answer ∙ is))
target_stands {t} {root} AtLeast at shown b = beside_stands Left b.gap (subst (Represents t root) (sym b.same) shown) b.before
target_stands {t} {root} AtMost at shown b = beside_stands Right b.gap (subst (Represents t root) (sym b.same) shown) b.after

-- A PLACE FITS into a gap of the tree: the members before the gap have a key that is not greater, and the members after it have a greater key
pub record Fits (t : Table RawThree) (root : Option Place) (at : Place → Ordering) (s : List Place) (side : Side) (parent : Option Place) : Type 0 where
  pub gap : Cut
  pub same : join gap ≡ s
  pub border : IsBorder (less_at at) gap
  pub shown : Represents t root (join gap)
  pub insert_pos : IsInsertPos side t parent gap

pub fits : (t : Table RawThree) → ((q : Place) → is_linked_three (t.entry q) ≡ true → IsCovered t q) → {root parent : Option Place} {at : Place → Ordering} {s : List Place} (way : InsertPos)
    → Represents t root s → parent ≡ way.parent → ((s : List Place) (h : trees.Represents seen_node (seen t) root s) → EndsIn t (gap_in (less_at at) h.tree) way) → Fits t root at s way.side parent
fits t law {root} {parent} {at} {s} way shown is ends =
    let h = seen_represents t law shown in
    let gap : Cut = gap_in (less_at at) h.tree in
    let same : join gap ≡ s = gap_join (less_at at) h.tree ∙ h.held.order in
    let shows = subst (Represents t root) (sym same) shown in
    record {
      gap = gap;
      same = same;
      border = gap_border (less_at at) h.tree;
      shown = shows;
      insert_pos = subst (λ o. IsInsertPos way.side t o gap) (sym is) (insert_pos_told t law way.side way.parent gap shows (ends s h).insert_pos);
    }
