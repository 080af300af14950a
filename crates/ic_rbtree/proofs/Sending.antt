-- Lemmas about a descent from the root of a represented tree to the gap to which the comparisons lead.
use Rattle.std.proofs.Common.{◌≡◌, ℕ, ◌+◌, ◌^◌, ◌≤◌, ◌<◌, Bool, true, false, not, cond, Option, Some, None, IsSome, List, [], ◌∷◌, ◌++◌, length, refl, sym, ap, ◌∙◌, subst, arith, append_assoc, append-nil, Ordering, Less, Equal, Greater, is_eq, is_lt, is_le, is_gt, is_ge}
use Rattle.ic_link_ops.specs.Prelude.{Place, Objects, object_at, Cut, first, last, Table, CursorState, RepresentsAt, IsValidCursor as PositionStands, ArePlaced}
use Rattle.ic_link_ops.specs.declared.color.Color.{Color}
use Rattle.ic_link_ops.specs.declared.side.Side.{Side}
use Rattle.ic_link_ops.specs.declared.side.Side.TheVariants.{Left, Right}
use Rattle.ic_link_ops.specs.Prelude.{Tree, leaf, fork, top, in_order, IsRight, is_end}
use Rattle.ic_link_ops.specs.RedBlackTree.{Node, Represents}
use Rattle.ic_link_ops.specs.Frames.{Frame, frame, plug, above, before, after, child_on}
use Rattle.ic_link_ops.proofs.Prelude.{stands_by_gap, stands_null, none_not, some_same, is_end_not}
use Rattle.ic_rbtree.specs.declared.keys.descent.Descent.{Descent}
use Rattle.ic_rbtree.specs.declared.keys.key_adapter.Bound.{Bound}
use Rattle.ic_rbtree.specs.declared.keys.key_adapter.Bound.TheVariants.{Included, Excluded, Unbounded}
use Rattle.ic_rbtree.specs.Prelude.{IsBorder, equal_at, at_most_at, if_passes, Finds, IsLowerBorder, IsUpperBorder, Looks, compared, goes_left, meets_lower, is_beyond, order_of, height, IsInsertPos, ClimbState, IsOn, IsBeside}
use Rattle.ic_rbtree.specs.Descents.{side_of, gap_in, SendsPast, passed, at_root, last_equal, is_last, is_equal, equal_there, EndsAt}
use Rattle.ic_rbtree.specs.declared.keys.entry.InsertCursor.{InsertCursor}
use Rattle.ic_rbtree.specs.Entry.{IsVacantFor}
use Rattle.ic_rbtree.proofs.Branches.{side_near, top_leaf}
use Rattle.ic_rbtree.proofs.Climbed.{path_few, is_end_there}
use Rattle.ic_rbtree.proofs.Outermost.{opened}
use Rattle.ic_rbtree.proofs.Gaps.{gap_join, gap_border, gap_same, gap_all, gap_none}
use Rattle.ic_rbtree.proofs.Heights.{looks_few, looks_fewer}
use Rattle.ic_rbtree.proofs.Nearest.{nearest_frame}
use Rattle.ic_rbtree.proofs.Removing.{order_around, stands_of}

-- a gap of the subtree below the frames, as a gap of the whole tree
abbrev pub gap_around : List Frame → Cut → Cut
gap_around fs gap = record { front = before fs ++ gap.front; back = gap.back ++ after fs }

left_is : (x : Bool) → Left ≡ side_of x → x ≡ true
left_is true e = refl
left_is false e = cc

right_is : (x : Bool) → Right ≡ side_of x → x ≡ false
right_is true e = cc
right_is false e = refl

-- A DESCENT BY A TEST that goes down through all frames comes to the subtree t below them. The gap that the test reaches in t is, as a gap of the whole tree,
-- the gap that the test reaches from the root
pub gap_plug : (test : Place → Bool) (fs : List Frame) (t : Tree) → SendsPast test fs → gap_in test (plug fs t) ≡ gap_around fs (gap_in test t)
gap_plug test [] t h = λ k. record { front = (gap_in test t).front; back = sym (append-nil (gap_in test t).back) k }
gap_plug test (frame Left c p b ∷ fs) t h =
    let left : Cut = record { front = (gap_in test t).front; back = (gap_in test t).back ++ p ∷ in_order b } in
    let right : Cut = record { front = in_order t ++ p ∷ (gap_in test b).front; back = (gap_in test b).back } in
    gap_plug test fs (fork c t p b) h.1
    ∙ ap (λ x. gap_around fs (cond x left right)) (left_is (test p) h.0)
    ∙ (λ k. record { front = before fs ++ (gap_in test t).front; back = append_assoc (gap_in test t).back (p ∷ in_order b) (after fs) k })
gap_plug test (frame Right c p b ∷ fs) t h =
    let left : Cut = record { front = (gap_in test b).front; back = (gap_in test b).back ++ p ∷ in_order t } in
    let right : Cut = record { front = in_order b ++ p ∷ (gap_in test t).front; back = (gap_in test t).back } in
    let same : before fs ++ (in_order b ++ p ∷ (gap_in test t).front) ≡ (before fs ++ (in_order b ++ p ∷ [])) ++ (gap_in test t).front =
    sym (append_assoc (before fs) (in_order b ++ p ∷ []) (gap_in test t).front
    ∙ ap (λ s. before fs ++ s) (append_assoc (in_order b) (p ∷ []) (gap_in test t).front)) in
    gap_plug test fs (fork c b p t) h.1
    ∙ ap (λ x. gap_around fs (cond x left right)) (right_is (test p) h.0)
    ∙ (λ k. record { front = same k; back = (gap_in test t).back ++ after fs })

-- the member that the descent stores as the last equal one is equal to the searched key, whichever side of it the descent took
module _ (at : Place → Ordering) where
  marked : (old : Option Place) (p : Place) (equal : Bool) → equal ≡ equal_at at p → ((q : Place) → old ≡ Some q → equal_at at q ≡ true)
      → (q : Place) → last_equal old p equal ≡ Some q → equal_at at q ≡ true
  marked old p true same was q is = subst (λ z. equal_at at z ≡ true) (some_same is) (sym same)
  marked old p false same was q is = was q is

  -- if the descent goes left at an equal member, this member is the last one that compared equal
  marked_here : (old : Option Place) (p q : Place) (equal : Bool) → equal ≡ equal_at at p → Some p ≡ Some q → equal_at at q ≡ true → last_equal old p equal ≡ Some q
  marked_here old p q true same is here_too = is
  marked_here old p q false same is here_too = let k : false ≡ true = same ∙ ap (equal_at at) (some_same is) ∙ here_too in cc

  -- a descent does not go right at one equal member and left at another, because the side at equal members is fixed
  never : (equals : Side) (a b : Ordering) → true ≡ is_eq a → false ≡ goes_left equals a → goes_left equals b ≡ true → is_eq b ≡ true → ⊥
  never Left Less b e goes back here_too = cc
  never Left Equal b e goes back here_too = cc
  never Left Greater b e goes back here_too = cc
  never Right a Less e goes back here_too = cc
  never Right a Equal e goes back here_too = cc
  never Right a Greater e goes back here_too = cc

  marked_back : (equals : Side) (old : Option Place) (p q : Place) (equal : Bool) → equal ≡ equal_at at p → false ≡ goes_left equals (at p) → goes_left equals (at q) ≡ true → equal_at at q ≡ true
      → old ≡ Some q → last_equal old p equal ≡ Some q
  marked_back equals old p q true same goes back here_too is = absurd (never equals (at p) (at q) same goes back here_too)
  marked_back equals old p q false same goes back here_too is = is

-- if all members of a sequence are placed, the member p of the sequence has an object
pub placed_there : {V : Type 0} (objects : Objects V) (s : List Place) (p : Place) (t : List Place) → ArePlaced objects (s ++ p ∷ t) → IsSome (object_at objects p)
placed_there objects [] p t h = h.0
placed_there objects (x ∷ s) p t h = placed_there objects s p t h.1

module _ {E : Type 0} (n : E → Node) where
  -- A DESCENT IN PROGRESS has come to the subtree with the root `here`, below the frames fs. The descent has made one comparison for each frame
  pub record Sent (v : Table E) (root : Option Place) (at : Place → Ordering) (equals : Side) (tree : Tree) (here : Option Place) (d : Descent) (start count : ℕ) : Type 0 where
    pub fs : List Frame
    pub t : Tree
    pub stands : ClimbState n v v root fs t []
    pub same : plug fs t ≡ tree
    pub here_is : here ≡ top t
    pub sends : SendsPast (λ p. goes_left equals (at p)) fs
    pub parent_is : d.parent ≡ above fs
    pub side_is : IsOn d.side fs
    pub front_is : d.front ≡ last (before fs)
    pub back_is : d.back ≡ first (after fs)
    pub is_marked : (q : Place) → d.equal ≡ Some q → equal_at at q ≡ true
    pub back_marked : (q : Place) → d.back ≡ Some q → equal_at at q ≡ true → d.equal ≡ Some q
    pub back_goes : (q : Place) → d.back ≡ Some q → goes_left equals (at q) ≡ true
    pub counted : count ≡ start + length fs

  module _ {v : Table E} {root : Option Place} {at : Place → Ordering} {equals : Side} where
    first_at : {s : List Place} (start : ℕ) (h : Represents n v root s) → Sent v root at equals h.tree root at_root start start
    first_at start h = record {
      fs = [];
      t = h.tree;
      stands = stands_of n h;
      same = refl;
      here_is = h.starts;
      sends = tt;
      parent_is = refl;
      side_is = tt;
      front_is = refl;
      back_is = refl;
      is_marked = λ q e. absurd (none_not q e);
      back_marked = λ q e. absurd (none_not q e);
      back_goes = λ q e. absurd (none_not q e);
      counted = omega arith;
    }

    pub sent_first : {s : List Place} {d : Descent} → d ≡ at_root → (start : ℕ) (h : Represents n v root s) → Sent v root at equals h.tree root d start start
    sent_first {s} {d} is start h = subst (λ z. Sent v root at equals h.tree root z start start) (sym is) (first_at start h)

    module _ {tree : Tree} {here : Option Place} {d : Descent} {start count : ℕ} (x : Sent v root at equals tree here d start count) where
      module _ {p : Place} (is : here ≡ Some p) where
        -- the member p to which the descent has come is linked, and the probe can count a comparison with it without an overflow
        pub sent_linked : (n (v.entry p)).linked ≡ true
        sent_linked = (opened n Left x.fs x.t x.stands (sym x.here_is ∙ is)).linked

        sent_high : length x.fs + 1 ≤ length x.fs + height x.t
        sent_high = high x.t (sym x.here_is ∙ is) where
          high : (t : Tree) → top t ≡ Some p → length x.fs + 1 ≤ length x.fs + height t
          high leaf e = absurd (none_not p e)
          high (fork c a q b) e = omega arith

        pub sent_low : {s : List Place} (h : Represents n v root s) → h.tree ≡ tree → length x.fs + 1 ≤ 66
        sent_low h same = path_few n h x.fs x.t (length x.fs + 1) (x.same ∙ sym same) sent_high

        pub sent_room : {s : List Place} (h : Represents n v root s) → h.tree ≡ tree → start + 66 ≤ 18446744073709551615 → count < 18446744073709551615
        sent_room h same room = let few = sent_low h same in omega (arith, few, room, x.counted)

        -- the member p to which the descent has come has an object
        pub sent_placed : {V : Type 0} (objects : Objects V) {s : List Place} (h : Represents n v root s) → h.tree ≡ tree → ArePlaced objects s → IsSome (object_at objects p)
        sent_placed objects {s} h same placed =
            let o = opened n Left x.fs x.t x.stands (sym x.here_is ∙ is) in
            let order : s ≡ (before x.fs ++ in_order o.a) ++ p ∷ (in_order o.b ++ after x.fs) =
            sym h.held.order ∙ ap in_order (same ∙ sym x.same ∙ ap (plug x.fs) o.is) ∙ order_around x.fs o.c o.a p o.b (before x.fs ++ in_order o.a) (in_order o.b ++ after x.fs) refl refl in
            placed_there objects (before x.fs ++ in_order o.a) p (in_order o.b ++ after x.fs) (subst (ArePlaced objects) order placed)

        past : {order : Ordering} (left : Bool) {equal : Bool} → order ≡ at p → left ≡ goes_left equals order → equal ≡ is_eq order
            → {next : Option Place} → next ≡ child_on (side_of left) (n (v.entry p)) → {more : ℕ} → more ≡ count + 1 → Sent v root at equals tree next (passed d p left equal) start more
        past true there goes equal_is next_is more_is =
            let o = opened n Left x.fs x.t x.stands (sym x.here_is ∙ is) in
            record {
              fs = frame Left o.c p o.b ∷ x.fs;
              t = o.a;
              stands = o.down;
              same = sym (ap (plug x.fs) o.is) ∙ x.same;
              here_is = next_is ∙ o.near;
              sends = (ap side_of (goes ∙ ap (goes_left equals) there), x.sends);
              parent_is = refl;
              side_is = refl;
              front_is = x.front_is;
              back_is = refl;
              is_marked = marked at d.equal p _ (equal_is ∙ ap is_eq there) x.is_marked;
              back_marked = λ q e too. marked_here at d.equal p q _ (equal_is ∙ ap is_eq there) e too;
              back_goes = λ q e. sym (goes ∙ ap (goes_left equals) (there ∙ ap at (some_same e)));
              counted = omega (arith, more_is, x.counted);
            }
        past false there goes equal_is next_is more_is =
            let o = opened n Right x.fs x.t x.stands (sym x.here_is ∙ is) in
            record {
              fs = frame Right o.c p o.b ∷ x.fs;
              t = o.a;
              stands = o.down;
              same = sym (ap (plug x.fs) o.is) ∙ x.same;
              here_is = next_is ∙ o.near;
              sends = (ap side_of (goes ∙ ap (goes_left equals) there), x.sends);
              parent_is = refl;
              side_is = refl;
              front_is = sym (nearest_frame Left o.c p o.b x.fs);
              back_is = x.back_is;
              is_marked = marked at d.equal p _ (equal_is ∙ ap is_eq there) x.is_marked;
              back_marked = λ q e too. marked_back at equals d.equal p q _ (equal_is ∙ ap is_eq there) (goes ∙ ap (goes_left equals) there) (x.back_goes q e) too (x.back_marked q e too);
              back_goes = x.back_goes;
              counted = omega (arith, more_is, x.counted);
            }

        -- ONE STEP DOWN from the member p, to the side that the comparison selects, keeps the state of the descent right
        pub sent_on : {d' : Descent} (left : Bool) {equal : Bool} → d' ≡ passed d p left equal → {order : Ordering} → order ≡ at p → left ≡ goes_left equals order → equal ≡ is_eq order
            → {next : Option Place} → next ≡ child_on (side_of left) (n (v.entry p)) → {more : ℕ} → more ≡ count + 1 → Sent v root at equals tree next d' start more
        sent_on left is_passed there goes equal_is {next} next_is {more} more_is =
            subst (λ z. Sent v root at equals tree next z start more) (sym is_passed) (past left there goes equal_is next_is more_is)

      -- after 66 comparisons the descent has come to a missing child
      pub sent_over : {s : List Place} (h : Represents n v root s) → h.tree ≡ tree → 66 ≤ length x.fs → here ≡ None
      sent_over h same all = by here refl where
        by : (o : Option Place) → here ≡ o → o ≡ None
        by None e = refl
        by (Some p) e = let few = sent_low e h same in absurd (omega (arith, few, all))

      -- THE END OF THE DESCENT is a missing child: `here` is none
      module _ (none : here ≡ None) where
        bare : x.t ≡ leaf
        bare = top_leaf x.t (sym x.here_is ∙ none)

        gap_is : gap_in (λ p. goes_left equals (at p)) tree ≡ record { front = before x.fs; back = after x.fs }
        gap_is =
            sym (ap (gap_in (λ p. goes_left equals (at p))) x.same)
            ∙ gap_plug (λ p. goes_left equals (at p)) x.fs x.t x.sends
            ∙ ap (λ t. gap_around x.fs (gap_in (λ p. goes_left equals (at p)) t)) bare
            ∙ (λ k. record { front = append-nil (before x.fs) k; back = after x.fs })

        insert_pos_is : IsInsertPos n v d.parent d.side (record { front = before x.fs; back = after x.fs })
        insert_pos_is = subst (λ o. IsInsertPos n v o d.side (record { front = before x.fs; back = after x.fs })) (sym x.parent_is) (by x.fs x.stands x.side_is) where
          by : (fs : List Frame) → ClimbState n v v root fs x.t [] → IsOn d.side fs → IsInsertPos n v (above fs) d.side (record { front = before fs; back = after fs })
          by [] h on = (refl, refl)
          by (frame k c q b ∷ fs) h on =
              subst (λ z. IsInsertPos n v (Some q) z (record { front = before (frame k c q b ∷ fs); back = after (frame k c q b ∷ fs) })) (sym on)
              (side_near n v.entry k q c (top x.t) (top b) (above fs) h.are.0.0.0 ∙ sym x.here_is ∙ none, beside k c q b fs)
            where
              beside : (k : Side) (c : Color) (q : Place) (b : Tree) (fs : List Frame) → IsBeside k (record { front = before (frame k c q b ∷ fs); back = after (frame k c q b ∷ fs) }) (Some q)
              beside Left c q b fs = refl
              beside Right c q b fs = sym (nearest_frame Left c q b fs)

        equal_by : (o : Option Place) → d.back ≡ o → is_last d.equal o ≡ equal_there at o
        equal_by None e = refl
        equal_by (Some p) e = pick (equal_at at p) refl where
          pick : (b : Bool) → equal_at at p ≡ b → is_end d.equal p ≡ equal_at at p
          pick true is = is_end_there (x.back_marked p e is) ∙ sym is
          pick false not_it = is_end_not d.equal p (λ same. let k : true ≡ false = sym (x.is_marked p same) ∙ not_it in cc) ∙ sym not_it

        pub sent_ends : EndsAt n v at equals tree d
        sent_ends = record {
          insert_pos = subst (IsInsertPos n v d.parent d.side) (sym gap_is) insert_pos_is;
          front_is = x.front_is ∙ sym (ap (λ (g : Cut). last g.front) gap_is);
          back_is = x.back_is ∙ sym (ap (λ (g : Cut). first g.back) gap_is);
          equal_is = equal_by d.back refl;
        }

        -- if the tree has a member, a descent that has ended has made at least one comparison
        pub sent_some : {s : List Place} (h : Represents n v root s) → h.tree ≡ tree → 1 ≤ length s → 1 ≤ length x.fs
        sent_some {s} h same some = by x.fs (sym h.held.order ∙ ap in_order (same ∙ sym x.same ∙ ap (plug x.fs) bare)) where
          by : (fs : List Frame) → s ≡ in_order (plug fs leaf) → 1 ≤ length fs
          by [] empty = omega (arith, some, ap length empty)
          by (f ∷ fs) there = omega arith

      -- the number of comparisons, one for each member on the path down, is within the bound of a descent
      pub sent_few : {s : List Place} (h : Represents n v root s) → h.tree ≡ tree → 2 ^ length x.fs ≤ (length s + 1) ^ 2
      sent_few {s} h same =
          subst (λ z. 2 ^ length x.fs ≤ (length z + 1) ^ 2) (ap in_order (x.same ∙ sym same) ∙ h.held.order)
          (looks_few x.fs x.t (length x.fs) (subst IsRight (sym (x.same ∙ sym same)) h.shape) (omega arith))

      -- if the tree has a member, even one comparison more would be within the bound of a descent
      pub sent_fewer : {s : List Place} (h : Represents n v root s) → h.tree ≡ tree → 1 ≤ length s → 2 ^ (length x.fs + 1) ≤ (length s + 1) ^ 2
      sent_fewer {s} h same =
          subst (λ z. 1 ≤ length z → 2 ^ (length x.fs + 1) ≤ (length z + 1) ^ 2) (ap in_order (x.same ∙ sym same) ∙ h.held.order)
          (looks_fewer x.fs x.t (length x.fs) (subst IsRight (sym (x.same ∙ sym same)) h.shape) (omega arith))

  -- THE COMPARISONS of a descent that has ended are as many as `Looks` states
  pub sent_looks : {P V : Type 0} (order : P → V → Ordering) (count : P → ℕ) {old new : P} {v : Table E} {root : Option Place} {at : Place → Ordering} {equals : Side} {s : List Place} (h : Represents n v root s)
      {here : Option Place} {d : Descent} → Sent v root at equals h.tree here d (count old) (count new) → here ≡ None → order new ≡ order old → Looks order count old new s
  sent_looks order count h x none same = record {
    looks = length x.fs;
    counted = x.counted;
    few = record { few = sent_few x h refl; some = sent_some x none h refl };
    fewer = sent_fewer x h refl;
    order_is = same;
  }

  -- A PROBE'S DESCENT has come to `here`. The probe was in the state `old` at the root, and is in the state `now`, in which it compares as in `old`
  pub record Comes {P V : Type 0} (order : P → V → Ordering) (count : P → ℕ) (objects : Objects V) (v : Table E) (root : Option Place) (equals : Side) (old now : P) (here : Option Place) (d : Descent) : Type 0 where
    pub each : (s : List Place) (h : Represents n v root s) → Sent v root (compared (order old) objects) equals h.tree here d (count old) (count now)
    pub same : order now ≡ order old

  module _ {P V : Type 0} (order : P → V → Ordering) (count : P → ℕ) (objects : Objects V) {v : Table E} {root : Option Place} {equals : Side} {old : P} where
    pub comes_first : {d : Descent} → d ≡ at_root → Comes order count objects v root equals old old root d
    comes_first is = record { each = λ s h. sent_first is (count old) h; same = refl }

    -- if the descent has come to the member p, and the probe compares p, the descent comes to the child of p on the side that the comparison selects
    pub comes_on : {now more : P} {here next : Option Place} {d d' : Descent} {p : Place} → Comes order count objects v root equals old now here d → here ≡ Some p → (left : Bool)
        → d' ≡ passed d p left (is_eq (compared (order now) objects p)) → left ≡ goes_left equals (compared (order now) objects p)
        → next ≡ child_on (side_of left) (n (v.entry p)) → count more ≡ count now + 1 → order more ≡ order now
        → Comes order count objects v root equals old more next d'
    comes_on {p = p} x is left is_passed goes next_is counted same = record {
      each = λ s h. sent_on (x.each s h) is left is_passed (ap (λ o. compared o objects p) x.same) goes refl next_is counted;
      same = same ∙ x.same;
    }

-- THE RESULTS OF SEARCHES follow from the gap in which a descent ends. The member after the gap is the result if it is equal to the searched key
equal_kept : (at : Place → Ordering) (o : Option Place) (x : Bool) → x ≡ equal_there at o → (result : Option Place) → result ≡ cond x o None → result ≡ if_passes (equal_at at) o
equal_kept at None true e result is = is
equal_kept at None false e result is = is
equal_kept at (Some p) x e result is = is ∙ ap (λ y. cond y (Some p) None) e

pub not_ge : (o : Ordering) → is_lt o ≡ not (is_ge o)
not_ge Less = refl
not_ge Equal = refl
not_ge Greater = refl

pub not_gt : (o : Ordering) → is_le o ≡ not (is_gt o)
not_gt Less = refl
not_gt Equal = refl
not_gt Greater = refl

module _ {E : Type 0} (n : E → Node) where
  -- if a descent from the optional place `other` ends in a gap, and `other` is the root, then the descent from the root ends in this gap
  pub ends_at_root : {v : Table E} {root other : Option Place} {at : Place → Ordering} {equals : Side} {d : Descent} → other ≡ root
      → ((s : List Place) (h : Represents n v other s) → EndsAt n v at equals h.tree d) → {s : List Place} (h : Represents n v root s) → EndsAt n v at equals h.tree d
  ends_at_root is ends {s} h = ends s (record { tree = h.tree; held = h.held; starts = is ∙ h.starts; shape = h.shape })

  module _ {v : Table E} {root : Option Place} {s : List Place} (h : Represents n v root s) where
    module _ {at : Place → Ordering} {d : Descent} where
      pub finds : EndsAt n v at Left h.tree d → {result : Option Place} → result ≡ cond (is_equal d) d.back None → Finds at s result
      finds x {result} is = record {
        gap = gap_in (at_most_at at) h.tree;
        same = gap_join (at_most_at at) h.tree ∙ h.held.order;
        border = gap_border (at_most_at at) h.tree;
        answer = equal_kept at d.back (is_equal d) x.equal_is result is ∙ ap (if_passes (equal_at at)) x.back_is;
      }

      -- AN ENTRY IS OCCUPIED if the member after the gap is equal to the searched key. The search finds this member
      pub occupies : EndsAt n v at Left h.tree d → is_equal d ≡ true → {result : Option Place} → result ≡ d.back → Finds at s result × IsSome result
      occupies x equal {result} is = (finds x (is ∙ ap (λ z. cond z d.back None) (sym equal)), subst IsSome (sym is) (some d.back (sym x.equal_is ∙ equal))) where
        some : (o : Option Place) → equal_there at o ≡ true → IsSome o
        some None e = e
        some (Some p) e = refl

      -- the member before the gap of a descent is the member before the gap to which the test of an upper bound leads
      pub beyond_included : EndsAt n v at Right h.tree d → {result : Option Place} → result ≡ d.front → result ≡ last (gap_in (is_beyond (Included at)) h.tree).front
      beyond_included x is = is ∙ x.front_is ∙ ap (λ (g : Cut). last g.front) (gap_same (λ p. is_lt (at p)) (is_beyond (Included at)) (λ p. not_ge (at p)) h.tree)

      pub beyond_excluded : EndsAt n v at Left h.tree d → {result : Option Place} → result ≡ d.front → result ≡ last (gap_in (is_beyond (Excluded at)) h.tree).front
      beyond_excluded x is = is ∙ x.front_is ∙ ap (λ (g : Cut). last g.front) (gap_same (λ p. is_le (at p)) (is_beyond (Excluded at)) (λ p. not_gt (at p)) h.tree)

    -- as a lower bound, `Unbounded` leads to the gap before the first member, and as an upper bound to the gap after the last member
    pub lower_unbounded : {result : Option Place} → result ≡ first s → result ≡ first (gap_in (meets_lower Unbounded) h.tree).back
    lower_unbounded is = is ∙ ap first (sym h.held.order) ∙ sym (ap (λ (g : Cut). first g.back) (gap_all h.tree))

    pub upper_unbounded : {result : Option Place} → result ≡ last s → result ≡ last (gap_in (is_beyond Unbounded) h.tree).front
    upper_unbounded is = is ∙ ap last (sym h.held.order) ∙ sym (ap (λ (g : Cut). last g.front) (gap_none h.tree))

  -- the member after the gap of a lower bound, or none, is a lower border of this bound
  pub lower_border : {v : Table E} {root : Option Place} {s : List Place} (h : Represents n v root s) (b : Bound (Place → Ordering)) {result : Option Place} → result ≡ first (gap_in (meets_lower b) h.tree).back → IsLowerBorder b s result
  lower_border h b is = record { gap = gap_in (meets_lower b) h.tree; same = gap_join (meets_lower b) h.tree ∙ h.held.order; before = is; border = gap_border (meets_lower b) h.tree }

  pub upper_border : {v : Table E} {root : Option Place} {s : List Place} (h : Represents n v root s) (b : Bound (Place → Ordering)) {result : Option Place} → result ≡ last (gap_in (is_beyond b) h.tree).front → IsUpperBorder b s result
  upper_border h b is = record { gap = gap_in (is_beyond b) h.tree; same = gap_join (is_beyond b) h.tree ∙ h.held.order; after = is; border = gap_border (is_beyond b) h.tree }

-- AN ENTRY IS VACANT if the member after the gap is not equal to the searched key. The member before the gap, if any, is then less than the key, and the member
-- after the gap, if any, is greater
le_lt : (o : Ordering) → is_le o ≡ false → is_lt o ≡ false
le_lt Less e = e
le_lt Equal e = refl
le_lt Greater e = refl

lt_of : (o : Ordering) → is_le o ≡ true → is_eq o ≡ false → is_lt o ≡ true
lt_of Less e k = refl
lt_of Equal e k = sym k
lt_of Greater e k = e

module _ {E : Type 0} (n : E → Node) {A L H : Type 0} where
  pub vacant_for : {v : Table E} {root : Option Place} {s : List Place} (h : Represents n v root s) {at : Place → Ordering} {d : Descent} → EndsAt n v at Left h.tree d → is_equal d ≡ false
      → (c : InsertCursor A L H) → c.parent ≡ d.parent → c.side ≡ d.side → IsVacantFor n at v s c
  vacant_for {v} h {at} {d} x equal c parent_is side_is =
      let gap : Cut = gap_in (at_most_at at) h.tree in
      let border : IsBorder (at_most_at at) gap = gap_border (at_most_at at) h.tree in
      record {
        gap = gap;
        same = gap_join (at_most_at at) h.tree ∙ h.held.order;
        is_at = subst (λ o. IsInsertPos n v o c.side gap) (sym parent_is) (subst (λ k. IsInsertPos n v d.parent k gap) (sym side_is) x.insert_pos);
        smaller = border;
        larger = record {
          fails = λ q e. le_lt (at q) (border.fails q e);
          passes = λ q e. lt_of (at q) (border.passes q e) (sym (ap (equal_there at) (x.back_is ∙ e)) ∙ sym x.equal_is ∙ equal);
        };
      }

-- two searches with equal adapters and equal keys compare in the same order
pub same_order : {A V K : Type 0} (cmp : K → K → Ordering) (key_of : A → V → K) {a b : A} {key other : K} → b ≡ a → other ≡ key → order_of cmp (key_of b) other ≡ order_of cmp (key_of a) key
same_order cmp key_of {a} {b} {key} {other} adapter same = ap (λ z. order_of cmp (key_of z) other) adapter ∙ ap (order_of cmp (key_of a)) same

-- a lower border of a bound is a lower border of an equal bound
pub lower_same : {b other : Bound (Place → Ordering)} {s : List Place} {o k : Option Place} → b ≡ other → k ≡ o → IsLowerBorder b s o → IsLowerBorder other s k
lower_same {b} {other} {s} {o} {k} same is x = subst (λ z. IsLowerBorder z s k) same (record { gap = x.gap; same = x.same; before = is ∙ x.before; border = x.border })

pub upper_same : {b other : Bound (Place → Ordering)} {s : List Place} {o k : Option Place} → b ≡ other → k ≡ o → IsUpperBorder b s o → IsUpperBorder other s k
upper_same {b} {other} {s} {o} {k} same is x = subst (λ z. IsUpperBorder z s k) same (record { gap = x.gap; same = x.same; after = is ∙ x.after; border = x.border })

-- A POSITION THAT A SEARCH RETURNS is valid for a cursor
module _ {L E H : Type 0} {Represents : Table E → H → List Place → Type 0} {table : L → Table E} {site : CursorState L H} {s : List Place} (shown : RepresentsAt Represents table site s) {o : Option Place} (is : site.position ≡ o) where
  pub found_stands : {at : Place → Ordering} → Finds at s o → PositionStands Represents table site
  found_stands {at} f = by (first f.gap.back) refl where
    by : (k : Option Place) → first f.gap.back ≡ k → PositionStands Represents table site
    by None e = stands_null s shown (is ∙ f.answer ∙ ap (if_passes (equal_at at)) e)
    by (Some p) e = pick (equal_at at p) refl where
      pick : (x : Bool) → equal_at at p ≡ x → PositionStands Represents table site
      pick true y = stands_by_gap f.gap (rw f.same shown) (is ∙ f.answer ∙ ap (if_passes (equal_at at)) e ∙ ap (λ z. cond z (Some p) None) y ∙ sym e)
      pick false y = stands_null s shown (is ∙ f.answer ∙ ap (if_passes (equal_at at)) e ∙ ap (λ z. cond z (Some p) None) y)

  pub lower_stands : {b : Bound (Place → Ordering)} → IsLowerBorder b s o → PositionStands Represents table site
  lower_stands b = stands_by_gap b.gap (rw b.same shown) (is ∙ b.before)

  pub upper_stands : {b : Bound (Place → Ordering)} → IsUpperBorder b s o → PositionStands Represents table site
  upper_stands b = record { gap = b.gap; shown = rw b.same shown; after = is ∙ b.after }
