-- A tree has each object of a container, and these lemmas say what each kind of step keeps and what a search finds.
use Rattle.std.proofs.Common.{◌≡◌, ◌≢◌, ℕ, Bool, true, false, cond, Option, None, Some, is_some, IsSome, List, [], ◌∷◌, ◌++◌, map, filter, drop, length, ◌<◌, ◌≤◌, inl, inr, refl, sym, ap, ◌∙◌, subst, arith, true≢false, option_copied, nat_cmp, is_eq, is_lt, Ordering, Less, Equal, Greater}
use Rattle.std.proofs.lemmas.Bool.Decides.{nat_tests}
use Rattle.std.proofs.lemmas.Bool.{false_from_ne_true}
use Rattle.std.proofs.lemmas.Cmp.{nat_cmp_total, ranked, tied_itself}
use Rattle.std.specs.Borrow.{Bor}
use Rattle.std.specs.List.{AllByRecursion, cons_option}
use Rattle.ic_link_ops.specs.Prelude.{Place, Objects, Places, Frees, object_at, is_placed, IsDistinct, IsMember, first, Table, IsCovered, IsUnlinked, ChangesOnlyIn, LinksAlso, Unlinks, HasMember, ArePlaced, RepresentsPlaced, StandAt, values_at}
use Rattle.ic_link_ops.proofs.Prelude.{same_or_not, IsKind, kept_represented, all_back, stand_beside, vacant_absent, none_not, some_same, red_black_trees}
use Rattle.ic_unsafe_ref.proofs.Placing.{gone_there, leaves, others_left, others_placed, placed_there, without}
use Rattle.ic_link_ops.specs.RedBlackTree.{Node, Represents}
use Rattle.ic_link_ops.proofs.Calling.{has_member}
use Rattle.ic_link_ops.proofs.Covering.{still_covered}
use Rattle.ic_pool.specs.Pooled.{Grows}
use Rattle.ic_rbtree.specs.Prelude.{Finds, IsBorder, IsSorted, equal_at, less_at, answer_at, compared, order_of, own_order, InsertsInOrder, members, TreeLinkOps, is_linked, plain_table, RepresentsSorted, key_at, key_or}
use Rattle.ic_container.specs.EachObject.{ReadsTrees}
use Rattle.ic_container.specs.EachLaws.{each_first, each_linked, each_ready, each_new, each_taken, vacant_free, wide_reads}
use Rattle.ic_rbtree.proofs.Passing.{passed}
use Rattle.ic_rbtree.proofs.Members.{members_represented}
use Rattle.ic_rbtree.proofs.SortedAnswers.{found_first}
use Rattle.ic_rbtree.proofs.SortedKeys.{keys_are}
use Rattle.ic_rbtree.proofs.SortedValues.{greater_after, own_order_is}
use Rattle.ic_container.specs.Orders.{IsWhole}
use Rattle.ic_container.specs.TreeLaws.{all_grown}
use Rattle.ic_container.specs.Trees.{HasAll, HasAllIn, IsFound, IsFoundObject, IsUnique, LacksOne, PutsInOrder}
use Rattle.ic_container.specs.Values.{Without}
use Rattle.ic_container.proofs.NumberedListLemmas.{no_front}
use Rattle.ic_container.proofs.ValueLemmas.{member_placed, no_more}

-- A TABLE WITH ROOM FOR NO PLACE has no linked place, whatever the width of its words is
pub nothing_linked : {L E : Type 0} {node : E → Node} {linked : E → Bool} {table : L → Table E} → ReadsTrees node linked table → (links : L) → (table links).extent.places ≡ 0 → (p : Place) → IsUnlinked linked (table links) p
nothing_linked reads links none p = false_from_ne_true _ (λ is. let within = reads.covered links p is in absurd (omega (arith, within, none)))

pub tree_off : {A : Type 0} (links : TreeLinkOps A) → (plain_table links).extent.places ≡ 0 → (p : Place) → IsUnlinked is_linked (plain_table links) p
tree_off = nothing_linked wide_reads

-- if a search for the first member that passes a test finds none, no member of the sequence passes
none_pass : (test : Place → Bool) (s : List Place) → None ≡ first (filter test s) → (q : Place) → IsMember q s → test q ≡ false
none_pass test [] none q member = absurd (member tt)
none_pass test (x ∷ s) none q member = by (test x) refl none (λ none. none_pass test s none q) where
  other : (b : Bool) → test q ≡ b → test x ≡ false → (IsMember q s → test q ≡ false) → test q ≡ false
  other false f e rest = f
  other true f e rest = rest (λ out. member ((λ same. true≢false (sym f ∙ ap test same ∙ e)), out))

  by : (b : Bool) → test x ≡ b → None ≡ first (cond b (x ∷ filter test s) (filter test s)) → (None ≡ first (filter test s) → IsMember q s → test q ≡ false) → test q ≡ false
  by true e none rest = absurd (none_not x none)
  by false e none rest = other (test q) refl e (rest none)

module _ {T : Type 0} (key : T → ℕ) (objects : Objects T) (k : ℕ) where
  -- whether there is an object with the key k at the place p, as a search compares keys
  abbrev has_it : Place → Bool
  has_it p = equal_at (compared (order_of nat_cmp key k) objects) p

  same_key : (l : ℕ) (r : Ordering) → r ≡ nat_cmp k l → is_eq r ≡ true → l ≡ k
  same_key l Less e h = absurd (true≢false (sym h))
  same_key l Equal e h = sym (ranked k l Equal e)
  same_key l Greater e h = absurd (true≢false (sym h))

  there_by : (p : Place) → has_it p ≡ true → (v : T) × (object_at objects p ≡ Some v) × (key v ≡ k)
  there_by p h = by (object_at objects p) refl h where
    by : (o : Option T) → object_at objects p ≡ o → is_eq (answer_at (order_of nat_cmp key k) o) ≡ true → (v : T) × (object_at objects p ≡ Some v) × (key v ≡ k)
    by None e h = absurd (true≢false (sym h))
    by (Some v) e h = (v, e, same_key (key v) (nat_cmp k (key v)) refl h)

  by_there : (p : Place) (v : T) → object_at objects p ≡ Some v → key v ≡ k → has_it p ≡ true
  by_there p v there same =
      ap (λ (o : Option T). is_eq (answer_at (order_of nat_cmp key k) o)) there ∙ ap (λ (l : ℕ). is_eq (nat_cmp k l)) same ∙ ap is_eq (tied_itself nat_cmp_total k)

module _ {T : Type 0} (key : T → ℕ) (objects : Objects T) where
  -- if all values of a sequence have keys greater than d, the objects at all its members have keys greater than d
  all_later : (d : ℕ) (s : List Place) → ArePlaced objects s → AllByRecursion (λ (x : T). is_lt (nat_cmp d (key x)) ≡ true) (values_at objects s) → AllByRecursion (λ q. d < key_at key objects q) s
  all_later d [] placed h = tt
  all_later d (q ∷ s) placed h = by (object_at objects q) placed.0 (all_later d s placed.1) h where
    less : (a b : ℕ) → is_lt (nat_cmp a b) ≡ true → a < b
    less a b h = grind (arith, nat_tests)

    by : (o : Option T) → IsSome o → (AllByRecursion (λ (x : T). is_lt (nat_cmp d (key x)) ≡ true) (values_at objects s) → AllByRecursion (λ q. d < key_at key objects q) s)
        → AllByRecursion (λ (x : T). is_lt (nat_cmp d (key x)) ≡ true) (cons_option o (values_at objects s)) → (d < key_or key o) × AllByRecursion (λ q. d < key_at key objects q) s
    by None here rest h = absurd (true≢false (sym here))
    by (Some v) here rest h = (less d (key v) h.0, rest h.1)

module _ {L E : Type 0} {node : E → Node} {linked : E → Bool} {table : L → Table E} {T : Type 0} (key : T → ℕ) (objects : Objects T) where
  -- AT FIRST the empty tree has each object, because there is no object
  pub all_none : ReadsTrees node linked table → (links : L) (root : Option Place) → (table links).extent.places ≡ 0 → root ≡ None → ((p : Place) → object_at objects p ≡ None) → HasAllIn node linked table key links root objects
  all_none reads links root none empty vacant = record { values = []; each = each_first reads (nothing_linked reads links none) empty vacant }

  module _ {links : L} {root : Option Place} (a : HasAllIn node linked table key links root objects) where
    abbrev kind : IsKind (Represents node) linked None
    kind = red_black_trees a.each.reads.alike

    are_members : (links : L) {root : Option Place} {s : List Place} → Represents node (table links) root s → members node (table links) root ≡ s
    are_members links {root} {s} shown = members_represented (table links) (λ q is. a.each.reads.covered links q (sym (a.each.reads.alike _) ∙ is)) root s shown

    -- an object is a member of the tree, and each member of the tree has an object
    pub all_stands : (p : Place) {v : T} → object_at objects p ≡ Some v → HasMember (Represents node (table links) root) p
    all_stands p there = has_member (Represents node (table links) root) a.each.sorted.members a.each.sorted.shown (λ absent. true≢false (sym (each_linked a.each p there) ∙ a.each.sorted.only p absent))

    pub all_member : {p : Place} → is_placed objects p ≡ true → HasMember (Represents node (table links) root) p
    all_member {p} is = by (object_at objects p) refl is where
      by : (o : Option T) → object_at objects p ≡ o → is_some o ≡ true → HasMember (Represents node (table links) root) p
      by None e h = absurd (true≢false (sym h))
      by (Some v) e h = all_stands p e

    -- after an edit of the tree, the table of links still covers the place of an object. `frame` is a clause of the call
    pub all_covered : (p : Place) {v : T} (new : L) → object_at objects p ≡ Some v → ((s : List Place) → Represents node (table links) root s → ChangesOnlyIn (table links) (table new) s) → IsCovered (table new) p
    all_covered p new there frame = still_covered p (frame a.each.sorted.members a.each.sorted.shown) (a.each.reads.covered links p (each_linked a.each p there))

    pub all_represented : Represents node (table links) root (members node (table links) root)
    all_represented = subst (Represents node (table links) root) (sym (are_members links a.each.sorted.shown)) a.each.sorted.shown

    pub all_placed : RepresentsPlaced (Represents node (table links) root) objects
    all_placed = record { members = a.each.sorted.members; shown = a.each.sorted.shown; placed = a.each.sorted.stand.placed }

    -- THE MEMBERS OF THE TREE are in the order of their keys
    pub all_members : members node (table links) root ≡ a.each.sorted.members
    all_members = are_members links a.each.sorted.shown

    pub all_stand : ArePlaced objects (members node (table links) root)
    all_stand = subst (ArePlaced objects) (sym all_members) a.each.sorted.stand.placed

    pub all_values : values_at objects (members node (table links) root) ≡ a.values
    all_values = ap (values_at objects) all_members ∙ a.each.sorted.stand.are

    pub all_distinct : IsDistinct (members node (table links) root)
    all_distinct = kind.distinct (table links) root (members node (table links) root) all_represented

    pub all_sorted : RepresentsSorted key (Represents node (table links) root) objects
    unfolding all_placed
    all_sorted = record {
      placed = all_placed;
      sorted = subst (IsSorted nat_cmp) (sym (keys_are key objects a.each.sorted.members a.each.sorted.stand.placed ∙ ap (map key) a.each.sorted.stand.are)) a.each.sorted.sorted;
    }

    pub members_grown : (grown : L) → Grows (table links) (table grown) → members node (table grown) root ≡ members node (table links) root
    members_grown grown grows = are_members grown (kept_represented kind grows.entries all_represented)

    -- A SEARCH FINDS an object with the key k, if there is one. `found` is a clause of the call
    pub all_found : (k : ℕ) (position : Option Place) → ((s : List Place) → Represents node (table links) root s → Finds (compared (order_of nat_cmp key k) objects) s position) → IsFound key objects k position
    all_found k position found = by position refl where
      f : Finds (compared (order_of nat_cmp key k) objects) a.each.sorted.members position
      f = found a.each.sorted.members a.each.sorted.shown

      by : (o : Option Place) → position ≡ o → IsFound key objects k o
      by (Some p) e = there_by key objects k p (passed (has_it key objects k) (first f.gap.back) p (sym e ∙ f.answer)).1
      by None e = λ p v there same.
          let rises = subst (λ (l : List T). IsSorted nat_cmp (map key l)) (sym a.each.sorted.stand.are) a.each.sorted.sorted in
          let is = found_first nat_cmp_total (λ (adapter : ℕ). key) 0 objects a.each.sorted.stand.placed rises k f in
          true≢false (sym (by_there key objects k p v there same) ∙ none_pass (has_it key objects k) a.each.sorted.members (sym e ∙ is) p
          (λ absent. true≢false (sym (each_linked a.each p there) ∙ a.each.sorted.only p absent)))

    -- THE TREE HAS AS MANY MEMBERS as an order of the objects has places
    pub as_many_keys : (s : List Place) → IsWhole (record { order = s; values = objects }) → length (members node (table links) root) ≡ length s
    as_many_keys s w = omega (arith, ap length (are_members links a.each.sorted.shown), up, down) where
      up : length a.each.sorted.members ≤ length s
      up = no_more a.each.sorted.members s (kind.distinct (table links) root a.each.sorted.members a.each.sorted.shown)
          (λ q member. w.all q (member_placed objects a.each.sorted.members a.each.sorted.stand.placed q member))

      down : length s ≤ length a.each.sorted.members
      down = no_more s a.each.sorted.members w.once (λ q member absent. true≢false (sym (member_placed objects s w.placed q member) ∙ sym (a.each.exact q) ∙ a.each.sorted.only q absent))

    -- A NEW OBJECT IS STORED: each member of the tree still has an object, and the new object is not linked
    module _ {more : Objects T} {p : Place} {v : T} (places : Places objects more p v) where
      pub all_ready : RepresentsPlaced (Represents node (table links) root) more
      all_ready = each_ready a.each places

      pub all_off : IsUnlinked linked (table links) p
      all_off = vacant_free a.each p places.vacant

      -- the new object is inserted, and the tree has each object. `inserted` and `acquired` are clauses of the call
      pub all_new : (new : L) (top : Option Place) → ((s : List Place) → Represents node (table links) root s → InsertsInOrder (Represents node) (compared (own_order nat_cmp key more p) more) (table links) (table new) top s p)
          → LinksAlso linked (table links) (table new) p → HasAllIn node linked table key new top more
      all_new new top inserted acquired = let n = each_new a.each places inserted acquired in record { values = n.0; each = n.2 }

      -- the new object comes after all objects with an equal or a lower key
      pub order_new : (new : L) (top : Option Place) → ((s : List Place) → Represents node (table links) root s → InsertsInOrder (Represents node) (compared (own_order nat_cmp key more p) more) (table links) (table new) top s p)
          → PutsInOrder key more (members node (table links) root) (members node (table new) top) p
      order_new new top inserted =
          let x = inserted a.each.sorted.members a.each.sorted.shown in
          let stood = subst (λ (s : List Place). StandAt more s a.values) (sym x.same)
          (stand_beside objects more p (others_placed places) (vacant_absent objects p places.vacant a.each.sorted.members a.each.sorted.stand.placed) a.each.sorted.stand) in
          let rises = subst (λ (l : List T). IsSorted nat_cmp (map key l)) (sym stood.are) a.each.sorted.sorted in
          let border = subst (λ at. IsBorder (less_at at) x.gap) (own_order_is nat_cmp key more p (placed_there places)) x.border in
          record {
            front = x.gap.front;
            back = x.gap.back;
            was = all_members ∙ sym x.same;
            is = are_members new x.inserted.shows;
            later = subst (λ (o : Option T). AllByRecursion (λ q. key_or key o < key_at key more q) x.gap.back) (sym (placed_there places))
                (all_later key more (key v) x.gap.back (all_back (λ q. IsSome (object_at more q)) x.gap.front x.gap.back stood.placed) (greater_after nat_cmp_total key more (key v) x.gap stood.placed rises border));
          }

    -- Lemmas about an object that is removed from the tree, and then from the objects
    module _ {p : Place} {out : T} (there : object_at objects p ≡ Some out) where
      pub all_freed : (new : L) (top : Option Place) {less : Objects T} → ((front back : List Place) → Represents node (table links) root (front ++ p ∷ back) → Represents node (table new) top (front ++ back))
          → Unlinks linked (table links) (table new) p → Frees objects less p → HasAllIn node linked table key new top less
      all_freed new top removed off frees = let t = each_taken a.each p there removed off frees in record { values = t.0 ++ t.1; each = t.3 }

      pub order_left : (new : L) (top : Option Place) → ((front back : List Place) → Represents node (table links) root (front ++ p ∷ back) → Represents node (table new) top (front ++ back)) → Without p (members node (table links) root) (members node (table new) top)
      order_left new top removed =
          let m = all_stands p there in
          record { front = m.front; back = m.back; was = are_members links m.shown; is = are_members new (removed m.front m.back m.shown) }

      -- Lemmas about an object whose value is replaced by a value with any key. The object is removed from the tree, its value is changed, and the object is
      -- inserted where the new key belongs
      pub all_less : (new : L) (top : Option Place) (value : T) → ((front back : List Place) → Represents node (table links) root (front ++ p ∷ back) → Represents node (table new) top (front ++ back))
          → Unlinks linked (table links) (table new) p → HasAllIn node linked table key new top (without objects p value)
      all_less new top value removed off = all_freed new top removed off (leaves objects p value)

    -- the contract of a removal of any member also holds for the removal of the first member p, because no member is before p. `popped`: after the removal,
    -- the tree has all members except the first
    pub first_removed : (new : L) (top : Option Place) {p : Place} → Some p ≡ first (members node (table links) root) → ((s : List Place) → Represents node (table links) root s → Represents node (table new) top (drop 1 s))
        → (front back : List Place) → Represents node (table links) root (front ++ p ∷ back) → Represents node (table new) top (front ++ back)
    first_removed new top is popped [] back shown = popped (_ ∷ back) shown
    first_removed new top {p} is popped (x ∷ front) back shown =
        let never : x ∷ front ≡ [] = no_front p (members node (table links) root) all_distinct is (x ∷ front) back (are_members links shown) in absurd (cc)

    -- AFTER A NEW OBJECT WAS STORED, and the table may have grown, the tree has all objects except the new one
    pub all_lacks : {more : Objects T} {p : Place} {v : T} (grown : L) → Grows (table links) (table grown) → Places objects more p v → LacksOne (HasAllIn node linked table key grown root) more p
    all_lacks grown grows places = record { less = objects; value = _; places = places; all = all_grown key objects a grown grows }

-- over a plain table of 8-byte words, the empty tree has each object at first, because there is no object
pub all_first : {T A : Type 0} (key : T → ℕ) (objects : Objects T) (links : TreeLinkOps A) (root : Option Place) → (plain_table links).extent.places ≡ 0 → root ≡ None → ((p : Place) → object_at objects p ≡ None) → HasAll key links root objects
all_first key objects = all_none key objects wide_reads

module _ {T : Type 0} (key : T → ℕ) (objects : Objects T) where
  -- if a search returned an object, this object has the key k. `found_none`: if a search returned none, no object has the key k
  pub found_some : (k : ℕ) (o : Option (Bor T)) → is_some o ≡ true → IsFoundObject key objects k (option_copied o) → (value : T) × IsFoundObject key objects k (Some value)
  found_some k None is found = absurd (true≢false (sym is))
  found_some k (Some lent) is found = (lent.now, found)

  pub found_none : (k : ℕ) (o : Option (Bor T)) → is_some o ≡ false → IsFoundObject key objects k (option_copied o) → IsFoundObject key objects k None
  found_none k None is found = found
  found_none k (Some lent) is found = absurd (true≢false is)

  -- NO TWO OBJECTS HAVE EQUAL KEYS at first, because there is no object
  pub unique_first : ((p : Place) → object_at objects p ≡ None) → IsUnique key objects
  unique_first vacant p q v w there at same = absurd (none_not v (sym (vacant p) ∙ there))

  module _ (unique : IsUnique key objects) where
    -- no two objects have equal keys after a new object is stored whose key no object had
    pub unique_new : {more : Objects T} {p : Place} {value : T} → Places objects more p value → IsFound key objects (key value) None → IsUnique key more
    unique_new {more} {p} {value} places none q r v w there at same = elim (same_or_not q p) [
      | inl e ↦ elim (same_or_not r p) [ inl f ↦ e ∙ sym f | inr n ↦ absurd (none r w (was r w n at) (sym same ∙ here q v e there)) ]
      | inr m ↦ elim (same_or_not r p) [ inl f ↦ absurd (none q v (was q v m there) (same ∙ here r w f at)) | inr n ↦ unique q r v w (was q v m there) (was r w n at) same ]
    ] where
      was : (s : Place) (u : T) → s ≢ p → object_at more s ≡ Some u → object_at objects s ≡ Some u
      was s u n at = sym (others_placed places s n) ∙ at

      here : (s : Place) (u : T) → s ≡ p → object_at more s ≡ Some u → key u ≡ key value
      here s u e at = ap key (some_same (sym at ∙ ap (object_at more) e ∙ placed_there places))

    -- no two objects have equal keys after an object is removed
    pub unique_freed : {less : Objects T} {p : Place} → Frees objects less p → IsUnique key less
    unique_freed {less} {p} frees q r v w there at same = unique q r v w (was q v there) (was r w at) same where
      was : (s : Place) (u : T) → object_at less s ≡ Some u → object_at objects s ≡ Some u
      was s u at = elim (same_or_not s p) [ inl e ↦ absurd (none_not u (sym (ap (object_at less) e ∙ gone_there frees) ∙ at)) | inr n ↦ sym (others_left frees s n) ∙ at ]
