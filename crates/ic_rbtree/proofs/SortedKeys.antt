-- Lemmas about sequences whose objects are in the order of their keys: one object more or one object less keeps this order.
use Rattle.std.proofs.Common.{◌≡◌, ◌≢◌, ℕ, ◌≤◌, Bool, true, false, cond, Option, Some, None, IsSome, Result, Ok, Err, OnOk, OnErr, IfErr, List, [], ◌∷◌, ◌++◌, map, filter, refl, sym, ap, subst, arith, true≢false, ◌<◌, nat_cmp, Less, Equal, Greater, Ordering}
use Rattle.std.proofs.lemmas.Cmp.{nat_cmp_total, ranked}
use Rattle.std.specs.List.{AllByRecursion, cons_option}
use Rattle.ic_link_ops.specs.Prelude.{Place, Objects, object_at, IsAbsent, join, insert, Table, CursorState, RepresentsAt, IsValidCursor, HasMember, ArePlaced, values_at, LinkStep, Node, RemovesThere}
use Rattle.ic_link_ops.specs.declared.errors.AlreadyLinked.{AlreadyLinked}
use Rattle.ic_link_ops.specs.RedBlackTree as Trees
use Rattle.ic_link_ops.proofs.Prelude.{all_beside, member_there, represents_nothing, all_back, all_with, all_without}
use Rattle.ic_rbtree.specs.Prelude.{IsBorder, IsSorted, less_at, InsertsInOrder, key_or, key_at, keys_at, against, RepresentsSorted, root_of}
use Rattle.ic_rbtree.specs.declared.tree.RBTree.{RBTree}
use Rattle.ic_rbtree.proofs.KeyLaws.{value_there, stays_sorted}
use Rattle.ic_rbtree.proofs.SortedValues.{own_order_is}

-- if the number k does not compare as greater than the number l, then k is at most l
pub up_is : (k l : ℕ) → nat_cmp k l ≢ Greater → k ≤ l
up_is k l h = by (nat_cmp k l) refl h where
  by : (r : Ordering) → r ≡ nat_cmp k l → r ≢ Greater → k ≤ l
  by Less e h = let x : k < l = ranked k l Less e in omega arith
  by Equal e h = let x : k ≡ l = ranked k l Equal e in omega arith
  by Greater e h = absurd (h refl)

pub is_up : (k l : ℕ) → k ≤ l → nat_cmp k l ≢ Greater
is_up k l h = λ e. let less : l < k = ranked k l Greater (sym e) in omega (arith, less, h)

-- A LIST SORTED BY KEYS stays sorted if one element is left out
module _ {T : Type 0} (key : T → ℕ) where
  skip : (p q : T) (s : List T) → IsSorted nat_cmp (map key (p ∷ q ∷ s)) → IsSorted nat_cmp (map key (p ∷ s))
  skip p q [] h = tt
  skip p q (r ∷ s) h =
      let x = up_is (key p) (key q) h.0 in
      let y = up_is (key q) (key r) h.1.0 in
      (is_up (key p) (key r) (omega arith), h.1.1)

  pub sorted_without : (front : List T) (p : T) (back : List T) → IsSorted nat_cmp (map key (front ++ p ∷ back)) → IsSorted nat_cmp (map key (front ++ back))
  sorted_without [] p [] h = tt
  sorted_without [] p (x ∷ back) h = h.1
  sorted_without (f ∷ []) p back h = skip f p back h
  sorted_without (f ∷ g ∷ front) p back h = (h.0, sorted_without (g ∷ front) p back h.1)

  sorted_after : (p : T) (s : List T) → IsSorted nat_cmp (map key (p ∷ s)) → IsSorted nat_cmp (map key s)
  sorted_after p [] h = tt
  sorted_after p (q ∷ s) h = h.1

  pub sorted_back : (front back : List T) → IsSorted nat_cmp (map key (front ++ back)) → IsSorted nat_cmp (map key back)
  sorted_back [] back h = h
  sorted_back (p ∷ front) back h = sorted_back front back (sorted_after p (front ++ back) h)

  -- THE FIRST ELEMENT of a sorted list has the least key
  pub first_is_least : (p : T) (s : List T) → IsSorted nat_cmp (map key (p ∷ s)) → AllByRecursion (λ q. key p ≤ key q) s
  first_is_least p [] h = tt
  first_is_least p (q ∷ s) h = (up_is _ _ h.0, first_is_least p s (skip p q s h))

  -- in a sorted list, no key before an element p is greater than the key of p
  pub front_is_least : (front : List T) (p : T) (back : List T) → IsSorted nat_cmp (map key (front ++ p ∷ back)) → AllByRecursion (λ q. key q ≤ key p) front
  front_is_least [] p back sorted = tt
  front_is_least (q ∷ front) p back sorted =
      ((all_back (λ x. key q ≤ key x) front (p ∷ back) (first_is_least q (front ++ p ∷ back) sorted)).0, front_is_least front p back (sorted_after q (front ++ p ∷ back) sorted))

  -- A SORTED LIST stays sorted if only the elements that pass a test are kept. `all_kept` states that what holds for all elements holds for the kept ones
  all_kept : (P : T → Type 0) (test : T → Bool) (s : List T) → AllByRecursion P s → AllByRecursion P (filter test s)
  all_kept P test [] h = tt
  all_kept P test (x ∷ s) h = by (test x) (all_kept P test s h.1) where
    by : (b : Bool) → AllByRecursion P (filter test s) → AllByRecursion P (cond b (x ∷ filter test s) (filter test s))
    by true rest = (h.0, rest)
    by false rest = rest

  rises_from : (p : T) (s : List T) → AllByRecursion (λ q. key p ≤ key q) s → IsSorted nat_cmp (map key s) → IsSorted nat_cmp (map key (p ∷ s))
  rises_from p [] least sorted = tt
  rises_from p (q ∷ s) least sorted = (is_up (key p) (key q) least.0, sorted)

  pub sorted_filter : (test : T → Bool) (s : List T) → IsSorted nat_cmp (map key s) → IsSorted nat_cmp (map key (filter test s))
  sorted_filter test [] h = tt
  sorted_filter test (p ∷ s) h = by (test p) (sorted_filter test s (sorted_after p s h)) where
    by : (b : Bool) → IsSorted nat_cmp (map key (filter test s)) → IsSorted nat_cmp (map key (cond b (p ∷ filter test s) (filter test s)))
    by true rest = rises_from p (filter test s) (all_kept (λ q. key p ≤ key q) test s (first_is_least p s h)) rest
    by false rest = rest

module _ {T : Type 0} (key : T → ℕ) (objects : Objects T) where
  -- THE EMPTY SEQUENCE IS SORTED: the table represents this sequence for a new tree
  pub new_is_sorted : {E : Type 0} {n : E → Node} {t : Table E} {root : Option Place} → root ≡ None → RepresentsSorted key (Trees.Represents n t root) objects
  new_is_sorted {n = n} {t} e = record { placed = record { members = []; shown = rw e (represents_nothing {n = n} t); placed = tt }; sorted = tt }

  -- if all members are placed, the list of the keys at the members is the list of the keys of their values
  pub keys_are : (s : List Place) → ArePlaced objects s → keys_at key objects s ≡ map key (values_at objects s)
  keys_are [] placed = refl
  keys_are (p ∷ s) placed = by (object_at objects p) placed.0 (keys_are s placed.1) where
    by : (o : Option T) → IsSome o → keys_at key objects s ≡ map key (values_at objects s) → key_or key o ∷ keys_at key objects s ≡ map key (cons_option o (values_at objects s))
    by None h rest = absurd (true≢false (sym h))
    by (Some v) h rest = ap (λ l. key v ∷ l) rest

  -- THE REPRESENTED SEQUENCE s has an object at each member, and the keys of these objects are sorted. `one` states that no other sequence is represented
  pub represented_sorted : {shows : List Place → Type 0} → ((s u : List Place) → shows s → shows u → s ≡ u) → RepresentsSorted key shows objects → {s : List Place} → shows s
      → ArePlaced objects s × IsSorted nat_cmp (map key (values_at objects s))
  represented_sorted one q {s} shown =
      let same = one q.placed.members s q.placed.shown shown in
      let sorted = subst (IsSorted nat_cmp) (keys_are q.placed.members q.placed.placed) q.sorted in
      (subst (ArePlaced objects) same q.placed.placed, subst (λ (t : List Place). IsSorted nat_cmp (map key (values_at objects t))) same sorted)

  -- if the table represents a sorted sequence, and a place with an object is inserted in order, the table represents a sorted sequence again
  inserted : {E H : Type 0} (Represents : Table E → H → List Place → Type 0) (old new : Table E) (head new_head : H) {p : Place} → IsSome (object_at objects p)
      → (q : RepresentsSorted key (Represents old head) objects) → InsertsInOrder Represents (against key objects p) old new new_head q.placed.members p → RepresentsSorted key (Represents new new_head) objects
  inserted Represents old new head new_head {p} here q x =
      let placed : ArePlaced objects (join x.gap) = subst (ArePlaced objects) (sym x.same) q.placed.placed in
      let all : ArePlaced objects (insert x.gap p) = all_with (λ q. IsSome (object_at objects q)) x.gap.front p x.gap.back here placed in
      let sorted : IsSorted nat_cmp (map key (values_at objects (join x.gap))) =
      subst (λ s. IsSorted nat_cmp (map key (values_at objects s))) (sym x.same) (subst (IsSorted nat_cmp) (keys_are q.placed.members q.placed.placed) q.sorted) in
      let own = value_there nat_cmp_total key objects (object_at objects p) here in
      let border = subst (λ at. IsBorder (less_at at) x.gap) (own_order_is nat_cmp key objects p own.1) x.border in
      record {
        placed = record { members = insert x.gap p; shown = x.inserted.shows; placed = all };
        sorted = subst (IsSorted nat_cmp) (sym (keys_are (insert x.gap p) all)) (stays_sorted nat_cmp_total key objects p own.1 x.gap placed sorted border);
      }

  -- A SORTED SEQUENCE STAYS SORTED if a tree inserts an object where its key belongs, or if the insert is refused
  pub sorted_inserted : {A L E : Type 0} {n : E → Node} {table : L → Table E} {Refused : L → L → Place → Type 0} → ((a b : L) (q : Place) → Refused a b q → table b ≡ table a)
      → {old new : L} (tree after : RBTree A (Option Place)) (p : Place) → IsSome (object_at objects p) → (q : RepresentsSorted key (Trees.Represents n (table old) (root_of tree)) objects)
      → {X Y : Type 0} (r : Result X (AlreadyLinked Y)) → OnOk r (InsertsInOrder (Trees.Represents n) (against key objects p) (table old) (table new) (root_of after) q.placed.members p)
      → OnErr r (Refused old new p) → IfErr r (λ refused. (refused.0 ≡ p) × (after ≡ tree)) → RepresentsSorted key (Trees.Represents n (table new) (root_of after)) objects
  sorted_inserted {n = n} {table} keeps {old} {new} tree after p here q (Ok a) puts refused unchanged = inserted (Trees.Represents n) (table old) (table new) (root_of tree) (root_of after) here q puts
  sorted_inserted keeps tree after p here q (Err e) puts refused unchanged = record {
    placed = record { members = q.placed.members; shown = rw (keeps _ _ _ refused, unchanged.1) q.placed.shown; placed = q.placed.placed };
    sorted = q.sorted;
  }

  -- a sorted sequence stays sorted if a member is removed
  module _ {old new : List Place → Type 0} (one : (s u : List Place) → old s → old u → s ≡ u) where
    pub sorted_less : {p : Place} → HasMember old p → ((front back : List Place) → old (front ++ p ∷ back) → new (front ++ back))
        → RepresentsSorted key old objects → RepresentsSorted key new objects
    sorted_less {p} m off q =
        let same : q.placed.members ≡ m.front ++ p ∷ m.back = one q.placed.members (m.front ++ p ∷ m.back) q.placed.shown m.shown in
        record {
          placed = record { members = m.front ++ m.back; shown = off m.front m.back m.shown; placed = all_without (λ q. IsSome (object_at objects q)) m.front p m.back (subst (ArePlaced objects) same q.placed.placed) };
          sorted = sorted_without (key_at key objects) m.front p m.back (subst (λ s. IsSorted nat_cmp (keys_at key objects s)) same q.sorted);
        }

  module _ {L E H : Type 0} {Represents : Table E → H → List Place → Type 0} {table : L → Table E} {Trace : L → L → List LinkStep → Type 0} {old new : CursorState L H} where
    -- a sorted sequence stays sorted if the member at a position is removed
    pub sorted_taken : ((s u : List Place) → RepresentsAt Represents table old s → RepresentsAt Represents table old u → s ≡ u) → IsValidCursor Represents table old → (r : Option Place)
        → RemovesThere Represents table Trace old r new → RepresentsSorted key (RepresentsAt Represents table old) objects → RepresentsSorted key (RepresentsAt Represents table new) objects
    sorted_taken one stands None off q = subst (λ (z : CursorState L H). RepresentsSorted key (RepresentsAt Represents table z) objects) (sym off.null) q
    sorted_taken one stands (Some p) off q = sorted_less one (member_there stands (sym off.answer))
        (λ front back shown. (off.removed (record { front = front; back = p ∷ back }) shown (sym off.answer)).shows) q

-- THE ORDER STAYS if only the object at one place changes, and this place is no member
module _ {T : Type 0} (key : T → ℕ) (old new : Objects T) (p : Place) (others : (q : Place) → q ≢ p → object_at new q ≡ object_at old q) where
  keys_beside : (s : List Place) → IsAbsent p s → keys_at key new s ≡ keys_at key old s
  keys_beside [] out = refl
  keys_beside (x ∷ s) out = rw (others x (λ e. out.0 (sym e)), keys_beside s out.1) refl

  pub sorted_beside : {before after : List Place → Type 0} → ((s : List Place) → before s → IsAbsent p s) → ((s : List Place) → before s → IsAbsent p s → after s)
      → RepresentsSorted key before old → RepresentsSorted key after new
  sorted_beside gone stays q =
      let s = q.placed.members in
      let out = gone s q.placed.shown in
      record {
        placed = record { members = s; shown = stays s q.placed.shown out; placed = all_beside old new p others IsSome s out q.placed.placed };
        sorted = rw (keys_beside s out) q.sorted;
      }
